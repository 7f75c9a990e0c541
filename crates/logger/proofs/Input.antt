-- What the functions of the program logger rest on: what a feed tells of is in range, the list stays one, and what a take leaves.
use Rattle.std.specs.Prelude.{None, Option, Some, Result, Ok, Err, eqb}
use mathlib.Core.Path.{◌≡◌, sym, ◌∙◌, ap, subst}
use mathlib.Core.Bool.{Bool, true, false, cond, true≢false}
use mathlib.Core.List.{List, [], ◌∷◌, ◌++◌}
use Prim.Native.Nat.{ℕ}
use borrow.Author.Tests.{eq-eqb}
use Rattle.lists.proofs.All.{All}
use Rattle.text.specs.Parts.{Known, BytesFed, EndFed}
use Rattle.text.proofs.Parts.{kept_by_bytes, kept_by_end}
use Rattle.notes.specs.Notes.{note_by, Within}
use Rattle.notes.specs.Export.{closes}
use Rattle.notes.specs.Feeding.{handed_by, handed_at_end, record_handing, Holds, told_in, ToldWithin, Stepped, FeedEnded}
use Rattle.notes.specs.Notes.{Logged}
use Rattle.notes.specs.declared.feed.Feed.{Feed}
use Rattle.notes.specs.declared.feed.Fed.{Fed}
use Rattle.notes.proofs.Notes.{notes_within}
use Rattle.meaning.specs.Operations.{take_out}
use Rattle.calls.specs.Records.{Lent, note_out}
use Rattle.calls.specs.Calls.{outcome, operated, lending}
use Rattle.answers.specs.declared.Operation.TheVariants.{Take}
use Rattle.calls.specs.declared.Call.TheVariants.{Operate}
use Rattle.settings.specs.declared.Settings.{Settings}
use Rattle.meaning.specs.Layer.Listed.{Listed}
use Rattle.calls.proofs.Listed.{operation_listed, note_listed}
use Rattle.calls.proofs.Promises.{refused_alters_nothing}
use Rattle.report.specs.Answered.{leaving}
use Rattle.logger.specs.Input.{kept, NothingToTake, Took}
use Rattle.logger.specs.declared.Failure.{Failure}

-- What is told of is in range, since some bytes note it.

all_told : (told : Option Logged) → All Within (told_in told) → ToldWithin told
all_told None within = tt
all_told (Some logged) within = within.0

handed_within : (begun : List ℕ) (byte : ℕ) → All Within (handed_by begun byte)
unfolding handed_by
handed_within begun byte = at (closes begun byte)
  where
    at : (t : Bool) → All Within (cond t (note_by (begun ++ (byte ∷ [])) ∷ []) [])
    at true = (notes_within (begun ++ (byte ∷ [])), tt)
    at false = tt

end_within : (begun : List ℕ) → All Within (handed_at_end begun)
unfolding handed_at_end
end_within [] = tt
end_within (b ∷ begun) = (notes_within (b ∷ begun), tt)

pub byte_told_within : {feed : Feed} {byte : ℕ} {r : Fed} → Known (Holds feed) → Stepped feed byte r → ToldWithin r.told
byte_told_within {byte = byte} {r = r} known step =
    all_told r.told (subst (All Within) (sym (step.told known.begun known.is)) (handed_within known.begun byte))

pub end_told_within : {feed : Feed} {r : Option Logged} → Known (Holds feed) → FeedEnded feed r → ToldWithin r
end_told_within {r = r} known ended =
    all_told r (subst (All Within) (sym (ended.told known.begun known.is)) (end_within known.begun))

-- The list stays one.

each_listed : {s : Settings} (lent : Lent) (logged : Logged) → Listed lent.words s → Listed (note_out logged lent).left.words s
each_listed lent logged listed = note_listed logged lent.bytes lent.last listed

module _ {P : List ℕ → Type 0} {words after : List ℕ} {last now-last : ℕ} {s : Settings} (had : Listed words s × Known P) where
  pub still_listed :
      {bytes : List ℕ} {Q : List ℕ → Type 0} → BytesFed record_handing (leaving note_out) bytes P (kept words last) Q (kept after now-last) →
      Listed after s × Known Q
  still_listed fed = kept_by_bytes record_handing (leaving note_out) {I = λ lent. Listed lent.words s} each_listed had fed

  pub end_listed : EndFed record_handing (leaving note_out) P (kept words last) (kept after now-last) → Listed after s
  end_listed fed = kept_by_end record_handing (leaving note_out) {I = λ lent. Listed lent.words s} each_listed had fed

pub take_listed : {before after : List ℕ} {r : Result Bool Failure} {s : Settings} → Listed before s → Took before after r → Listed after s
unfolding outcome
take_listed {s = s} listed took = subst (λ (us : List ℕ). Listed us s) (sym took.left) (operation_listed Take listed)

-- A take that is refused leaves the words, so that the next one is refused too.
refused_stays : (ws : List ℕ) → NothingToTake ws → (take_out ws).left ≡ ws
unfolding outcome
refused_stays ws none =
    ap (λ (lent : Lent). lent.words)
    (refused_alters_nothing (Operate Take) (lending (operated Take) ws) (λ z. let e = eq-eqb (take_out ws).answered.refusal 0 z in true≢false (sym e ∙ none)))

pub nothing_after : {before after : List ℕ} {r : Result Bool Failure} → Took before after r → r ≡ Ok false → NothingToTake after
nothing_after {before} took e =
    let none = took.nothing e in subst NothingToTake (sym (took.left ∙ refused_stays before none)) none

-- The two ways out of a take.

module _ {before after : List ℕ} (left : after ≡ (take_out before).left) where
  pub made_took : {more : Bool} → more ≡ eqb (take_out before).answered.refusal 0 → Took before after (Ok more)
  made_took {more = more} is = record { left = left; nothing = λ e. let none : more ≡ false = cc in sym is ∙ none }

  pub unwritten_took : {r : Result Bool Failure} {failure : Failure} → r ≡ Err failure → Took before after r
  unwritten_took failed = record { left = left; nothing = λ e. cc }
