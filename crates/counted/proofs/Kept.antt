-- The calls on a list: the record is written anew where the live pairs may have changed, and kept where they have not.
use Rattle.std.specs.Prelude.{Some}
use mathlib.Core.Path.{◌≡◌, refl, sym, ap, ◌∙◌, subst}
use mathlib.Core.Bool.{true}
use mathlib.Core.List.{List, [], ◌∷◌, map}
use Prim.Native.Nat.{ℕ}
use lib.ListN.{length}
use Rattle.lists.specs.Lists.{those}
use Rattle.settings.specs.declared.Settings.{Settings}
use Rattle.answers.specs.Refusals.{Meets, answer_of}
use Rattle.answers.specs.declared.Answer.{Answer}
use Rattle.answers.specs.declared.Operation.{Operation}
use Rattle.notes.specs.Notes.{Logged}
use Rattle.meaning.specs.Row.{Node}
use Rattle.meaning.specs.Reading.{read}
use Rattle.meaning.specs.Operations.{operation_out}
use Rattle.meaning.specs.Layer.Listed.{Listed}
use Rattle.calls.specs.Records.{Lent, lent_of, record_out}
use Rattle.calls.specs.Saved.{file_lent, write_out}
use Rattle.calls.specs.Pairs.{pair, live_pairs}
use Rattle.calls.specs.Calls.{outcome, Made, made_on}
use Rattle.calls.specs.Effects.{operation_effect, effect, keeps_pairs}
use Rattle.calls.specs.declared.Call.{Call}
use Rattle.calls.specs.declared.Call.TheVariants.{Operate, Record, Write}
use Rattle.calls.proofs.Listed.{operation_listed, note_listed}
use Rattle.calls.proofs.Promises.{refused_alters_nothing}
use Rattle.calls.proofs.Booked.Book.{pairs_kept}
use Rattle.insert_record.specs.Noted.{Noted}
use Rattle.classes.specs.Classes.{live_keys, classes_in, classes_of}
use Rattle.counted.specs.Counted.{beside, words_beside, lent_words, counted_on, counted_out}
use Rattle.counted.specs.Checked.{Agreeing, refusal_of, Renewed}
use Rattle.answers.specs.declared.Refusal.{Refusal}
use Rattle.counted.proofs.Outcomes.{agree_full, refused_so, done_so, renewed_so}

-- the keys of the live pairs
keys_of : (row : List Node) → map (λ p. p.key) (map pair row) ≡ map (λ x. x.key) row
keys_of [] = refl
keys_of (x ∷ row) = ap {B = List ℕ} (λ keys. x.key ∷ keys) (keys_of row)

pub pair_keys : (ws : List ℕ) → map (λ p. p.key) (live_pairs ws) ≡ live_keys ws
pair_keys ws = keys_of (those (λ x. x.live) (read ws).row)

-- the same live pairs, the same record
pub same_classes : (us ws : List ℕ) → live_pairs us ≡ live_pairs ws → classes_of us ≡ classes_of ws
same_classes us ws e = ap classes_in (sym (pair_keys us) ∙ ap (map (λ p. p.key)) e ∙ pair_keys ws)

-- Any call

module _ (call : Call) (ws bytes : List ℕ) (last : ℕ) (classes : List ℕ) {s : Settings} (agreeing : Agreeing ws classes s) {r : Answer} {after : Lent} where
  -- one after which the record is written anew, unless it was refused
  pub call_renewed :
      {a : Answer} {left : List ℕ} → Meets (outcome call (lent_of ws bytes last)) a after → Renewed a after.words classes r left →
      Meets (counted_on lent_words (outcome call) (beside (lent_of ws bytes last) classes)) r (beside after left)
  call_renewed met renewed =
      let lent = lent_of ws bytes last in
      renewed_so lent_words (outcome call) (beside lent classes) agreeing met
      (λ ne. met.left ∙ refused_alters_nothing call lent (λ z. ne (ap (λ (a : Answer). a.refusal) met.answered ∙ z))) renewed

  -- one that leaves the live pairs as they are
  pub call_kept :
      keeps_pairs (effect (record { call = call; bytes = bytes; last = last }) (length ws)) ≡ true → Meets (outcome call (lent_of ws bytes last)) r after →
      Meets (counted_on lent_words (outcome call) (beside (lent_of ws bytes last) classes)) r (beside after classes)
  call_kept keeps met =
      let made : Made = record { call = call; bytes = bytes; last = last } in
      let left = (made_on made ws).left.words in
      done_so lent_words (outcome call) (beside (lent_of ws bytes last) classes) agreeing met
      (agree_full ws classes agreeing.agree
      ∙ sym (same_classes left ws (pairs_kept made ws agreeing.listed.list keeps))
      ∙ ap (λ (l : Lent). classes_of l.words) (sym met.left))

-- The five operations

module _ (operation : Operation) (ws : List ℕ) where
  operation_met :
      {us : List ℕ} {r : Answer} → Meets (operation_out operation ws) r us → Meets (outcome (Operate operation) (lent_of ws [] 0)) r (lent_of us [] 0)
  unfolding outcome
  operation_met met = record { answered = met.answered; left = ap (λ us. lent_of us [] 0) met.left }

  pub operation_after : {s : Settings} {r : Answer} {us : List ℕ} → Listed ws s → Meets (operation_out operation ws) r us → Listed us s
  operation_after listed met = rw met.left (operation_listed operation listed)

  module _ (classes : List ℕ) where
    pub operation_refused :
        {e : Refusal} {r : Answer} → refusal_of ws classes ≡ Some e → r ≡ answer_of e →
        Meets (counted_out (Operate operation) (words_beside ws classes)) r (words_beside ws classes)
    unfolding counted_out
    operation_refused = refused_so lent_words (outcome (Operate operation)) (words_beside ws classes)

    pub operation_renewed :
        {s : Settings} {a r : Answer} {us left : List ℕ} → Agreeing ws classes s → Meets (operation_out operation ws) a us → Renewed a us classes r left →
        Meets (counted_out (Operate operation) (words_beside ws classes)) r (words_beside us left)
    unfolding counted_out
    operation_renewed agreeing met = call_renewed (Operate operation) ws [] 0 classes agreeing (operation_met met)

    pub operation_kept :
        {s : Settings} {r : Answer} {us : List ℕ} → Agreeing ws classes s → keeps_pairs (operation_effect operation) ≡ true → Meets (operation_out operation ws) r us →
        Meets (counted_out (Operate operation) (words_beside ws classes)) r (words_beside us classes)
    unfolding counted_out
    operation_kept agreeing keeps met = call_kept (Operate operation) ws [] 0 classes agreeing keeps (operation_met met)

-- Record and write

module _ (ws bytes : List ℕ) (last : ℕ) (classes : List ℕ) where
  pub record_refused :
      {e : Refusal} {r : Answer} → refusal_of ws classes ≡ Some e → r ≡ answer_of e →
      Meets (counted_out Record (beside (lent_of ws bytes last) classes)) r (beside (lent_of ws bytes last) classes)
  unfolding counted_out
  record_refused = refused_so lent_words (outcome Record) (beside (lent_of ws bytes last) classes)

  pub write_refused :
      {e : Refusal} {r : Answer} → refusal_of ws classes ≡ Some e → r ≡ answer_of e →
      Meets (counted_out Write (beside (lent_of ws bytes last) classes)) r (beside (lent_of ws bytes last) classes)
  unfolding counted_out
  write_refused = refused_so lent_words (outcome Write) (beside (lent_of ws bytes last) classes)

  pub record_renewed :
      {s : Settings} {a r : Answer} {us left : List ℕ} {after : ℕ} → Agreeing ws classes s →
      Meets (record_out (lent_of ws bytes last)) a (lent_of us bytes after) → Renewed a us classes r left →
      Meets (counted_out Record (beside (lent_of ws bytes last) classes)) r (beside (lent_of us bytes after) left)
  unfolding counted_out outcome
  record_renewed agreeing met = call_renewed Record ws bytes last classes agreeing met

  pub write_kept :
      {s : Settings} {r : Answer} {us file : List ℕ} → Agreeing ws classes s → Meets (write_out (file_lent ws bytes)) r (file_lent us file) →
      Meets (counted_out Write (beside (lent_of ws bytes last) classes)) r (beside (lent_of us file last) classes)
  unfolding counted_out outcome
  write_kept agreeing met =
      call_kept Write ws bytes last classes agreeing refl
      (record { answered = met.answered; left = λ i. lent_of (met.left i).words (met.left i).file last })

-- a note leaves a list
pub note_after :
    {logged : Logged} {ws us : List ℕ} {last after : ℕ} {s : Settings} {r : Answer} → Listed ws s → Noted logged ws last r us after → Listed us s
note_after {logged} {last = last} {s = s} listed noted =
    subst (λ (l : Lent). Listed l.words s) (sym (noted.meets []).left) (note_listed logged [] last listed)
