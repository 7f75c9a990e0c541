-- The feed hands on the lines of its input, however the input is cut into parts: what is known of the line begun is `handed` of its
-- bytes, and each byte keeps that so.
use mathlib.Core.Path.{◌≡◌, refl, ◌∙◌, ap}
use mathlib.Core.Bool.{Bool, true, false, cond}
use mathlib.Core.List.{List, [], ◌∷◌, ◌++◌, map, flatten, append_assoc}
use Prim.Native.Nat.{ℕ}
use native.Mathlib.Omega.{arith}
use lib.Dec.{eqb, leb}
use lib.ListN.{length, length-append}
use borrow.Author.Tests.{lt-leb, leb-false}
use Rattle.text.specs.Parts.{after_all, given_by_all, begun_after_part, handed_by_part, handed_by_whole, handed_by_parts, Known}
use Rattle.text.specs.Lines.{line_feed, most_bytes, lines_after, lines_of, Handed, line, too_long, handed, handed_of}
use Rattle.text.specs.Feeding.{longer, begun_after, handed_by, handed_at_end, line_handing, started, begun_in, told_in}
use Rattle.text.specs.Feeding.{Ready, Holds, Stepped, FeedEnded}
use Rattle.text.proofs.Parts.{parts_join}
use Rattle.text.specs.declared.feed.Feed.{Feed}
use Rattle.text.specs.declared.feed.Fed.{Fed}
use Rattle.text.specs.declared.feed.Told.{Told}

-- An input

-- a byte more keeps it so, for a line that is too long as well
longer_handed : (begun : List ℕ) (byte : ℕ) → longer (handed begun) byte ≡ handed (begun ++ (byte ∷ []))
longer_handed begun byte = at_test (leb (length begun) most_bytes) refl
  where
    at_test :
        (t : Bool) → leb (length begun) most_bytes ≡ t → longer (cond t (line begun) too_long) byte ≡ handed (begun ++ (byte ∷ []))
    at_test true e = refl
    at_test false e =
        let over = leb-false (length begun) most_bytes e in
        let long = length-append begun (byte ∷ []) in
        rw (lt-leb (length (begun ++ (byte ∷ []))) most_bytes (omega arith)) refl

end_handed : (begun : List ℕ) → handed_at_end (handed begun) ≡ map handed (lines_after begun [])
unfolding handed_at_end lines_after
end_handed [] = refl
end_handed (byte ∷ begun) = at_test (leb (length (byte ∷ begun)) most_bytes)
  where
    at_test :
        (t : Bool) →
        handed_at_end (cond t (line (byte ∷ begun)) too_long) ≡ cond t (line (byte ∷ begun)) too_long ∷ []
    at_test true = refl
    at_test false = refl

lines_more :
    (begun : List ℕ) (byte : ℕ) (input : List ℕ) →
    lines_after begun (byte ∷ input) ≡
    cond (eqb byte line_feed) (begun ∷ lines_after [] input) (lines_after (begun ++ (byte ∷ [])) input)
unfolding lines_after
lines_more [] byte input = refl
lines_more (b ∷ begun) byte input = refl

hands_after :
    (begun input : List ℕ) →
    handed_by_whole line_handing (handed begun) input ≡ map handed (lines_after begun input)
unfolding given_by_all after_all handed_by begun_after
hands_after begun [] = end_handed begun
hands_after begun (byte ∷ input) =
    rw (lines_more begun byte input, longer_handed begun byte) (at_test (eqb byte line_feed) (λ b. hands_after b input))
  where
    more : List ℕ
    more = begun ++ (byte ∷ [])

    at_test :
        (t : Bool) →
        ((b : List ℕ) →
        handed_by_whole line_handing (handed b) input ≡ map handed (lines_after b input)) →
        (cond t (handed begun ∷ []) [] ++ handed_by_part line_handing (cond t (line []) (handed more)) input) ++
        handed_at_end (begun_after_part line_handing (cond t (line []) (handed more)) input) ≡
        map handed (cond t (begun ∷ lines_after [] input) (lines_after more input))
    at_test true again = ap (λ (hs : List Handed). handed begun ∷ hs) (again [])
    at_test false again = again more

-- The bytes of an input and then its end hand on its lines.
pub input_hands : (input : List ℕ) → handed_by_whole line_handing (line []) input ≡ handed_of input
unfolding handed_of lines_of
input_hands input = hands_after [] input

-- However an input is cut into parts, they hand on its lines.
pub parts_hand : (parts : List (List ℕ)) → handed_by_parts line_handing (line []) parts ≡ handed_of (flatten parts)
parts_hand parts = parts_join line_handing (line []) parts ∙ input_hands (flatten parts)

-- What the feed's functions do to the line begun that it holds

module _
    {before after : List ℕ} {feed : Feed} {byte : ℕ} {r : Fed} (step : Stepped before after feed byte r) (begun : Handed)
    (holds : Holds before feed begun) where
  pub step_holds : Holds after r.feed (begun_after begun byte)
  step_holds = record { ready = step.ready; is = step.begun ∙ ap (λ (h : Handed). begun_after h byte) holds.is }

  pub step_tells : told_in after r.told ≡ handed_by begun byte
  step_tells = step.told ∙ ap (λ (h : Handed). handed_by h byte) holds.is

pub end_tells :
    {buffer : List ℕ} {feed : Feed} {r : Told} → FeedEnded feed r → (begun : Handed) → Holds buffer feed begun →
    told_in buffer r ≡ handed_at_end begun
end_tells {buffer} ended begun holds = ended.told buffer holds.ready.long ∙ ap handed_at_end holds.is

begun_started : (buffer : List ℕ) → begun_in buffer started ≡ line []
unfolding begun_in
begun_started buffer = refl

pub start_holds : {buffer : List ℕ} → length buffer ≡ most_bytes → Known (Holds buffer started)
start_holds {buffer} long =
    record { begun = line []; is = record { ready = record { long = long; fits = omega arith }; is = begun_started buffer } }

-- A run of the code

-- `feed_byte` was called with each byte of an input, one after the other, and then `finish`; `told` is what they told of, in order.
pub data Run : List ℕ → Feed → List ℕ → List Handed → Type 0 where
  ends : {buffer : List ℕ} {feed : Feed} {r : Told} {told : List Handed} → FeedEnded feed r → told ≡ told_in buffer r → Run buffer feed [] told
  goes :
      {before after : List ℕ} {feed : Feed} {byte : ℕ} {r : Fed} {input : List ℕ} {told more : List Handed} →
      Stepped before after feed byte r → Run after r.feed input more → told ≡ told_in after r.told ++ more →
      Run before feed (byte ∷ input) told

run_on :
    {buffer : List ℕ} {feed : Feed} {input : List ℕ} {told : List Handed} → Ready buffer feed → Run buffer feed input told →
    told ≡ handed_by_whole line_handing (begun_in buffer feed) input
unfolding given_by_all after_all
run_on {buffer} ready (ends finished e) = e ∙ finished.told buffer ready.long
run_on ready (goes step run e) = rw (e, run_on step.ready run, step.begun, step.told) (simp append_assoc)

-- A run from the start hands on exactly the lines of its input.
pub run_hands :
    {buffer input : List ℕ} {told : List Handed} → length buffer ≡ most_bytes → Run buffer started input told → told ≡ handed_of input
unfolding begun_in
run_hands {buffer} {input} long run = run_on (record { long = long; fits = omega arith }) run ∙ input_hands input
