-- A batch does what its calls do one after the other, and each answer stands in its four words.
use Rattle.settings.specs.declared.Settings.{Settings}
use Rattle.std.specs.Prelude.{None, Option, Some}
use mathlib.Core.Path.{◌≡◌, refl, sym, ◌∙◌, ap, subst}
use mathlib.Core.Bool.{Bool, true, false, cond, ◌&&◌}
use mathlib.Core.List.{List, [], ◌∷◌, ◌++◌, map}
use Prim.Native.Nat.{ℕ, suc, ◌*◌, ◌≤◌}
use native.Mathlib.Omega.{arith}
use lib.Dec.{leb}
use lib.ListN.{length, take, drop, length-append}
use lib.Seq.{drop_at}
use borrow.Author.Tests.{leb-true}
use Rattle.lists.proofs.Tests.{cond_has}
use Rattle.answers.specs.Refusals.{Outcome, refused}
use Rattle.answers.specs.declared.Refusal.TheVariants.{BadBatch}
use Rattle.meaning.specs.Reading.{reading_of}
use Rattle.calls.specs.Calls.{operated, made_on, after_calls}
use Rattle.calls.specs.Batch.{BatchLent, are_calls, calls_in, answer_words, answers_to, fits, put_first, batch_done, batch_on, batch_out}
use Rattle.calls.specs.Promises.{BatchIs, BatchIsCalls, RefusedBatchAltersNothing, BatchRefusals}
use Rattle.answers.specs.declared.Operation.{Operation}

pub answers_length : (calls : List Operation) (ws : List ℕ) → length (answers_to calls ws) ≡ 4 * length calls
unfolding answers_to
answers_length [] ws = refl
answers_length (call ∷ calls) ws =
    let o = made_on (operated call) ws in
    omega (arith, length-append (answer_words o.answered) (answers_to calls o.left.words), answers_length calls o.left.words)

-- the answer of a call behind others
answer_at :
    (front : List Operation) (call : Operation) (later : List Operation) (ws rest : List ℕ) →
    take 4 (drop (4 * length front) (answers_to (front ++ (call ∷ later)) ws ++ rest)) ≡
    answer_words (made_on (operated call) (after_calls (map operated front) ws)).answered
unfolding answers_to after_calls
answer_at [] call later ws rest = refl
answer_at (first ∷ front) call later ws rest =
    let o = made_on (operated first) ws in
    let four : 4 * suc (length front) ≡ suc (suc (suc (suc (4 * length front)))) = omega arith in
    rw four (answer_at front call later o.left.words rest)

past_answers : (calls : List Operation) (lent : BatchLent) → 4 * length calls ≤ length lent.answers →
    drop (4 * length calls) (put_first (answers_to calls lent.words) lent.answers) ≡ drop (4 * length calls) lent.answers
past_answers calls lent room =
    let long = answers_length calls lent.words in
    drop_at (answers_to calls lent.words) (drop (length (answers_to calls lent.words)) lent.answers) (4 * length calls) long ∙
    ap (λ n. drop n lent.answers) long

done_is : (calls : List Operation) (lent : BatchLent) → 4 * length calls ≤ length lent.answers → BatchIs calls lent (batch_done calls lent).left
unfolding batch_done
done_is calls lent room =
    record {
      words = refl;
      answers = λ front call later is.
          subst
          (λ (cs : List Operation). take 4 (drop (4 * length front) (put_first (answers_to cs lent.words) lent.answers)) ≡
          answer_words (made_on (operated call) (after_calls (map operated front) lent.words)).answered) (sym is)
          (answer_at front call later lent.words _);
      kept = past_answers calls lent room;
    }

-- what fits has room
fits_room : (calls answers : List ℕ) → fits calls answers ≡ true → 4 * length (calls_in calls) ≤ length answers
unfolding fits
fits_room calls answers e = at (are_calls calls) (leb (4 * length (calls_in calls)) (length answers)) refl e
  where
    at :
        (s t : Bool) → leb (4 * length (calls_in calls)) (length answers) ≡ t → s && t && leb (length (calls_in calls)) 4294967295 ≡ true →
        4 * length (calls_in calls) ≤ length answers
    at true true h f = leb-true (4 * length (calls_in calls)) (length answers) h
    at true false h f = absurd (let z : ◌≡◌ {A = ℕ} 0 1 = cc in omega arith)
    at false t h f = absurd (let z : ◌≡◌ {A = ℕ} 0 1 = cc in omega arith)

done_count : (calls : List Operation) (lent : BatchLent) → (batch_done calls lent).answered.count ≡ length calls
unfolding batch_done
done_count calls lent = refl

pub batch_is_calls : BatchIsCalls
unfolding batch_out
batch_is_calls calls lent = at (reading_of lent.words)
  where
    Is : Outcome BatchLent → Type 0
    Is o = o.answered.refusal ≡ 0 → (o.answered.count ≡ length (calls_in calls)) × BatchIs (calls_in calls) lent o.left

    by : (t : Bool) → fits calls lent.answers ≡ t → Is (cond t (batch_done (calls_in calls) lent) (refused BadBatch lent))
    by true e z = (done_count (calls_in calls) lent, done_is (calls_in calls) lent (fits_room calls lent.answers e))
    by false e z = absurd (omega arith)

    at : (reading : Option Settings) → Is (batch_on calls lent reading)
    at (Some s) = by (fits calls lent.answers) refl
    at None = λ z. absurd (omega arith)

pub refused_batch_alters_nothing : RefusedBatchAltersNothing
unfolding batch_out batch_done
refused_batch_alters_nothing calls lent = at (reading_of lent.words)
  where
    Kept : Outcome BatchLent → Type 0
    Kept o = (o.answered.refusal ≡ 0 → ⊥) → o.left ≡ lent

    by : (t : Bool) → Kept (cond t (batch_done (calls_in calls) lent) (refused BadBatch lent))
    by true ne = absurd (ne refl)
    by false ne = refl

    at : (reading : Option Settings) → Kept (batch_on calls lent reading)
    at (Some s) = by (fits calls lent.answers)
    at None = λ ne. refl

pub batch_refusals : BatchRefusals
unfolding batch_out reading_of
batch_refusals calls lent = (λ none. rw none refl, λ list no_room. rw (list, no_room) refl)

pub batch_never_nine : (calls : List ℕ) (lent : BatchLent) → (batch_out calls lent).answered.refusal ≡ 9 → ⊥
unfolding batch_out batch_done
batch_never_nine calls lent = at (reading_of lent.words)
  where
    NotNine : Outcome BatchLent → Type 0
    NotNine o = o.answered.refusal ≡ 9 → ⊥

    at : (reading : Option Settings) → NotNine (batch_on calls lent reading)
    at (Some s) = cond_has NotNine (fits calls lent.answers) _ _ (λ e. omega arith) (λ e. omega arith)
    at None = λ e. omega arith
