-- From call to call of a batch, what is still to be done of it.
use mathlib.Core.Path.{◌≡◌, refl, sym, ◌∙◌, ap}
use mathlib.Core.List.{List, [], ◌∷◌, ◌++◌, map}
use Prim.Native.Nat.{ℕ, ◌+◌, ◌*◌, ◌≤◌}
use native.Mathlib.Omega.{arith}
use lib.ListN.{length, drop}
use lib.Seq.{sets, sets-eq}
use Rattle.settings.specs.declared.Settings.{Settings}
use Rattle.lists.proofs.Sets.{sets_append}
use Rattle.answers.specs.Refusals.{answer, Meets}
use Rattle.answers.specs.declared.Answer.{Answer}
use Rattle.answers.specs.declared.Operation.{Operation}
use Rattle.calls.specs.Calls.{outcome, operated, made_on, after_calls}
use Rattle.calls.specs.Batch.{BatchLent, answer_words, answers_to, batch_lent, batch_done}
use Rattle.calls.proofs.Batch.{answers_length}
use Rattle.operate.specs.Operated.{Operated}

-- What is still to be done of a batch: the calls left, on the words and answers as they stand, lead to where all of them lead from the start.
pub record ToDo (calls left : List Operation) (i : ℕ) (before after : BatchLent) : Type 0 where
  pub words : after_calls (map operated calls) before.words ≡ after_calls (map operated left) after.words
  pub answers : sets before.answers 0 (answers_to calls before.words) ≡ sets after.answers (4 * i) (answers_to left after.words)

pub one_done :
    {calls left : List Operation} {call : Operation} {i : ℕ} {before : BatchLent} {words answers us : List ℕ} {s : Settings} {r : Answer} →
    ToDo calls (call ∷ left) i before (batch_lent words answers) → Operated call s words r us →
    ToDo calls left (i + 1) before (batch_lent us (sets answers (4 * i) (answer_words r)))
unfolding after_calls answers_to outcome
one_done {left = left} {call} {i} {words = words} {answers} {us} {r = r} todo made =
    let next : 4 * i + 4 ≡ 4 * (i + 1) = omega arith in
    record {
      words = todo.words ∙ ap (after_calls (map operated left)) (sym made.met.left);
      answers =
          todo.answers ∙
          (sets_append answers (answer_words (made_on (operated call) words).answered) (answers_to left (made_on (operated call) words).left.words) (4 * i) ∙
          rw (← made.met.left, ← made.met.answered, next) refl);
    }

pub nothing_to_do :
    {calls : List Operation} {i : ℕ} {before after : BatchLent} {r : Answer} → ToDo calls [] i before after → 4 * length calls ≤ length before.answers →
    r ≡ answer 0 0 0 (length calls) → Meets (batch_done calls before) r after
unfolding batch_done after_calls answers_to
nothing_to_do {calls} {before = before} todo room answers =
    let long = answers_length calls before.words in
    let front = answers_to calls before.words in
    let start : 0 + length front ≡ length front = omega arith in
    let put = sets-eq front before.answers 0 (omega (arith, long)) ∙ ap (λ n. front ++ drop n before.answers) start in
    record {
      answered = answers;
      left = λ i. batch_lent (sym todo.words i) ((sym todo.answers ∙ put) i);
    }
