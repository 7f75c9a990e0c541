-- The whole file: the bytes before the pairs and the pairs behind them are the file, and so each way out of a write has the outcome of the
-- definition.
use mathlib.Core.Path.{◌≡◌, refl, sym, ap, ◌∙◌, subst}
use mathlib.Core.List.{List, ◌++◌}
use Prim.Native.Nat.{ℕ, ◌+◌, ◌≤◌, ◌<◌}
use native.Mathlib.Nat.{zero-add}
use native.Mathlib.Omega.{arith}
use lib.ListN.{length, drop}
use lib.Seq.{sets, sets-eq}
use borrow.Author.Tests.{le-leb, lt-leb}
use Rattle.settings.specs.declared.Settings.{Settings}
use Rattle.lists.proofs.Sets.{sets_append}
use Rattle.files.specs.Files.{Pair, pair_bytes, before, file_length, front_of, file_of}
use Rattle.files.proofs.Written.{front_length, file_length_lem}
use Rattle.meaning.specs.Reading.{reading_of}
use Rattle.answers.specs.Refusals.{answer, Meets}
use Rattle.calls.specs.Pairs.{live_pairs}
use Rattle.calls.specs.Saved.{file_lent, written, write_out}
use Rattle.answers.specs.declared.Answer.{Answer}
use Rattle.meaning.specs.Layer.Listed.{Listed}

file_written :
    (l : List ℕ) (s : Settings) (pairs : List Pair) → file_length (length pairs) ≤ length l →
    sets (sets l 0 (front_of s (length pairs))) (before (length pairs)) (pair_bytes pairs) ≡ file_of s pairs ++ drop (length (file_of s pairs)) l
unfolding file_of
file_written l s pairs room =
    let front = front_of s (length pairs) in
    let file = file_of s pairs in
    let there : before (length pairs) ≡ 0 + length front = omega (arith, front_length s (length pairs)) in
    let fits : 0 + length file ≤ length l = omega (arith, file_length_lem s pairs) in
    ap (λ i. sets (sets l 0 front) i (pair_bytes pairs)) there
    ∙ sym (sets_append l front (pair_bytes pairs) 0)
    ∙ sets-eq file l 0 fits
    ∙ ap (λ n. file ++ drop n l) (zero-add (length file))

-- on a list, what is asked is whether there is room
outcome_is : {ws : List ℕ} {s : Settings} → Listed ws s → (file : List ℕ) → write_out (file_lent ws file) ≡ written (file_lent ws file) (file_of s (live_pairs ws))
unfolding write_out reading_of
outcome_is h file = rw (h.list, h.settings) refl

module _ {ws : List ℕ} {s : Settings} (h : Listed ws s) (file : List ℕ) {n : ℕ} (count : n ≡ length (live_pairs ws)) where
  long : length (file_of s (live_pairs ws)) ≡ file_length n
  long = file_length_lem s (live_pairs ws) ∙ ap file_length (sym count)

  pub write_refused : {r : Answer} → length file < file_length n → r ≡ answer 12 0 0 0 → Meets (write_out (file_lent ws file)) r (file_lent ws file)
  write_refused few e =
      rw (outcome_is h file, lt-leb (length (file_of s (live_pairs ws))) (length file) (omega (arith, long))) (record { answered = e; left = refl })

  pub write_accepted :
      {begun after : List ℕ} {bytes : ℕ} {r : Answer} → file_length n ≤ length file → begun ≡ sets file 0 (front_of s n) →
      after ≡ sets begun (before n) (pair_bytes (live_pairs ws)) → bytes ≡ file_length n → r ≡ answer 0 0 0 bytes →
      Meets (write_out (file_lent ws file)) r (file_lent ws after)
  write_accepted room front pairs is e =
      let whole =
      pairs
      ∙ ap (λ l. sets l (before n) (pair_bytes (live_pairs ws))) front
      ∙ ap (λ m. sets (sets file 0 (front_of s m)) (before m) (pair_bytes (live_pairs ws))) count
      ∙ file_written file s (live_pairs ws) (subst (λ m. file_length m ≤ length file) count room) in
      rw (outcome_is h file, le-leb (length (file_of s (live_pairs ws))) (length file) (omega (arith, long)))
      (record { answered = e ∙ ap (answer 0 0 0) (is ∙ sym long); left = ap (file_lent ws) whole })
