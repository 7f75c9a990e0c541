-- What is promised of the two engines together; proofs/Promises.antt proves it.
use Rattle.std.specs.Prelude.{◌≡◌, true, false, List, [], ◌∷◌, ℕ}
use Rattle.answers.specs.declared.Answer.{Answer}
use Rattle.answers.specs.declared.Operation.{Operation}
use Rattle.meaning.specs.Operations.{set_up_out, operation_out}
use Rattle.calls.specs.Book.{without_search}
use Rattle.row.specs.Row.{row_set_up_out, row_out}
use Rattle.engines.specs.Alike.{is_counted, alike}

-- the words that a sequence of operations leaves, of a list and of a row
unfoldable pub list_after : List Operation → List ℕ → List ℕ
list_after [] ws = ws
list_after (operation ∷ operations) ws = list_after operations (operation_out operation ws).left

unfoldable pub row_after : List Operation → List ℕ → List ℕ
row_after [] ws = ws
row_after (operation ∷ operations) ws = row_after operations (row_out operation ws).left

-- 1. From a fresh pair, list and row set up with the same D, K and C, whatever their words held: after any inserts, finds, finishes, takes and
-- sweeps a next one is answered the same by both. The row's answer is the list's with 0 for looked and for the links moved.
abbrev pub RowAnswersAsList : Type 0
RowAnswersAsList =
    (D K C : ℕ) (ws rs : List ℕ) → (set_up_out D K C ws).answered.refusal ≡ 0 → (row_set_up_out D K C rs).answered.refusal ≡ 0
    → (operations : List Operation) (operation : Operation)
    → (row_out operation (row_after operations (row_set_up_out D K C rs).left)).answered
    ≡ without_search operation (operation_out operation (list_after operations (set_up_out D K C ws).left)).answered

-- .. so the comparison finds them alike.
abbrev pub EnginesAlike : Type 0
EnginesAlike =
    (D K C : ℕ) (ws rs : List ℕ) → (set_up_out D K C ws).answered.refusal ≡ 0 → (row_set_up_out D K C rs).answered.refusal ≡ 0
    → (operations : List Operation) (operation : Operation)
    → alike (is_counted operation) (operation_out operation (list_after operations (set_up_out D K C ws).left)).answered
    (row_out operation (row_after operations (row_set_up_out D K C rs).left)).answered ≡ true

-- 2. The comparison says no more than it should: answers that it finds alike have the same refusal, key and value, and where it counts the same count.
pub record Same (one other : Answer) : Type 0 where
  pub refusal : one.refusal ≡ other.refusal
  pub key : one.key ≡ other.key
  pub value : one.value ≡ other.value

abbrev pub AlikeMeansSame : Type 0
AlikeMeansSame =
    ((one other : Answer) → alike true one other ≡ true → one ≡ other) × ((one other : Answer) → alike false one other ≡ true → Same one other)
