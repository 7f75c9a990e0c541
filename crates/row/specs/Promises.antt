-- What is promised of the plain row; proofs/Promises.antt proves it.
use Rattle.std.specs.Prelude.{◌≡◌, true, List, ℕ, length}
use Rattle.settings.specs.Numbers.{in_range}
use Rattle.answers.specs.declared.Operation.{Operation}
use Rattle.book.specs.Book.{fresh_book, operation_book}
use Rattle.row.specs.Row.{row_length, book_in, is_row, row_set_up_out, row_out}

-- 1. Words set up are a row, and a row stays one whatever is asked of it.
abbrev pub RowsStayRows : Type 0
RowsStayRows =
    ((D K C : ℕ) (ws : List ℕ) → in_range D K C ≡ true → length ws ≡ row_length C → is_row (row_set_up_out D K C ws).left ≡ true)
    × ((operation : Operation) (ws : List ℕ) → is_row ws ≡ true → is_row (row_out operation ws).left ≡ true)

-- 2. A row is its book: fresh after set up, and after an operation what the operation leaves of the book; the answers are the book's.
abbrev pub RowIsBook : Type 0
RowIsBook =
    ((D K C : ℕ) (ws : List ℕ) → in_range D K C ≡ true → length ws ≡ row_length C → book_in (row_set_up_out D K C ws).left ≡ fresh_book K C)
    × ((operation : Operation) (ws : List ℕ) → is_row ws ≡ true
    → ((row_out operation ws).answered ≡ (operation_book operation (book_in ws)).answered)
    × (book_in (row_out operation ws).left ≡ (operation_book operation (book_in ws)).left))

-- 3. A refused call alters no word.
abbrev pub RefusedRowAltersNothing : Type 0
RefusedRowAltersNothing =
    ((D K C : ℕ) (ws : List ℕ) → ((row_set_up_out D K C ws).answered.refusal ≡ 0 → ⊥) → (row_set_up_out D K C ws).left ≡ ws)
    × ((operation : Operation) (ws : List ℕ) → ((row_out operation ws).answered.refusal ≡ 0 → ⊥) → (row_out operation ws).left ≡ ws)
