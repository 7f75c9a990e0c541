-- What specs/Promises.antt promises: a law for each, under its name.
use Rattle.std.specs.Prelude.{Option, None, Some}
use mathlib.Core.Path.{◌≡◌, refl, sym, ap, ◌∙◌}
use mathlib.Core.Bool.{Bool, true, false}
use mathlib.Core.List.{List, [], ◌∷◌}
use Prim.Native.Nat.{ℕ}
use native.Mathlib.Omega.{arith}
use lib.ListN.{get_or}
use Rattle.std.proofs.lemmas.Bool.Decides.{nat_tests}
use Rattle.lists.specs.Lists.{every}
use Rattle.settings.specs.Numbers.{in_range}
use Rattle.settings.proofs.Numbers.{ranges}
use Rattle.answers.specs.Refusals.{Outcome}
use Rattle.answers.specs.declared.Operation.{Operation}
use Rattle.answers.specs.declared.Operation.TheVariants.{Insert, Find, Finish, Take, Sweep}
use Rattle.book.specs.Book.{StandingKey, Book, fresh_book, standing_at, on_book_key, insert_book, live_on, take_book, sweep_book, operation_book}
use Rattle.row.specs.Row.{row_words, book_in, ascending, is_row, row_set_up_out, row_out}
use Rattle.row.specs.Promises.{RowsStayRows, RowIsBook, RefusedRowAltersNothing}
use Rattle.row.proofs.Written.{book_back, row_written, row_holds, written_row}
use Rattle.row.proofs.Checking.{Held, held, may_hold}
use Rattle.row.proofs.Outcomes.{set_up_out_lem, no_row_out, on_row}
use Rattle.row.proofs.Staying.{find_left, finish_left, stays_held}

fresh_held : (D K C : ℕ) → in_range D K C ≡ true → Held D (fresh_book K C)
unfolding ascending every
fresh_held D K C range =
    let cells = ranges D K C range in
    record { range = range; room = omega arith; rise = refl; position = refl; marks = refl }

pub rows_stay_rows : RowsStayRows
rows_stay_rows = (
  (λ D K C ws range long. rw (set_up_out_lem D K C ws range long) (written_row D (fresh_book K C) (may_hold D (fresh_book K C) (fresh_held D K C range)))),
  (λ operation ws e.
      let D = get_or ws 0 0 in
      let after = (operation_book operation (book_in ws)).left in
      rw (on_row operation ws e) (written_row D after (may_hold D after (stays_held D (book_in ws) (held D (book_in ws) (row_holds ws e)) operation)))),
)

pub row_is_book : RowIsBook
row_is_book = (
  (λ D K C ws range long. rw (set_up_out_lem D K C ws range long) (book_back D (fresh_book K C))),
  (λ operation ws e. rw (on_row operation ws e) (refl, book_back (get_or ws 0 0) (operation_book operation (book_in ws)).left)),
)

-- a refused operation leaves the book as it was
abbrev Unaltered : {Lent : Type 0} → Lent → Outcome Lent → Type 0
Unaltered lent o = (o.answered.refusal ≡ 0 → ⊥) → o.left ≡ lent

book_unaltered : (operation : Operation) (k : Book) → Unaltered k (operation_book operation k)
unfolding operation_book on_book_key insert_book take_book sweep_book
book_unaltered (Insert key value) k = at (standing_at key k.row)
  where
    at : (o : Option StandingKey) → Unaltered k (on_book_key key k (insert_book key value k o))
    at None = grind (arith, nat_tests)
    at (Some x) = grind (arith, nat_tests)
book_unaltered (Find key) k = λ ne. find_left key k
book_unaltered (Finish key) k = λ ne. finish_left key k
book_unaltered Take k = at (live_on k.row)
  where
    at : (live : List StandingKey) → Unaltered k (take_book k live)
    at [] = λ ne. refl
    at (x ∷ later) = λ ne. absurd (ne refl)
book_unaltered Sweep k = λ ne. absurd (ne refl)

row_unaltered : (operation : Operation) (ws : List ℕ) → Unaltered ws (row_out operation ws)
row_unaltered operation ws = at (is_row ws) refl
  where
    at : (t : Bool) → is_row ws ≡ t → Unaltered ws (row_out operation ws)
    at true e =
        rw (on_row operation ws e)
        (λ ne. ap (row_words (get_or ws 0 0)) (book_unaltered operation (book_in ws) ne) ∙ sym (row_written ws e))
    at false e = rw (no_row_out operation ws e) (λ ne. refl)

set_up_unaltered : (D K C : ℕ) (ws : List ℕ) → Unaltered ws (row_set_up_out D K C ws)
unfolding row_set_up_out
set_up_unaltered D K C ws = grind (arith, nat_tests)

pub refused_row_alters_nothing : RefusedRowAltersNothing
refused_row_alters_nothing = (set_up_unaltered, row_unaltered)
