-- The promises of the two engines: list and row have the same book from set up on, and each answers what the book does.
use mathlib.Core.Path.{◌≡◌, refl, sym, ap, ◌∙◌}
use mathlib.Core.Bool.{Bool, true, false, cond, ◌&&◌}
use mathlib.Core.List.{List, [], ◌∷◌}
use Prim.Native.Nat.{ℕ}
use native.Mathlib.Omega.{arith}
use lib.Dec.{eqb}
use lib.ListN.{length}
use borrow.Author.Tests.{eqb-true, eq-eqb}
use Rattle.settings.specs.Numbers.{in_range}
use Rattle.lists.proofs.Tests.{both}
use Rattle.answers.specs.declared.Answer.{Answer}
use Rattle.answers.specs.declared.Operation.{Operation}
use Rattle.answers.specs.declared.Operation.TheVariants.{Insert, Find, Finish, Take, Sweep}
use Rattle.book.specs.Book.{Book, operation_book}
use Rattle.meaning.specs.Reading.{is_list}
use Rattle.meaning.specs.Operations.{set_up_out, operation_out}
use Rattle.calls.specs.Calls.{operated}
use Rattle.calls.specs.Book.{book_of, without_search}
use Rattle.calls.proofs.Booked.Book.{calls_keep_lists, operation_booked, set_up_list, set_up_booked}
use Rattle.row.specs.Row.{row_length, book_in, is_row, row_set_up_out, row_out}
use Rattle.row.proofs.Promises.{rows_stay_rows, row_is_book}
use Rattle.engines.specs.Alike.{is_counted, alike}
use Rattle.engines.specs.Promises.{list_after, row_after, RowAnswersAsList, EnginesAlike, AlikeMeansSame}

-- a list and a row with one book
record Pair (ws rs : List ℕ) : Type 0 where
  list : is_list ws ≡ true
  row : is_row rs ≡ true
  book : book_in rs ≡ book_of ws

-- an operation's outcome as a call is its own
kept_list : (operation : Operation) (ws : List ℕ) → is_list ws ≡ true → is_list (operation_out operation ws).left ≡ true
kept_list operation ws e = unfold Rattle.calls.specs.Calls.outcome in calls_keep_lists (operated operation) ws e

after_one : (operation : Operation) (ws rs : List ℕ) → Pair ws rs → Pair (operation_out operation ws).left (row_out operation rs).left
after_one operation ws rs p =
    record {
      list = kept_list operation ws p.list;
      row = rows_stay_rows.1 operation rs p.row;
      book =
          (row_is_book.1 operation rs p.row).1
          ∙ ap (λ (k : Book). (operation_book operation k).left) p.book
          ∙ sym (operation_booked operation ws p.list).0;
    }

after_all_lem : (operations : List Operation) (ws rs : List ℕ) → Pair ws rs → Pair (list_after operations ws) (row_after operations rs)
unfolding list_after row_after
after_all_lem [] ws rs p = p
after_all_lem (operation ∷ operations) ws rs p =
    after_all_lem operations (operation_out operation ws).left (row_out operation rs).left (after_one operation ws rs p)

-- set up accepted on both
record Accepts (D K C : ℕ) (rs : List ℕ) : Type 0 where
  range : in_range D K C ≡ true
  long : length rs ≡ row_length C

accepts : (D K C : ℕ) (rs : List ℕ) → (row_set_up_out D K C rs).answered.refusal ≡ 0 → Accepts D K C rs
unfolding row_set_up_out
accepts D K C rs = at (in_range D K C) (eqb (length rs) (row_length C)) refl refl
  where
    at : (range long : Bool) → in_range D K C ≡ range → eqb (length rs) (row_length C) ≡ long →
        (row_set_up_out D K C rs).answered.refusal ≡ 0 → Accepts D K C rs
    at true true r l e = record { range = r; long = eqb-true (length rs) (row_length C) l }
    at true false r l e = absurd (let z : ◌≡◌ {A = ℕ} 2 0 = rw (r, l) at e in omega arith)
    at false long r l e = absurd (let z : ◌≡◌ {A = ℕ} 1 0 = rw r at e in omega arith)

fresh_pair : (D K C : ℕ) (ws rs : List ℕ) → (set_up_out D K C ws).answered.refusal ≡ 0 → (row_set_up_out D K C rs).answered.refusal ≡ 0 →
    Pair (set_up_out D K C ws).left (row_set_up_out D K C rs).left
fresh_pair D K C ws rs a b =
    let r = accepts D K C rs b in
    record {
      list = set_up_list D K C ws a;
      row = rows_stay_rows.0 D K C rs r.range r.long;
      book = row_is_book.0 D K C rs r.range r.long ∙ sym (set_up_booked D K C ws a);
    }

pub row_answers_as_list : RowAnswersAsList
row_answers_as_list D K C ws rs a b operations operation =
    let us = list_after operations (set_up_out D K C ws).left in
    let ts = row_after operations (row_set_up_out D K C rs).left in
    let p = after_all_lem operations (set_up_out D K C ws).left (row_set_up_out D K C rs).left (fresh_pair D K C ws rs a b) in
    (row_is_book.1 operation ts p.row).0
    ∙ ap (λ (k : Book). (operation_book operation k).answered) p.book
    ∙ sym (operation_booked operation us p.list).1

-- The comparison

alike_refl : (counted : Bool) (a : Answer) → alike counted a a ≡ true
unfolding alike
alike_refl counted a =
    rw (eq-eqb a.refusal a.refusal refl, eq-eqb a.key a.key refl, eq-eqb a.value a.value refl, eq-eqb a.count a.count refl) (at counted)
  where
    at : (c : Bool) → cond c true true ≡ true
    at true = refl
    at false = refl

alike_uncounted : (operation : Operation) (a : Answer) → alike (is_counted operation) a (without_search operation a) ≡ true
unfolding alike
alike_uncounted (Insert key value) a = alike_refl false a
alike_uncounted (Find key) a = alike_refl false a
alike_uncounted (Finish key) a = alike_refl false a
alike_uncounted Take a = alike_refl true a
alike_uncounted Sweep a = alike_refl true a

pub engines_alike : EnginesAlike
engines_alike D K C ws rs a b operations operation =
    let answered = (operation_out operation (list_after operations (set_up_out D K C ws).left)).answered in
    ap (alike (is_counted operation) answered) (row_answers_as_list D K C ws rs a b operations operation) ∙ alike_uncounted operation answered

pub alike_means_same : AlikeMeansSame
unfolding alike
alike_means_same = (
  (λ one other e.
      let first = both (eqb one.refusal other.refusal) (eqb one.key other.key && (eqb one.value other.value && eqb one.count other.count)) e in
      let second = both (eqb one.key other.key) (eqb one.value other.value && eqb one.count other.count) first.1 in
      let third = both (eqb one.value other.value) (eqb one.count other.count) second.1 in
      λ i. record {
        refusal = eqb-true one.refusal other.refusal first.0 i;
        key = eqb-true one.key other.key second.0 i;
        value = eqb-true one.value other.value third.0 i;
        count = eqb-true one.count other.count third.1 i;
      }),
  (λ one other e.
      let first = both (eqb one.refusal other.refusal) (eqb one.key other.key && (eqb one.value other.value && true)) e in
      let second = both (eqb one.key other.key) (eqb one.value other.value && true) first.1 in
      let third = both (eqb one.value other.value) true second.1 in
      record {
        refusal = eqb-true one.refusal other.refusal first.0;
        key = eqb-true one.key other.key second.0;
        value = eqb-true one.value other.value third.0;
      }),
)
