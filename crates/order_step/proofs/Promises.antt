-- No line of the program is answered 4: what each operation answers follows from the book, an entry's key is from 1 to K, and K stays as it is.
use Rattle.std.specs.Prelude.{Option, None, Some}
use mathlib.Core.Path.{◌≡◌, refl, sym, ap, ◌∙◌}
use mathlib.Core.Bool.{Bool, true, false, cond}
use mathlib.Core.List.{List, [], ◌∷◌}
use Prim.Native.Nat.{ℕ, suc, ◌≤◌}
use native.Mathlib.Omega.{arith}
use lib.Dec.{ltb}
use lib.ListN.{length}
use Rattle.settings.specs.Numbers.{most_largest}
use Rattle.settings.specs.declared.Settings.{Settings}
use Rattle.settings.proofs.Numbers.{key_in}
use Rattle.text.specs.Lines.{Handed, line, too_long}
use Rattle.text.specs.Parts.{after_all}
use Rattle.answers.specs.declared.Answer.{Answer}
use Rattle.answers.specs.Refusals.{Outcome}
use Rattle.answers.specs.declared.Operation.{Operation}
use Rattle.answers.specs.declared.Operation.TheVariants as operations
use Rattle.book.specs.Book.{StandingKey, Book, standing_at, on_book_key, insert_book, find_book, finish_book, live_on, take_book, sweep_book, operation_book}
use Rattle.meaning.specs.Words.{largest_at}
use Rattle.meaning.specs.Reading.{is_list}
use Rattle.meaning.specs.Layer.Listed.{Listed}
use Rattle.calls.specs.Book.{book_of, without_search}
use Rattle.calls.proofs.Listed.{operation_listed}
use Rattle.calls.proofs.Booked.Book.{operation_booked}
use Rattle.entries.specs.Entries.{entry_key}
use Rattle.entries.proofs.Promises.{key_within}
use Rattle.lines.specs.Grammar.{parsed_of, KindInRange}
use Rattle.lines.specs.declared.Kind.{Kind}
use Rattle.lines.specs.declared.Line.{Line}
use Rattle.lines.specs.declared.Kind.TheVariants.{Insert, Find, Finish, Take, Sweep}
use Rattle.lines.proofs.Grammar.{read_in_range}
use Rattle.order_step.specs.Step.{kind_operation, kind_outcome, parsed_outcome, line_outcome}
use Rattle.order_step.specs.Promises.{NeverFour}

-- a reply that is not 4
abbrev NotFour : Answer → Type 0
NotFour a = a.refusal ≡ 4 → ⊥

either : (t : Bool) (o p : Outcome Book) → NotFour o.answered → NotFour p.answered → NotFour (cond t o p).answered
either true o p q r = q
either false o p q r = r

-- a key from 1 to K
in_range_lem : (key : ℕ) (k : Book) (o : Outcome Book) → 1 ≤ key → key ≤ k.largest → NotFour o.answered → NotFour (on_book_key key k o).answered
unfolding on_book_key
in_range_lem key k o least most p = rw (key_in least most) p

-- the call that a kind of line asks for
kind_reply_lem : (kind : Kind) → KindInRange kind → (k : Book) → k.largest ≡ most_largest → NotFour (operation_book (kind_operation kind) k).answered
unfolding operation_book insert_book find_book finish_book take_book sweep_book
kind_reply_lem (Insert e value) i k top =
    let w = key_within e i in in_range_lem (entry_key e) k _ (omega arith) (omega arith) (at (standing_at (entry_key e) k.row))
  where
    at : (o : Option StandingKey) → NotFour (insert_book (entry_key e) value k o).answered
    at None = either (ltb (suc (length k.row)) k.cells) _ _ (λ q. omega arith) (λ q. omega arith)
    at (Some x) = either x.live _ _ (λ q. omega arith) (λ q. omega arith)
kind_reply_lem (Find e) i k top =
    let w = key_within e i in in_range_lem (entry_key e) k _ (omega arith) (omega arith) (at (standing_at (entry_key e) k.row))
  where
    at : (o : Option StandingKey) → NotFour (find_book (entry_key e) k o).answered
    at None = λ q. omega arith
    at (Some x) = either x.live _ _ (λ q. omega arith) (λ q. omega arith)
kind_reply_lem (Finish e) i k top =
    let w = key_within e i in in_range_lem (entry_key e) k _ (omega arith) (omega arith) (at (standing_at (entry_key e) k.row))
  where
    at : (o : Option StandingKey) → NotFour (finish_book (entry_key e) k o).answered
    at None q = omega arith
    at (Some x) q = omega arith
kind_reply_lem Take i k top = at (live_on k.row)
  where
    at : (rest : List StandingKey) → NotFour (take_book k rest).answered
    at [] q = omega arith
    at (x ∷ later) q = omega arith
kind_reply_lem Sweep i k top = λ q. omega arith

-- .. and what it answers: a search's count is no matter of the refusal
same_refusal : (operation : Operation) (a : Answer) → (without_search operation a).refusal ≡ a.refusal
same_refusal (operations.Insert key value) a = refl
same_refusal (operations.Find key) a = refl
same_refusal (operations.Finish key) a = refl
same_refusal operations.Take a = refl
same_refusal operations.Sweep a = refl

-- one line on a list with the largest K
line_not_four : (h : Handed) (ws : List ℕ) → is_list ws ≡ true → largest_at ws ≡ most_largest → (line_outcome h ws).answered.refusal ≡ 4 → ⊥
unfolding line_outcome
line_not_four too_long ws list top = λ q. omega arith
line_not_four (line bytes) ws list top = at (parsed_of bytes) refl
  where
    at : (p : Option Line) → parsed_of bytes ≡ p → (parsed_outcome p ws).answered.refusal ≡ 4 → ⊥
    at (Some l) reads q =
        let operation = kind_operation l.kind in
        kind_reply_lem l.kind (read_in_range bytes reads) (book_of ws) top
        (ap (λ (a : Answer). a.refusal) (sym (operation_booked operation ws list).1) ∙ (same_refusal operation (kind_outcome l.kind ws).answered ∙ q))
    at None reads q = omega arith

-- A line takes a list to a list with its settings.

pub line_listed : {ws : List ℕ} {s : Settings} (h : Handed) → Listed ws s → Listed (line_outcome h ws).left s
unfolding line_outcome
line_listed too_long listed = listed
line_listed {ws} {s} (line bytes) listed = at (parsed_of bytes)
  where
    at : (p : Option Line) → Listed (parsed_outcome p ws).left s
    at (Some l) = operation_listed (kind_operation l.kind) listed
    at None = listed

pub never_four : NeverFour
unfolding after_all
never_four [] h ws list top = line_not_four h ws list top
never_four (first ∷ before) h ws list top =
    let kept = line_listed first (record { list = list; settings = refl }) in
    never_four before h (line_outcome first ws).left kept.list (ap (λ (s : Settings). s.largest) kept.settings ∙ top)
