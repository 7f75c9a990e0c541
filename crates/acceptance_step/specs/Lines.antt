-- What a line of the acceptance trace does: it is made on both engines, the list and the plain row. A set up in range makes both anew, with words of
-- their own lengths; out of range it is made on the words as they stand.
use Rattle.std.specs.Prelude.{◌≡◌, Bool, true, cond, List, ℕ, ◌≤◌, length}
use Rattle.settings.specs.Numbers.{in_range, length_of}
use Rattle.answers.specs.Refusals.{answer_of}
use Rattle.answers.specs.declared.Refusal.TheVariants.{LineNotReadable}
use Rattle.meaning.specs.Operations.{set_up_out, operation_out}
use Rattle.trace.specs.Lines.{most_words}
use Rattle.trace_held.specs.Held.{cut_to}
use Rattle.row.specs.Row.{row_length, row_set_up_out, row_out}
use Rattle.engines.specs.Alike.{is_counted}
use Rattle.acceptance_step.specs.declared.Kind.{Kind}
use Rattle.acceptance_step.specs.declared.Kind.TheVariants.{SetUp, Make, Unreadable}
use Rattle.acceptance_step.specs.declared.Pair.{Pair}

-- the words of the list, and those of the row
pub record Engines : Type 0 where
  pub list : List ℕ
  pub row : List ℕ

abbrev pub engines_of : List ℕ → List ℕ → Engines
engines_of list row = record { list = list; row = row }

-- the most words of a row whose list has no more than the most that are held: that list has 19,457 cells, at D = 2
abbrev pub most_row_words : ℕ
most_row_words = 58373

-- the list of a set up is no longer than what is held; a longer one is not readable
abbrev pub KindFits : Kind → Type 0
KindFits (SetUp D K C) = in_range D K C ≡ true → length_of D C ≤ most_words
KindFits (Make operation) = Unit {0}
KindFits Unreadable = Unit {0}

-- how many words of each engine are held when the line's call is made
abbrev pub list_length : Kind → ℕ → ℕ
list_length (SetUp D K C) n = cond (in_range D K C) (length_of D C) n
list_length (Make operation) n = n
list_length Unreadable n = n

abbrev pub row_length_for : Kind → ℕ → ℕ
row_length_for (SetUp D K C) n = cond (in_range D K C) (row_length C) n
row_length_for (Make operation) n = n
row_length_for Unreadable n = n

-- .. cut, or extended with words 0
abbrev pub altered_by : Kind → Engines → Engines
altered_by kind e = engines_of (cut_to (list_length kind (length e.list)) e.list) (cut_to (row_length_for kind (length e.row)) e.row)

-- what both answer, and what is held after the call
abbrev pub kind_reply : Kind → Engines → Pair
kind_reply (SetUp D K C) e = record { list = (set_up_out D K C e.list).answered; row = (row_set_up_out D K C e.row).answered }
kind_reply (Make operation) e = record { list = (operation_out operation e.list).answered; row = (row_out operation e.row).answered }
kind_reply Unreadable e = record { list = answer_of LineNotReadable; row = answer_of LineNotReadable }

abbrev pub kind_leaves : Kind → Engines → Engines
kind_leaves (SetUp D K C) e = engines_of (set_up_out D K C e.list).left (row_set_up_out D K C e.row).left
kind_leaves (Make operation) e = engines_of (operation_out operation e.list).left (row_out operation e.row).left
kind_leaves Unreadable e = e

-- the count of a set up, a take and a sweep is compared
abbrev pub counted_in : Kind → Bool
counted_in (SetUp D K C) = true
counted_in (Make operation) = is_counted operation
counted_in Unreadable = true

-- A line's call was made on both engines: what they answered, and what is held after it.
pub record KindMade (kind : Kind) (e : Engines) (r : Pair) (after : Engines) : Type 0 where
  pub reply : r ≡ kind_reply kind e
  pub left : after ≡ kind_leaves kind e
