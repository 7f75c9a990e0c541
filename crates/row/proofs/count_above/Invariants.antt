-- `row::count_above` meets its contract: the count is that of the keys before place i.
use mathlib.Core.Path.{◌≡◌}
use Prim.Native.Nat.{◌≤◌}
use lib.ListN.{take}
use Rattle.book.specs.Book.{standing_above}
use Rattle.row.specs.Row.{book_in}
use Rattle.row.proofs.count_above.Given as goal

abbrev pub invariant-loop-i : goal.invariant-loop-i
invariant-loop-i l = (l.count ≡ standing_above l.low (take l.i (book_in l.row).row)) × (l.count ≤ l.i)
