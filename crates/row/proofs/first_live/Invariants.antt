-- `row::first_live` meets its contract: the keys before place i are dead.
use mathlib.Core.Path.{◌≡◌}
use Prim.Native.Nat.{◌+◌}
use lib.ListN.{length, drop}
use Rattle.book.specs.Book.{dead_before}
use Rattle.row.specs.Row.{book_in}
use Rattle.row.proofs.first_live.Given as goal

abbrev pub invariant-loop-i : goal.invariant-loop-i
invariant-loop-i l = length (dead_before (book_in l.row).row) ≡ l.i + length (dead_before (drop l.i (book_in l.row).row))
