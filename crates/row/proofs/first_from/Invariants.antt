-- `row::first_from` meets its contract: the keys before place i are below the key.
use mathlib.Core.Path.{◌≡◌}
use Prim.Native.Nat.{◌+◌}
use lib.ListN.{drop}
use Rattle.row.specs.Row.{book_in}
use Rattle.row.specs.Places.{place_of}
use Rattle.row.proofs.first_from.Given as goal

abbrev pub invariant-loop-i : goal.invariant-loop-i
invariant-loop-i l = place_of l.key (book_in l.row).row ≡ l.i + place_of l.key (drop l.i (book_in l.row).row)
