-- `row::right_keys` meets its contract: the keys before place i are right, so all are if those from i on are.
use mathlib.Core.Path.{◌≡◌}
use Prim.Native.Nat.{◌-◌}
use lib.ListN.{get_or}
use Rattle.row.specs.Places.{right_keys}
use Rattle.row.proofs.right_keys.Given as goal

abbrev pub invariant-loop-i : goal.invariant-loop-i
invariant-loop-i l = right_keys l.row 0 0 (get_or l.row 3 0) ≡ right_keys l.row l.low l.i (get_or l.row 3 0 - l.i)
