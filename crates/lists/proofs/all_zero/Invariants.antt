-- `lists::all_zero` meets its contract: the bits are those of the first i words and of the last eight, and in the end of all.
use Prim.Native.Nat.{◌-◌, ◌<◌}
use Rattle.lists.specs.Zeros.{ZeroFrom}
use Rattle.lists.proofs.all_zero.Given as goal

abbrev pub invariant-loop-i : goal.invariant-loop-i
invariant-loop-i l = (l.i < l.n) × (ZeroFrom l.part 0 l.i l.bits × ZeroFrom l.part (l.n - 8) 8 l.bits)

abbrev pub decreases-loop-i : goal.decreases-loop-i
decreases-loop-i l = l.n - l.i
