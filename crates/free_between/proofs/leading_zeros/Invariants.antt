-- `free_between::leading_zeros` meets its contract: the coordinates before d are 0, so that cell x shares d of them with the head, or more.
use Prim.Native.Nat.{◌≤◌}
use Rattle.free_between.specs.Between.{zeros_of}
use Rattle.free_between.proofs.leading_zeros.Given as goal

abbrev pub invariant-loop-d : goal.invariant-loop-d
invariant-loop-d l = l.d ≤ zeros_of l.list l.levels.settings l.x
