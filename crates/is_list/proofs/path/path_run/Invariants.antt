-- `is_list::path::path_run` meets its contract: the run from path word i on ends where the run from d on does.
use mathlib.Core.Path.{◌≡◌}
use Prim.Native.Nat.{◌-◌, ◌≤◌}
use Rattle.account.specs.Tree.{path_run}
use Rattle.is_list.proofs.path.path_run.Given as goal

abbrev pub invariant-loop-i : goal.invariant-loop-i
invariant-loop-i l = path_run l.list l.y l.d (l.s.dimensions - l.d) ≡ path_run l.list l.y l.i (l.s.dimensions - l.i)
