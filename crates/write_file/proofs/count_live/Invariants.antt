-- `write_file::count_live` meets its contract: at each turn the live cells before x are counted, and those from x on are still to be.
use Rattle.write_file.proofs.Counting.{Counted}
use Rattle.write_file.proofs.count_live.Given as goal

abbrev pub invariant-loop-x : goal.invariant-loop-x
invariant-loop-x l = Counted l.list l.s l.n l.x
