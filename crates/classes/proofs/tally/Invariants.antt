-- `classes::tally` meets its contract: at each turn the record is that of the cells from x on.
use Rattle.classes.proofs.Tallying.{Tallied}
use Rattle.classes.proofs.tally.Given as goal

abbrev pub invariant-loop-x : goal.invariant-loop-x
invariant-loop-x l = Tallied l.list l.s l.classes l.x
