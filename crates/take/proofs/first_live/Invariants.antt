-- `take::first_live` meets its contract: at each turn the path has come past dead nodes, and the keys passed and those still to come are
-- fewer than C.
use Prim.Native.Nat.{◌-◌}
use Rattle.meaning.specs.Reading.{read}
use Rattle.take.proofs.Taking.{Passing}
use Rattle.take.proofs.first_live.Given as goal

abbrev pub invariant-loop-next : goal.invariant-loop-next
invariant-loop-next l = Passing (read l.list) l.s l.path l.passed

abbrev pub decreases-loop-next : goal.decreases-loop-next
decreases-loop-next l = l.s.cells - l.passed
