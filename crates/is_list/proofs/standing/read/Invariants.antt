-- `is_list::standing::read` meets its contract and ends: at each turn what is left to do at the cell read last comes to the same verdict as all of it at
-- the head, and each turn reads a cell more.
use Rattle.is_list.proofs.InOrder.{Reading}
use Rattle.is_list.proofs.standing.read.Given as goal

abbrev pub invariant-loop-seen : goal.invariant-loop-seen
invariant-loop-seen l = Reading l.list l.levels.settings l.initial.seen l.cells l.numbers l.count l.e l.from l.seen

abbrev pub decreases-loop-seen : goal.decreases-loop-seen
decreases-loop-seen l = l.seen.left
