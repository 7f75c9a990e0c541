-- `paths::path_along` meets its contract: the walk under way builds the same path as from its start, and its trail is a step shorter with
-- each turn.
use lib.ListN.{length}
use Rattle.steps.proofs.Walking.{trail_at}
use Rattle.paths.proofs.Steps.{Building}
use Rattle.paths.proofs.path_along.Given as goal

abbrev pub invariant-loop-y : goal.invariant-loop-y
invariant-loop-y l = Building l.list l.s l.k l.path l.at l.d

abbrev pub decreases-loop-y : goal.decreases-loop-y
decreases-loop-y l = length (trail_at l.list l.k l.at l.d)
