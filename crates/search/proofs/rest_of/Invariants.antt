-- `search::rest_of` meets its contract: from wherever it has come to, the walk rests where it did from the head. The measure is the length of
-- the trail from there.
use lib.ListN.{length}
use Rattle.steps.proofs.Walking.{trail_at}
use Rattle.search.proofs.Searching.{Searching}
use Rattle.search.proofs.rest_of.Given as goal

abbrev pub invariant-loop-y : goal.invariant-loop-y
invariant-loop-y l =
    Searching l.list l.s l.k (record { from = l.from; number = l.number; at = l.at; coordinate = l.d; looked = l.looked })

abbrev pub decreases-loop-y : goal.decreases-loop-y
decreases-loop-y l = length (trail_at l.list l.k l.at l.d)
