-- `search::rest_of` meets its contract: from wherever it has come to, the walk rests where it did from the head. The measure is the length of
-- the trail from there.
use native.Mathlib.Omega.{arith}
use Rattle.words.proofs.Listed.{listed_shaped, listed_owed}
use Rattle.steps.proofs.Walking.{walking_met, left_go, left_up}
use Rattle.search.proofs.Searching.{searching_start, looked_fits, searching_go, searching_up, searching_end}
use Rattle.search.proofs.rest_of.Goals as goal

pub loop-y-init : goal.loop-y-init
loop-y-init c =
    searching_start c.requires.0 c.args.k c.requires.1.0 c.requires.1.1.0

pub step-next-requires : goal.step-next-requires
step-next-requires c =
    let w = c.loop-y.invariant.walking in
    (listed_shaped c.requires.0, (c.requires.1.1.1, walking_met w (listed_owed c.requires.0 c.loop-y.at w.cell)))

pub overflow_add-looked : goal.overflow_add-looked
overflow_add-looked c =
    omega (arith, looked_fits c.requires.0 c.loop-y.invariant c.requires.1.0 c.requires.1.1.0)

pub loop-y-smaller-in-Go : goal.loop-y-smaller-in-Go
loop-y-smaller-in-Go c =
    left_go c.loop-y.invariant.walking c.step-next.ensures c.in-Go.is

pub loop-y-preserved-in-Go : goal.loop-y-preserved-in-Go
loop-y-preserved-in-Go c =
    searching_go c.requires.0 c.loop-y.invariant c.step-next.ensures c.in-Go.is

pub loop-y-smaller : goal.loop-y-smaller
loop-y-smaller c =
    left_up c.loop-y.invariant.walking c.step-next.ensures c.in-Up.is

pub loop-y-preserved : goal.loop-y-preserved
loop-y-preserved c =
    searching_up c.requires.0 c.loop-y.invariant c.step-next.ensures c.in-Up.is

pub returns-in-End : goal.returns-in-End
returns-in-End c =
    searching_end c.requires.0 c.loop-y.invariant c.step-next.ensures c.in-End.is
