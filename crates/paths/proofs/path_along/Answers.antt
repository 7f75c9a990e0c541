-- `paths::path_along` meets its contract: the walk under way builds the same path as from its start, and its trail is a step shorter with
-- each turn.
use Rattle.steps.proofs.Walking.{walking_met, left_go, left_up}
use Rattle.paths.proofs.Steps.{building_start, building_go, building_up, building_end}
use Rattle.paths.proofs.path_along.Goals as goal

pub loop-y-init : goal.loop-y-init
loop-y-init c =
    let p = c.requires in
    building_start p.0 p.1.1 c.head_path-path.ensures.0 c.head_path-path.ensures.1

pub step-next-requires : goal.step-next-requires
step-next-requires c =
    let p = c.requires in
    let w = c.loop-y.invariant.walking in
    (p.0.shaped, (p.1.0, walking_met w (p.0.owed c.loop-y.at w.cell)))

pub loop-y-smaller-in-Go : goal.loop-y-smaller-in-Go
loop-y-smaller-in-Go c =
    left_go c.loop-y.invariant.walking c.step-next.ensures c.in-Go.is

pub loop-y-preserved-in-Go : goal.loop-y-preserved-in-Go
loop-y-preserved-in-Go c =
    building_go c.requires.0 c.loop-y.invariant c.step-next.ensures c.in-Go.is c.put_onward.ensures

pub loop-y-smaller : goal.loop-y-smaller
loop-y-smaller c =
    left_up c.loop-y.invariant.walking c.step-next.ensures c.in-Up.is

pub loop-y-preserved : goal.loop-y-preserved
loop-y-preserved c =
    building_up c.requires.0 c.loop-y.invariant c.step-next.ensures c.in-Up.is

pub returns-in-End : goal.returns-in-End
returns-in-End c =
    let h = c.requires.0 in
    (building_end h c.loop-y.invariant c.step-next.ensures c.in-End.is, c.loop-y.invariant.used)
