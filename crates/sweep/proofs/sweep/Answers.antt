-- `sweep::sweep` meets its contract: where the position stays the head, and where it moves, what is left is the picture of the swept state.
use Rattle.sweep.proofs.Call.{stays_meets, swept_meets}
use Rattle.sweep.proofs.sweep.Goals as goal

pub returns-then-t-eq0 : goal.returns-then-t-eq0
returns-then-t-eq0 c =
    let paid = c.finish_all.ensures in
    stays_meets c.requires paid.0 paid.1 c.seek_target-t.ensures c.if-t-eq0.true
    c.accepted.ensures

pub returns : goal.returns
returns c =
    let left = c.drop_front-count.ensures in
    swept_meets c.requires c.finish_all.ensures.0 left.0 left.1 c.accepted-2.ensures
