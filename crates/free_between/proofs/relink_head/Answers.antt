-- `free_between::relink_head` meets its contract: the head's links from z on are the last of its words.
use Rattle.free_between.proofs.Between.{relinked}
use Rattle.free_between.proofs.relink_head.Goals as goal

pub returns : goal.returns
returns c =
    let e = c.store_before_zeros.ensures in
    let a = c.args in
    (relinked a.s.dimensions a.list.now a.position a.z e.0, e.1)
