-- `order::read_all` is safe and ends: after each part the list is a list.
use Rattle.order.proofs.Input.{still_listed}
use Rattle.order.proofs.read_all.Goals as goal

pub loop-preserved : goal.loop-preserved
loop-preserved c = still_listed c.loop.invariant c.feed_part.ensures.fed
