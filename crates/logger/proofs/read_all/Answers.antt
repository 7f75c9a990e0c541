-- `logger::read_all` meets its contract and ends: after each part, and after the end, the list is a list.
use mathlib.Core.List.{[]}
use Rattle.logger.proofs.Input.{still_listed, end_listed}
use Rattle.logger.proofs.read_all.Goals as goal

pub loop-init : goal.loop-init
loop-init c = (c.requires.1, record { begun = []; is = c.start-feed.ensures })

pub returns-then-n-eq0 : goal.returns-then-n-eq0
returns-then-n-eq0 c = end_listed c.loop.invariant c.feed_end.ensures

pub returns-in_err-feed_part : goal.returns-in_err-feed_part
returns-in_err-feed_part c = (still_listed c.loop.invariant c.feed_part.ensures.fed).0

pub loop-preserved : goal.loop-preserved
loop-preserved c = still_listed c.loop.invariant c.feed_part.ensures.fed
