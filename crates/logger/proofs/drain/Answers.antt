-- `logger::drain` meets its contract and ends: the last take was refused.
use mathlib.Core.Path.{◌≡◌}
use mathlib.Core.Bool.{false}
use Rattle.std.specs.Prelude.{Ok}
use Rattle.logger.proofs.Input.{nothing_after, take_listed}
use Rattle.logger.proofs.drain.Goals as goal

pub loop-preserved : goal.loop-preserved
loop-preserved c = take_listed c.loop.invariant c.take_next.ensures

pub returns-then-not-more : goal.returns-then-not-more
returns-then-not-more c =
    let nothing : c.take_next.result ≡ Ok false = cc in
    nothing_after c.take_next.ensures nothing
