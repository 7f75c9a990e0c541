-- `report::checksum` meets its contract: each element is summed once, in order.
use native.Mathlib.Omega.{arith}
use Rattle.report.proofs.Sums.{summed_start, summed_next, summed_all}
use Rattle.report.proofs.checksum.Goals as goal

pub loop-element-init : goal.loop-element-init
loop-element-init g c = summed_start g.T.Into.converts (omega arith)

pub loop-element-preserved : goal.loop-element-preserved
loop-element-preserved g c =
    summed_next g.T.Into.converts c.args.part.now c.loop-element.invariant c.loop-element-test.true c.element-item.is c.into.ensures c.summed-h.ensures

pub returns : goal.returns
returns g c = summed_all g.T.Into.converts c.args.part.now c.loop-element.invariant c.loop-element-test.false
