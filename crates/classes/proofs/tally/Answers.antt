-- `classes::tally` meets its contract: at each turn the record is that of the cells from x on.
use mathlib.Core.Path.{◌∙◌, ap}
use native.Mathlib.Omega.{arith}
use lib.ListN.{replicate}
use Rattle.classes.proofs.Tallying.{tallied_start, tallied_roomy, tallied_more, tallied_all}
use Rattle.classes.proofs.tally.Goals as goal

pub loop-x-init : goal.loop-x-init
loop-x-init c = tallied_start c.requires.0 (c.fill.ensures.after (λ y e. e) ∙ ap (λ n. replicate n 0) c.requires.1)

pub add_cell-requires : goal.add_cell-requires
add_cell-requires c = (c.requires.0, (omega arith, tallied_roomy c.requires.0 c.loop-x.invariant))

pub loop-x-preserved : goal.loop-x-preserved
loop-x-preserved c = rw c.add_cell.ensures (tallied_more c.loop-x.invariant c.loop-x-test.true)

pub returns : goal.returns
returns c = tallied_all c.requires.0 c.loop-x.invariant c.loop-x-test.false
