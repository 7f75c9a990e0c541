-- `free_between::leading_zeros` meets its contract: the coordinates before d are 0, so that cell x shares d of them with the head, or more.
use Rattle.free_between.proofs.Between.{zero_more, zero_last, zero_all}
use Rattle.free_between.proofs.leading_zeros.Goals as goal

pub returns-then-levels-d : goal.returns-then-levels-d
returns-then-levels-d c =
    zero_last c.requires.1 c.args.levels.now.right c.loop-d.invariant c.word-key.ensures c.loop-d-test.true c.if-levels-d.true

pub loop-d-preserved : goal.loop-d-preserved
loop-d-preserved c =
    zero_more c.requires.1 c.args.levels.now.right c.loop-d.invariant c.word-key.ensures c.loop-d-test.true c.if-levels-d.false

pub returns : goal.returns
returns c =
    zero_all c.requires.1 c.args.levels.now.right c.loop-d.invariant c.word-key.ensures c.loop-d-test.false
