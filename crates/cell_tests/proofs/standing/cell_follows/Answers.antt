-- `cell_tests::standing::cell_follows` meets its contract: the two starts are those of the levels e and e + 1.
use native.Mathlib.Omega.{arith}
use Rattle.settings.proofs.Powers.{power_some}
use Rattle.cell_tests.proofs.OneCell.{follows_not, follows_to}
use Rattle.cell_tests.proofs.standing.cell_follows.Goals as goal

pub block_start-requires : goal.block_start-requires
block_start-requires c =
    power_some c.args.levels.now.right (omega (arith, c.requires.1.1.1))

pub returns-then-before-block_start : goal.returns-then-before-block_start
returns-then-before-block_start c =
    follows_not c.requires.0 c.args.levels.now.right c.args.x c.args.y c.requires.1.1.1 c.word-before.ensures c.word-key.ensures
    c.block_start.ensures c.if-before-block_start.true

pub block_start-requires-2 : goal.block_start-requires-2
block_start-requires-2 c =
    power_some c.args.levels.now.right (omega (arith, c.requires.1.1.1))

pub returns : goal.returns
returns c =
    follows_to c.requires.0 c.args.levels.now.right c.args.x c.args.y c.requires.1.1.1 c.word-before.ensures c.word-key.ensures
    c.block_start.ensures c.if-before-block_start.false c.block_start-2.ensures
