-- `steps::shared` meets its contract: x lies in the block of y of each level up to d, so the two share d coordinates or more.
use native.Mathlib.Omega.{arith}
use Rattle.settings.proofs.Powers.{power_some}
use Rattle.steps.proofs.Sharing.{shared_not_all, shared_more, shared_ends}
use Rattle.steps.proofs.shared.Goals as goal

pub block_start-requires : goal.block_start-requires
block_start-requires c = power_some c.args.levels.now.right (omega (arith, c.loop-d-test.true))

pub returns-then-key-block_start : goal.returns-then-key-block_start
returns-then-key-block_start c =
    let p = c.requires.1 in
    let v = c.loop-d in
    let inside = c.loop-d-test.true in
    (shared_ends c.args.levels.now.right p.0 p.1 (omega (arith, inside)) c.block_start.ensures v.invariant (omega (arith, c.if-key-block_start.true)), omega (arith, inside))

pub loop-d-preserved : goal.loop-d-preserved
loop-d-preserved c =
    let p = c.requires.1 in
    shared_more c.args.levels.now.right p.0 p.1 (omega (arith, c.loop-d-test.true)) c.block_start.ensures (omega (arith, c.if-key-block_start.false))

pub returns : goal.returns
returns c =
    let p = c.requires.1 in
    absurd (omega (arith, shared_not_all c.args.levels.now.right p.0 p.1, c.loop-d.invariant, c.loop-d-test.false))
