-- `steps::block_starts` meets its contract: the starts before number d are written.
use Prim.Native.Nat.{ℕ, ◌<◌}
use native.Mathlib.Omega.{arith}
use lib.ListN.{length-set}
use Rattle.settings.proofs.Powers.{power_some}
use Rattle.steps.proofs.Steps.{starts_more}
use Rattle.steps.proofs.block_starts.Goals as goal

pub block_start-requires : goal.block_start-requires
block_start-requires c = power_some c.args.levels.now.right (omega (arith, c.loop-d-test.true))

pub loop-d-preserved : goal.loop-d-preserved
loop-d-preserved c =
    let v = c.loop-d in
    let inside : v.d < c.args.levels.now.settings.dimensions = omega (arith, c.loop-d-test.true) in (
      omega (arith, length-set {A = ℕ}),
      starts_more c.args.levels.now.right c.args.k v.starts inside (omega (arith, inside, c.requires, v.invariant.0)) v.invariant.1 c.block_start.ensures,
    )
