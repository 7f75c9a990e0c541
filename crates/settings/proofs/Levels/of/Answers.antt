-- `Levels::of` meets its contract: from level d up to level D the words hold the powers.
use mathlib.Core.Path.{◌≡◌}
use Prim.Native.Nat.{ℕ, ◌+◌, ◌-◌, ◌<◌}
use native.Mathlib.Omega.{arith}
use lib.ListN.{length, length-set}
use Rattle.settings.proofs.Powers.{levels_more, level_fits}
use Rattle.settings.proofs.Levels.of.Goals as goal

pub overflow_mul-powers : goal.overflow_mul-powers
overflow_mul-powers c =
    let a = c.args.settings in
    let v = c.loop-d in
    let p = c.requires in
    let there : v.d - 1 + 1 ≡ v.d = omega arith in
    let high = v.auto.d in
    rw there
    (record { fits = level_fits a.base a.dimensions v.d p.1.0 high c.loop-d-test.true (v.invariant.1 v.d (omega arith) high) p.1.1 })

pub loop-d-preserved : goal.loop-d-preserved
loop-d-preserved c =
    let a = c.args.settings in
    let v = c.loop-d in
    let there : v.d - 1 + 1 ≡ v.d = omega arith in
    let inside : v.d < length v.powers = omega (arith, c.requires.0, v.invariant.0) in
    rw there (omega (arith, length-set {A = ℕ}), levels_more a.base a.dimensions v.d v.powers v.auto.d inside c.loop-d-test.true v.invariant.1)
