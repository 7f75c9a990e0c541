-- `Settings::base` meets its contract: low to the power D is at most K and high to the power D above it, so that high is the base once
-- the two are neighbours, and there is only one base.
use mathlib.Core.Path.{◌≡◌}
use Prim.Native.Nat.{◌-◌, ◌^◌, ◌≤◌}
use native.Mathlib.Omega.{arith}
use borrow.Author.Rules.{rules}
use Rattle.settings.proofs.Numbers.{one_power, is_base_lem, base_is, base_unique, base_at_least_two, base_at_most}
use Rattle.settings.proofs.Settings.base.Goals as goal

pub loop-low-init : goal.loop-low-init
loop-low-init c =
    let e = c.full_base-high.ensures in
    let one : 1 ^ c.args.d ≤ c.args.k = rw one_power c.requires.1.1 in
    (search rules, (base_at_least_two (search rules) e, (one, (omega (arith, e.above), base_at_most c.requires.0 (search rules) e))))

pub returns : goal.returns
returns c =
    let v = c.loop-low in
    let a = c.args in
    let e : v.high - 1 ≡ v.low = omega arith in
    base_unique (is_base_lem a.d v.invariant.1.1.1.0 (rw e v.invariant.1.1.0)) (base_is a.d a.k (search rules))
