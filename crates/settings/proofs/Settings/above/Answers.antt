-- `Settings::above` meets its contract: the product is b to the power i, at most K or 1 before each factor, and once above K it stays above.
use mathlib.Core.Path.{sym}
use Prim.Native.Nat.{◌+◌, ◌^◌}
use native.Mathlib.Omega.{arith}
use borrow.Author.Tests.{lt-ltb}
use borrow.Author.Rules.{rules}
use Rattle.settings.proofs.Numbers.{power_more, stays_above}
use Rattle.settings.proofs.Settings.above.Goals as goal

pub returns-then-top-power : goal.returns-then-top-power
returns-then-top-power c =
    let v = c.loop in
    let a = c.args in
    let p = power_more a.b v.counter v.invariant.0 in
    sym (lt-ltb a.k (a.b ^ a.d) (stays_above a.b (v.counter + 1) a.d (search rules) (search rules) (omega arith)))
