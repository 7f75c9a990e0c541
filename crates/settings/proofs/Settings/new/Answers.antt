-- `Settings::new` meets its contract: the test of the ranges decides, and the base is the callee's.
use mathlib.Core.Path.{refl, sym, ◌∙◌}
use native.Mathlib.Omega.{arith}
use borrow.Author.Tests.{not-true, not-false}
use Rattle.settings.specs.Checked.{checked_of}
use Rattle.settings.proofs.Numbers.{ranges}
use Rattle.settings.proofs.Settings.new.Goals as goal

pub returns-then-not-in_range : goal.returns-then-not-in_range
unfolding checked_of
returns-then-not-in_range c = rw (← c.in_range.ensures, not-true c.in_range.result c.if-not-in_range.true-raw) refl

pub base-requires : goal.base-requires
base-requires c =
    let a = c.args in
    let r = c.in_range in
    let h = ranges a.d a.k a.c (sym r.ensures ∙ not-false r.result c.if-not-in_range.false-raw) in
    omega arith

pub returns : goal.returns
unfolding checked_of
returns c =
    let r = c.in_range in
    rw (← r.ensures, not-false r.result c.if-not-in_range.false-raw, ← c.base.ensures) refl
