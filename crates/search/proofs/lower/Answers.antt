-- `search::lower` meets its contract and ends: each turn goes one step of the way, and raises the number of the link at hand or the cell's digit
-- there.
use mathlib.Core.Path.{sym, ◌∙◌}
use Prim.Native.Nat.{◌+◌, ◌≤◌}
use native.Mathlib.Nat.{mul-le-mul_right}
use native.Mathlib.Numerals.{add-one}
use native.Mathlib.Omega.{arith}
use Rattle.meaning.specs.Words.{key_at}
use Rattle.meaning.proofs.Rows.Keys.{coordinate_below}
use Rattle.words.proofs.Listed.{listed_shaped, listed_base, listed_owed}
use Rattle.search.proofs.Lowering.{lower_starts, lower_number, lower_cell, lower_ends, lower_up, lower_along, lower_raised}
use Rattle.search.proofs.lower.Goals as goal

pub overflow_add-d : goal.overflow_add-d
overflow_add-d c =
    let sought = c.requires.sought in
    omega (arith, lower_number sought.list sought, (listed_shaped sought.list).dimensions_most)

pub loop-d-init : goal.loop-d-init
loop-d-init c = let sought = c.requires.sought in rw (add-one c.args.f.p) (lower_starts sought.list sought)

pub link_read-y-requires : goal.link_read-y-requires
link_read-y-requires c =
    let v = c.loop-d in
    let list = c.requires.sought.list in
    let cell = lower_cell list v.invariant in
    (listed_shaped list, (cell, (omega arith, listed_owed list v.at cell)))

pub loop-d-smaller-then-y-eq0 : goal.loop-d-smaller-then-y-eq0
loop-d-smaller-then-y-eq0 c =
    let v = c.loop-d in
    let a = c.args in
    let list = c.requires.sought.list in
    let digit = coordinate_below a.s.base a.s.dimensions (key_at a.list.now v.at) v.d (listed_base list) in
    let next : v.d + 1 ≤ a.s.dimensions = omega arith in
    let more = mul-le-mul_right a.s.base next in
    omega arith

pub loop-d-preserved-then-y-eq0 : goal.loop-d-preserved-then-y-eq0
loop-d-preserved-then-y-eq0 c =
    let v = c.loop-d in
    let list = c.requires.sought.list in
    rw (add-one v.d) (lower_up list v.invariant (omega arith) (sym c.link_read-y.ensures ∙ c.if-y-eq0.true))

pub loop-d-smaller : goal.loop-d-smaller
loop-d-smaller c =
    let v = c.loop-d in
    let a = c.args in
    let list = c.requires.sought.list in
    let digit = coordinate_below a.s.base a.s.dimensions (key_at a.list.now v.at) v.d (listed_base list) in
    let next : v.d + 1 ≤ a.s.dimensions = omega arith in
    let more = mul-le-mul_right a.s.base next in
    let is = c.link_read-y.ensures in
    let raised = rw (← is) at (lower_raised list v.invariant (omega arith) (λ e. c.if-y-eq0.false (is ∙ e))) in
    omega arith

pub loop-d-preserved : goal.loop-d-preserved
loop-d-preserved c =
    let v = c.loop-d in
    let list = c.requires.sought.list in
    let is = c.link_read-y.ensures in
    rw is (lower_along list v.invariant (omega arith) (λ e. c.if-y-eq0.false (is ∙ e)))

pub returns : goal.returns
returns c =
    let v = c.loop-d in
    rw (← add-one c.args.f.p) (lower_ends c.requires.sought.list v.invariant (omega arith))
