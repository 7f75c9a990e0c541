-- `is_list::standing::put_links` meets its contract: at each turn the links that are still to be put, put after those that are pending then, come to
-- the same as all of them.
use mathlib.Core.Path.{refl, sym, ◌∙◌}
use Prim.Native.Nat.{◌<◌}
use native.Mathlib.Omega.{arith}
use lib.ListN.{length-set}
use Rattle.meaning.specs.Words.{link_at}
use Rattle.is_list.specs.Standing.{pending_of}
use Rattle.is_list.proofs.InOrder.{put_ends, put_passes, put_goes, ranked_goes}
use Rattle.is_list.proofs.standing.put_links.Goals as goal

pub loop-d-init : goal.loop-d-init
loop-d-init c = let pre = c.requires in (pre.1.1.0, (pre.1.1.1, refl))

pub loop-d-preserved-then-y-eq0 : goal.loop-d-preserved-then-y-eq0
loop-d-preserved-then-y-eq0 c =
    let v = c.loop-d in
    let a = c.args in
    let p = v.invariant.1.0 in (
      omega arith,
      (
        record { cells_long = p.cells_long; numbers_long = p.numbers_long; few = omega (arith, p.few); ranked = p.ranked },
        v.invariant.1.1
            ∙ put_passes (link_at a.list.now a.x) (pending_of v.cells v.numbers v.n) (omega arith) (sym c.link-y.ensures ∙ c.if-y-eq0.true),
      ),
    )

pub bounds-cells-n : goal.bounds-cells-n
bounds-cells-n c = omega (arith, c.loop-d.invariant.1.0.few, c.requires.0.dimensions_most, c.loop-d.invariant.1.0.cells_long)

pub bounds-numbers-n : goal.bounds-numbers-n
bounds-numbers-n c = omega (arith, c.loop-d.invariant.1.0.few, c.requires.0.dimensions_most, c.loop-d.invariant.1.0.numbers_long)

pub overflow_add-n : goal.overflow_add-n
overflow_add-n c = omega (arith, c.loop-d.invariant.1.0.few, c.requires.0.dimensions_most)

pub loop-d-preserved : goal.loop-d-preserved
loop-d-preserved c =
    let v = c.loop-d in
    let a = c.args in
    let p = v.invariant.1.0 in
    let y = c.link-y in
    let fits : c.loop-d.n < 16 = omega (arith, c.loop-d.invariant.1.0.few, c.requires.0.dimensions_most) in (
      omega arith,
      (
        record {
          cells_long = length-set v.cells v.n y.result ∙ p.cells_long;
          numbers_long = length-set v.numbers v.n v.d ∙ p.numbers_long;
          few = omega (arith, p.few);
          ranked = ranked_goes a.s v.numbers v.n v.d (omega (arith, p.numbers_long)) p.few (omega arith) p.ranked;
        },
        v.invariant.1.1
            ∙ put_goes (link_at a.list.now a.x) v.cells v.numbers (omega arith) y.ensures c.if-y-eq0.false (omega (arith, p.cells_long))
            (omega (arith, p.numbers_long)),
      ),
    )

pub returns : goal.returns
returns c =
    let v = c.loop-d in
    let a = c.args in
    let p = v.invariant.1.0 in (
      sym (v.invariant.1.1 ∙ put_ends (link_at a.list.now a.x) (pending_of v.cells v.numbers v.n) (omega arith)),
      record { cells_long = p.cells_long; numbers_long = p.numbers_long; few = omega (arith, p.few, v.invariant.0); ranked = p.ranked },
    )
