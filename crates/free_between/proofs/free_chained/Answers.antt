-- `free_between::free_chained` meets its contract: what is left to free from cell x on, in the list as it stands, gives the same words as all of it in
-- the list of the call.
use mathlib.Core.Path.{refl, sym, ◌∙◌}
use Prim.Native.Nat.{ℕ, ◌+◌, ◌-◌, ◌<◌}
use native.Mathlib.Nat.{sub-zero}
use native.Mathlib.Omega.{arith}
use Rattle.words.proofs.Shaped.{field_within}
use Rattle.free_between.proofs.Between.{chain_first, chain_rest, chained_more, chained_none}
use Rattle.free_between.proofs.free_chained.Goals as goal
use Rattle.free_between.proofs.free_chained.Goals.{In-loop}

pub loop-init : goal.loop-init
loop-init c = rw (sub-zero c.args.chained.count) (c.requires.0, (c.requires.1, refl))

-- how many are left after the turn
abbrev left : In-loop → ℕ
left c = c.args.chained.count - (c.loop.counter + 1)

first_in : (c : In-loop) → c.loop.x < c.args.s.cells
first_in c = chain_first c.loop.invariant.0 c.loop.x (c.args.chained.count - c.loop.counter) (left c) (omega arith) c.loop.invariant.1.0

pub word-next-requires : goal.word-next-requires
word-next-requires c = (c.loop.invariant.0, field_within (first_in c) (omega arith))

pub free_cell-requires : goal.free_cell-requires
free_cell-requires c = (c.loop.invariant.0, first_in (goal.at.free_cell-requires c).In-loop)

pub loop-preserved : goal.loop-preserved
loop-preserved c =
    let v = c.loop in
    let n = c.args.chained.count - v.counter in
    let rest = left (goal.at.loop-preserved c).In-loop in
    let next = c.word-next.ensures in
    let e = c.free_cell.ensures in (
      e.1,
      (
        chain_rest v.invariant.0 v.x n rest (omega arith) next e.0 v.invariant.1.0,
        v.invariant.1.1 ∙ chained_more v.invariant.0 v.x n rest (omega arith) next e.0,
      ),
    )

pub returns : goal.returns
returns c =
    let v = c.loop in
    (sym (v.invariant.1.1 ∙ chained_none c.args.s.dimensions v.list v.x (omega arith)), v.invariant.0)
