-- `free_between::free_cell` meets its contract: the cell's first word leads to the next free one, its other words are 0, and it is the first
-- free one.
use native.Mathlib.Omega.{arith}
use Rattle.words.proofs.Shaped.{set_shaped}
use Rattle.free_between.proofs.Between.{freed}
use Rattle.free_between.proofs.free_cell.Goals as goal

pub returns : goal.returns
returns c =
    let e = c.store_before_zeros.ensures in
    let a = c.args in
    (freed a.s.dimensions a.list.now a.x e.0, set_shaped e.1 4 a.x (omega arith))
