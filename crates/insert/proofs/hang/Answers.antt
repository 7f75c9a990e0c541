-- `insert::hang` meets its contract: the first free cell is taken off its chain and written, and link p of the parent is set.
use native.Mathlib.Omega.{arith}
use Rattle.words.proofs.Shaped.{set_shaped}
use Rattle.insert.proofs.Call.{hung}
use Rattle.insert.proofs.hang.Goals as goal

pub write_cell-requires : goal.write_cell-requires
write_cell-requires c =
    let pre = c.requires in (set_shaped pre.0 4 c.word.result (omega arith), pre.1.0)

pub returns : goal.returns
returns c =
    let a = c.args in (
      hung c.requires.0 a.key a.value a.t c.word.ensures c.write_cell.ensures.0 c.store_link.ensures.0,
      c.store_link.ensures.1,
    )
