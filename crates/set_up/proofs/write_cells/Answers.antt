-- `set_up::write_cells` meets its contract: before cell x is written the list is what stood before the cells, the cells before x, and
-- what stood after them.
use Rattle.set_up.proofs.Drawing.{cells_start, cells_more}
use Rattle.set_up.proofs.write_cells.Goals as goal

pub loop-x-init : goal.loop-x-init
loop-x-init c = cells_start c.args.list.now c.args.d c.args.c

pub loop-x-preserved : goal.loop-x-preserved
loop-x-preserved c =
    let v = c.loop-x in
    let a = c.args in
    cells_more a.list.now a.d a.c c.requires v.x c.loop-x-test.true c.cell_words-cell_words.ensures v.invariant c.write_cell.ensures c.first_word.ensures c.mark_of.ensures
