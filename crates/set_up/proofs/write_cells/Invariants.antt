-- `set_up::write_cells` meets its contract: before cell x is written the list is what stood before the cells, the cells before x, and
-- what stood after them.
use mathlib.Core.List.{◌++◌}
use mathlib.Core.Path.{◌≡◌}
use Prim.Native.Nat.{◌+◌, ◌*◌}
use lib.ListN.{drop}
use Rattle.settings.specs.Numbers.{header_words, cell_words}
use Rattle.set_up.proofs.Drawing.{cells_done}
use Rattle.set_up.proofs.write_cells.Given as goal

abbrev pub invariant-loop-x : goal.invariant-loop-x
invariant-loop-x l =
    l.list ≡ cells_done l.initial.list l.d l.c l.x ++ drop (header_words + l.d + l.x * cell_words l.d) l.initial.list
