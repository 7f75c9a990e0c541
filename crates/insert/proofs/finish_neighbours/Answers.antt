-- `insert::finish_neighbours` meets its contract: the head, for which c is 0 where there is no c, has nothing to finish.
use mathlib.Core.Path.{◌∙◌}
use Rattle.insert.proofs.Inserting.{paid_one, paid_two}
use Rattle.insert.proofs.finish_neighbours.Goals as goal

pub returns-then-t-eq0 : goal.returns-then-t-eq0
returns-then-t-eq0 c =
    let a = c.args in
    let first = c.finish_cell.ensures in
    (first.0 ∙ paid_one a.s.dimensions a.list.now a.t.parent a.t.c c.if-t-eq0.true, first.1)

pub finish_cell-requires-2 : goal.finish_cell-requires-2
finish_cell-requires-2 c =
    let first = c.finish_cell.ensures in
    (first.1, rw first.0 c.requires.1.1)

pub returns : goal.returns
returns c =
    let a = c.args in
    let first = c.finish_cell.ensures in
    let second = c.finish_cell-2.ensures in
    (rw (second.0, first.0) (paid_two a.s.dimensions a.list.now a.t.parent a.t.c c.if-t-eq0.false), second.1)
