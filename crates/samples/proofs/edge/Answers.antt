-- `samples::edge` writes the line of its row: the bytes put, for as many words as the row asks for.
use mathlib.Core.Path.{sym, ◌∙◌, ap}
use lib.ListN.{get_or}
use lib.Seq.{length-take-le}
use borrow.Author.Rules.{rules}
use Rattle.samples.specs.Printed.{edge_text, row_text}
use Rattle.samples.proofs.edge.Goals as goal

pub slice_bounds-write-end : goal.slice_bounds-write-end
slice_bounds-write-end c =
    let put = c.edge_text-end in
    sym (length-take-le put.result _ put.ensures.1)

pub write-requires : goal.write-requires
unfolding row_text
write-requires c =
    let a = c.args in
    let row = a.row in
    c.edge_text-end.ensures.0
    ∙ ap (edge_text (get_or row 0 0) (get_or row 1 0) (get_or row 2 0)) (length-take-le (get_or row 3 0) a.words.now (search rules))
