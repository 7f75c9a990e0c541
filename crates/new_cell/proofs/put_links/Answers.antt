-- `new_cell::put_links` meets its contract: the part lent is the cell's links.
use mathlib.Core.Path.{refl}
use Rattle.meaning.specs.Words.{link_field}
use Rattle.meaning.specs.Layer.Stores.{new_links}
use Rattle.words.proofs.Shaped.{stores_shaped}
use Rattle.new_cell.proofs.NewWords.{links_written}
use Rattle.new_cell.proofs.put_links.Goals as goal

pub returns : goal.returns
returns c =
    let a = c.args in
    let pre = c.requires in
    rw (links_written pre.0 pre.1.0 c.word_index-start.ensures.0 refl a.q a.c c.write_links.ensures)
    (refl, stores_shaped pre.0 a.n (link_field 0) (new_links a.s.dimensions a.q a.c))
