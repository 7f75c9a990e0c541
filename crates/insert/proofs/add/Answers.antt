-- `insert::add` meets its contract: the debts are finished, the new cell is hung from the parent and then the path is written, which makes the
-- words those of the state with the new node.
use Rattle.words.proofs.Listed.{listed_shaped}
use Rattle.search.specs.Found.{slot_of}
use Rattle.insert.proofs.Call.{leads_due, leads_words, new_written, parent_cell, p_link, new_fits, payable_parent, payable_c, new_leads}
use Rattle.insert.proofs.add.Goals as goal

pub position_after-position-requires : goal.position_after-position-requires
position_after-position-requires c = (c.requires.0, c.position_key-top.ensures)

pub finish_neighbours-requires : goal.finish_neighbours-requires
finish_neighbours-requires c =
    let pre = c.requires in
    (listed_shaped pre.0.list, (payable_parent pre.0 pre.1.0, payable_c pre.0 pre.1.0))

pub hang-requires : goal.hang-requires
hang-requires c =
    let pre = c.requires in
    let fits = new_fits pre.0 pre.1.0 pre.1.1.0 pre.1.1.1 in
    (c.finish_neighbours.ensures.1, (fits, (parent_cell pre.0 pre.1.0, p_link pre.0 pre.1.0)))

pub move_position-requires : goal.move_position-requires
move_position-requires c =
    let a = c.args in
    let written =
    new_written a.levels.now.settings.dimensions a.list.now a.key a.value (slot_of a.n a.f) c.finish_neighbours.ensures.0 c.hang.ensures.0 in
    let leads = new_leads c.requires.0 c.requires.1.0 a.value c.requires.1.1.0 c.requires.1.1.1 in
    (c.hang.ensures.1, leads_due leads written c.position_key-top.ensures c.position_after-position.ensures)

pub returns : goal.returns
returns c =
    let a = c.args in
    let written =
    new_written a.levels.now.settings.dimensions a.list.now a.key a.value (slot_of a.n a.f) c.finish_neighbours.ensures.0 c.hang.ensures.0 in
    let leads = new_leads c.requires.0 c.requires.1.0 a.value c.requires.1.1.0 c.requires.1.1.1 in
    leads_words leads written c.position_key-top.ensures c.position_after-position.ensures c.move_position.ensures
