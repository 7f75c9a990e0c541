-- `insert::revive` meets its contract: value and mark are written and then the path, which makes the words those of the revived state.
use native.Mathlib.Omega.{arith}
use Rattle.words.proofs.Shaped.{field_within}
use Rattle.words.proofs.Listed.{listed_shaped}
use Rattle.search.proofs.Slots.{standing_cell}
use Rattle.insert.proofs.Inserting.{node_written}
use Rattle.insert.proofs.Call.{leads_due, leads_words, dead_leads}
use Rattle.insert.proofs.revive.Goals as goal

pub position_after-position-requires : goal.position_after-position-requires
position_after-position-requires c = (c.requires.0, c.position_key-top.ensures)

pub store-requires : goal.store-requires
store-requires c =
    let pre = c.requires in
    (listed_shaped pre.0.list, field_within (standing_cell pre.0 pre.1.0) (omega arith))

pub store-requires-2 : goal.store-requires-2
store-requires-2 c =
    let pre = c.requires in
    (c.store.ensures.1, field_within (standing_cell pre.0 pre.1.0) (omega arith))

pub move_position-requires : goal.move_position-requires
move_position-requires c =
    let a = c.args in
    let written = node_written a.levels.now.settings.dimensions a.list.now a.f.c a.value 1 c.store.ensures.0 c.store-2.ensures.0 in
    let leads = dead_leads c.requires.0 c.requires.1.0 a.value c.requires.1.1 in
    (c.store-2.ensures.1, leads_due leads written c.position_key-top.ensures c.position_after-position.ensures)

pub returns : goal.returns
returns c =
    let a = c.args in
    let written = node_written a.levels.now.settings.dimensions a.list.now a.f.c a.value 1 c.store.ensures.0 c.store-2.ensures.0 in
    let leads = dead_leads c.requires.0 c.requires.1.0 a.value c.requires.1.1 in
    leads_words leads written c.position_key-top.ensures c.position_after-position.ensures c.move_position.ensures
