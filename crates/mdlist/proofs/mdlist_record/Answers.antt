-- `mdlist_record` meets its contract: what is no list is refused, and on a list what the record notes is handed to `insert_record`.
use mathlib.Core.Path.{sym, subst}
use Rattle.notes.specs.Notes.{Within}
use Rattle.notes.proofs.Notes.{notes_within}
use Rattle.is_list.proofs.Answered.{reading_none}
use Rattle.insert_record.proofs.Recorded.{record_meets}
use Rattle.mdlist.proofs.Exported.{no_record_meets}
use Rattle.mdlist.proofs.mdlist_record.Goals as goal

pub returns-in_default : goal.returns-in_default
returns-in_default c =
    let check = c.is_list in
    no_record_meets (reading_none c.args.list.now (check.ensures.none c.in_default.is)) c.refused.ensures

pub insert_record-requires : goal.insert_record-requires
insert_record-requires c =
    let check = c.is_list in
    let listed = check.ensures.listed c.in-Some.levels c.in-Some.is in
    let within = subst Within (sym c.note_by.ensures) (notes_within c.args.record.now) in
    (listed, within)

pub returns : goal.returns
returns c = record_meets c.args.record.now c.note_by.ensures c.insert_record.ensures
