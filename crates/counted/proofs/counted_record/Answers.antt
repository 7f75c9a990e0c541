-- `counted_record` meets its contract: what is refused by 3 or 15, and what the record notes, inserted, with the class record anew.
use mathlib.Core.Path.{sym, subst}
use Rattle.notes.specs.Notes.{Within}
use Rattle.notes.proofs.Notes.{notes_within}
use Rattle.insert_record.proofs.Recorded.{record_meets}
use Rattle.counted.proofs.Outcomes.{agree_length}
use Rattle.counted.proofs.Kept.{record_refused, record_renewed, note_after}
use Rattle.counted.proofs.counted_record.Goals as goal

pub returns-in-Err : goal.returns-in-Err
returns-in-Err c =
    let a = c.args in
    record_refused a.list.now a.record.now a.last.now a.classes.now (c.check.ensures.refused c.in-Err.refusal c.in-Err.is) c.refused.ensures

pub insert_record-answer-requires : goal.insert_record-answer-requires
insert_record-answer-requires c =
    let agreeing = c.check.ensures.agreeing c.in-Ok.levels c.in-Ok.is in
    let within = subst Within (sym c.note_by-logged.ensures) (notes_within c.args.record.now) in
    (agreeing.listed, within)

pub renew-requires : goal.renew-requires
renew-requires c =
    let a = c.args in
    let agreeing = c.check.ensures.agreeing c.in-Ok.levels c.in-Ok.is in
    (note_after agreeing.listed c.insert_record-answer.ensures, agree_length a.list.now a.classes.now agreeing.agree)

pub returns : goal.returns
returns c =
    let a = c.args in
    let agreeing = c.check.ensures.agreeing c.in-Ok.levels c.in-Ok.is in
    record_renewed a.list.now a.record.now a.last.now a.classes.now agreeing
    (record_meets a.record.now c.note_by-logged.ensures c.insert_record-answer.ensures) c.renew.ensures
