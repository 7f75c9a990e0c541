-- `logger_step::note_text` meets its contract: the answer put is that of the record that is told of.
use mathlib.Core.List.{[]}
use native.Mathlib.Omega.{arith}
use Rattle.calls.specs.Records.{lent_of}
use Rattle.logger_step.proofs.Printed.{told_within, no_record_answered, record_answered}
use Rattle.logger_step.proofs.note_text.Goals as goal

pub returns-in-None : goal.returns-in-None
returns-in-None c =
    let a = c.args in
    no_record_answered (lent_of a.list.now [] a.last.now) a.out.now c.in-None.is

pub note-requires : goal.note-requires
note-requires c = let p = c.requires in (p.0, told_within c.in-Some.is p.1.0)

pub returns-in-Some : goal.returns-in-Some
returns-in-Some c =
    let put = c.put_answer.ensures in
    record_answered put.0 (omega (arith, put.1)) c.in-Some.is c.note.ensures
