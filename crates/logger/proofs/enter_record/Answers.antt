-- `logger::enter_record` meets its contract: the bytes written are those that `note_text` puts, on what was kept before it.
use mathlib.Core.Path.{sym}
use lib.Seq.{length-take-le}
use Rattle.calls.specs.Records.{note_out}
use Rattle.report.proofs.Answered.{text_of}
use Rattle.logger.proofs.enter_record.Goals as goal

pub slice_bounds-write-end : goal.slice_bounds-write-end
slice_bounds-write-end c = let answered = c.note_text-n in sym (length-take-le answered.result _ answered.ensures.within)

pub write-requires : goal.write-requires
write-requires c = text_of note_out c.note_text-n.ensures

pub returns : goal.returns
returns c = c.note_text-n.ensures.left
