-- `logger::feed_byte` meets its contract: what the feed tells of is in range, and is what the byte hands on.
use Rattle.text.proofs.Parts.{byte_fed}
use Rattle.notes.specs.Feeding.{record_handing}
use Rattle.calls.specs.Records.{note_out}
use Rattle.report.specs.Answered.{leaving}
use Rattle.logger.proofs.Input.{byte_told_within}
use Rattle.logger.proofs.feed_byte.Goals as goal

pub enter_record-requires : goal.enter_record-requires
enter_record-requires c = (c.requires.0, byte_told_within c.requires.1 c.feed_byte-fed.ensures)

pub returns : goal.returns
returns c =
    let step = c.feed_byte-fed.ensures in
    byte_fed record_handing (leaving note_out) c.enter_record.ensures step.begun step.told
