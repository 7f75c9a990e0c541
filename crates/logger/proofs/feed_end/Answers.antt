-- `logger::feed_end` meets its contract: what the feed tells of is in range, and is what the end hands on.
use Rattle.text.proofs.Parts.{end_fed}
use Rattle.notes.specs.Feeding.{record_handing}
use Rattle.calls.specs.Records.{note_out}
use Rattle.report.specs.Answered.{leaving}
use Rattle.logger.proofs.Input.{end_told_within}
use Rattle.logger.proofs.feed_end.Goals as goal

pub enter_record-requires : goal.enter_record-requires
enter_record-requires c = (c.requires.0, end_told_within c.requires.1 c.finish.ensures)

pub returns : goal.returns
returns c = end_fed record_handing (leaving note_out) c.enter_record.ensures c.finish.ensures.told
