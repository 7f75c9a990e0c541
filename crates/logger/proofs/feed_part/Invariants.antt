-- `logger::feed_part` meets its contract: what the feed holds is what is begun after the bytes so far.
use lib.ListN.{take}
use Rattle.text.specs.Parts.{Known, BytesFed}
use Rattle.notes.specs.Feeding.{record_handing, Holds}
use Rattle.meaning.specs.Layer.Listed.{Listed}
use Rattle.calls.specs.Records.{note_out}
use Rattle.report.specs.Answered.{leaving}
use Rattle.logger.specs.Input.{kept}
use Rattle.logger.proofs.feed_part.Given as goal

abbrev pub invariant-loop-byte : goal.invariant-loop-byte
invariant-loop-byte l = (Listed l.words l.settings × Known (Holds l.feed)) ×
    BytesFed record_handing (leaving note_out) (take l.byte-index l.part) (Holds l.initial.feed) (kept l.initial.words l.initial.last) (Holds l.feed) (kept l.words l.last)
