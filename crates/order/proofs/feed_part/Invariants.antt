-- `order::feed_part` meets its contract: what stands in the feed is what is begun after the bytes so far.
use lib.ListN.{take}
use Rattle.text.specs.Parts.{Known, BytesFed}
use Rattle.text.specs.Feeding.{line_handing, Holds}
use Rattle.meaning.specs.Layer.Listed.{Listed}
use Rattle.report.specs.Answered.{leaving}
use Rattle.order_step.specs.Step.{line_outcome}
use Rattle.order.proofs.feed_part.Given as goal

abbrev pub invariant-loop-byte : goal.invariant-loop-byte
invariant-loop-byte l = (Listed l.words l.settings × Known (Holds l.line l.feed)) ×
    BytesFed line_handing (leaving line_outcome) (take l.byte-index l.part) (Holds l.initial.line l.initial.feed) l.initial.words (Holds l.line l.feed) l.words
