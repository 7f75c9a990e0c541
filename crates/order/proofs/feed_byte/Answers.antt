-- `order::feed_byte` meets its contract: what the feed tells of is what the byte hands on.
use Rattle.text.proofs.Parts.{byte_fed}
use Rattle.text.specs.Feeding.{line_handing}
use Rattle.text.proofs.Feeding.{step_holds, step_tells}
use Rattle.report.specs.Answered.{leaving}
use Rattle.order_step.specs.Step.{line_outcome}
use Rattle.order.proofs.feed_byte.Goals as goal

pub returns : goal.returns
returns c =
    let step = c.feed_byte-fed.ensures in
    byte_fed line_handing (leaving line_outcome) c.answer_line.ensures (step_holds step) (step_tells step)
