-- `trace_step::put::put_lent` meets its contract: each number and the byte after it stand at the index after the one before.
use borrow.Author.Rules.{rules}
use Rattle.text.specs.Fields.{space}
use Rattle.report.specs.Report.{decimal}
use Rattle.report.proofs.Puts.{put_field}
use Rattle.report.proofs.Sums.{same_numbers}
use Rattle.trace_step.specs.Printed.{lent_text}
use Rattle.trace_step.proofs.put.put_lent.Goals as goal

pub returns : goal.returns
unfolding lent_text
returns c =
    let words = c.checksum in
    let bytes = c.checksum-2 in (
      rw (← same_numbers words.ensures, ← same_numbers bytes.ensures)
          (put_field (decimal words.result) space c.put_number-second.ensures.0
          (put_field (decimal bytes.result) space c.put_number-third.ensures.0 c.put_number.ensures.0)),
      search rules,
    )
