-- `report::put_answer` meets its contract: each number and the byte after it stand at the index after the one before.
use Rattle.text.specs.Fields.{space}
use Rattle.report.specs.Report.{decimal, answer_text}
use Rattle.report.proofs.Puts.{put_field}
use borrow.Author.Rules.{rules}
use Rattle.report.proofs.put_answer.Goals as goal

pub returns : goal.returns
unfolding answer_text
returns c =
    let a = c.args.a in
    let refusal =
    c.put_number-key.ensures.0 in
    let key = c.put_number-value.ensures.0 in
    let value = c.put_number-count.ensures.0 in
    let count = c.put_number.ensures.0 in
    (put_field (decimal a.refusal) space refusal (put_field (decimal a.key) space key (put_field (decimal a.value) space value count)), search rules)
