-- `acceptance_step::put_verdict` meets its contract: words and number are one run of bytes.
use native.Mathlib.Omega.{arith}
use borrow.Author.Tests.{ne_eqb}
use Rattle.text.specs.Fields.{space}
use Rattle.report.specs.Report.{decimal}
use Rattle.report.proofs.Puts.{put_more, put_field, put_start}
use Rattle.acceptance_step.specs.Printed.{verdict_text}
use Rattle.acceptance_step.proofs.put_verdict.Goals as goal

pub returns-then-t-eq0 : goal.returns-then-t-eq0
unfolding verdict_text
returns-then-t-eq0 c =
    let t = c.args.t in
    let first = c.put-at.ensures in
    let number = c.put_number-next.ensures in
    let last = c.put.ensures in
    rw c.if-t-eq0.true
    (put_start (put_more first (put_field (decimal t.lines) space number.0 last)) (omega (arith, c.requires, first.end, number.1, last.end)))

pub returns : goal.returns
unfolding verdict_text
returns c =
    let first = c.put-at-2.ensures in
    let number = c.put_number.ensures in
    rw (ne_eqb c.args.t.first 0 c.if-t-eq0.false) (put_start (put_more first number.0) (omega (arith, c.requires, first.end, number.1)))
