-- `report::put_checked` meets its contract: the checksum is put at the index after the answer.
use native.Mathlib.Omega.{arith}
use Rattle.report.specs.Report.{checked_text}
use Rattle.report.proofs.Puts.{put_more}
use Rattle.report.proofs.put_checked.Goals as goal

pub returns : goal.returns
unfolding checked_text
returns c =
    let sum = c.put_checksum.ensures in
    let answer = c.put_answer-at.ensures in
    (put_more answer.0 sum.0, omega (arith, answer.1, sum.1))
