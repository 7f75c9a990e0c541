-- `acceptance_step::put_pair` meets its contract: the two answers are one run of bytes.
use native.Mathlib.Omega.{arith}
use Rattle.report.proofs.Puts.{put_more, put_start}
use Rattle.acceptance_step.specs.Printed.{pair_text}
use Rattle.acceptance_step.proofs.put_pair.Goals as goal

pub returns : goal.returns
unfolding pair_text
returns c =
    let one = c.put_answer-at.ensures in
    let other = c.put_answer.ensures in
    put_start (put_more one.0 other.0) (omega (arith, c.requires, one.1, other.1))
