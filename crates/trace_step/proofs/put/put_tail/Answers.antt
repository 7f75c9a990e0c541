-- `trace_step::put::put_tail` meets its contract, by its test.
use native.Mathlib.Omega.{arith}
use Rattle.report.proofs.Sums.{same_numbers}
use Rattle.trace_step.proofs.put.put_tail.Goals as goal

pub returns-then-told : goal.returns-then-told
returns-then-told c = rw c.if-told.true c.put_lent.ensures

pub returns : goal.returns
returns c = let put = c.put_number.ensures in rw (c.if-told.false, ← same_numbers c.checksum.ensures) (put.0, omega (arith, put.1))
