-- `logger_step::take_text` meets its contract: the answer put is that of the take.
use native.Mathlib.Omega.{arith}
use Rattle.logger_step.proofs.Printed.{take_answered}
use Rattle.logger_step.proofs.take_text.Goals as goal

pub returns : goal.returns
returns c = let put = c.put_answer-bytes.ensures in take_answered put.0 (omega (arith, put.1)) c.take-answer.ensures
