-- `trace_step::put::put_head` meets its contract: what is put is read off by the kind of the reply.
use native.Mathlib.Omega.{arith}
use Rattle.trace_step.specs.Printed.{head_text}
use Rattle.trace_step.proofs.put.put_head.Goals as goal

pub returns-in-Some : goal.returns-in-Some
unfolding head_text
returns-in-Some c = rw c.in-Some.is c.put_answer.ensures

pub returns-in-None : goal.returns-in-None
unfolding head_text
returns-in-None c = let put = c.put.ensures in rw c.in-None.is (put, omega (arith, put.end))
