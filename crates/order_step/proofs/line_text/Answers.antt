-- `order_step::line_text` meets its contract: the answer put is that of the line's outcome.
use native.Mathlib.Omega.{arith}
use Rattle.order_step.proofs.LineText.{no_line_answered, line_answered, long_line_answered}
use Rattle.order_step.proofs.line_text.Goals as goal

pub returns-in-NoLine : goal.returns-in-NoLine
returns-in-NoLine c = let a = c.args in no_line_answered a.list.now a.out.now a.line.now c.in-NoLine.is

pub returns-in-Line : goal.returns-in-Line
returns-in-Line c =
    let a = c.args in
    let put = c.put_answer.ensures in
    line_answered a.list.now put.0 (omega (arith, put.1)) a.line.now c.in-Line.is c.step.ensures

pub returns-in-LongLine : goal.returns-in-LongLine
returns-in-LongLine c =
    let a = c.args in
    let put = c.put_answer-in-LongLine.ensures in
    long_line_answered a.list.now put.0 (omega (arith, put.1)) a.line.now c.in-LongLine.is c.long_line.ensures
