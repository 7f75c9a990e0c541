-- `counted_batch` meets its contract: what is refused by 3, 15 or 19, and what the batch does, with the record anew.
use mathlib.Core.Path.{sym, ◌∙◌}
use borrow.Author.Tests.{not-true, not-false}
use Rattle.calls.specs.Batch.{calls_in, batch_lent}
use Rattle.is_list.proofs.Answered.{reading_listed}
use Rattle.batch.proofs.Whole.{bad_batch, batch_done_lem, batch_listed}
use Rattle.counted.proofs.Outcomes.{agree_length}
use Rattle.counted.proofs.Batched.{batch_refused, batch_bad, batch_made}
use Rattle.counted.proofs.counted_batch.Goals as goal

pub returns-in-Err : goal.returns-in-Err
returns-in-Err c =
    let a = c.args in
    batch_refused a.calls.now (batch_lent a.list.now a.answers.now) a.classes.now (c.check.ensures.refused c.in-Err.refusal c.in-Err.is) c.refused.ensures

pub returns-then-not-fit : goal.returns-then-not-fit
returns-then-not-fit c =
    let a = c.args in
    let lent = batch_lent a.list.now a.answers.now in
    let agreeing = c.check.ensures.agreeing c.in-Ok.levels c.in-Ok.is in
    batch_bad a.calls.now lent a.classes.now agreeing
    (bad_batch a.calls.now lent (reading_listed agreeing.listed) (sym c.fit.ensures ∙ not-true c.fit.result c.if-not-fit.true-raw) c.refused-then-not-fit.ensures)

pub batch-answer-requires : goal.batch-answer-requires
batch-answer-requires c =
    let agreeing = c.check.ensures.agreeing c.in-Ok.levels c.in-Ok.is in
    (agreeing.listed, (sym c.fit.ensures ∙ not-false c.fit.result c.if-not-fit.false-raw))

pub tally-requires : goal.tally-requires
tally-requires c =
    let a = c.args in
    let agreeing = c.check.ensures.agreeing c.in-Ok.levels c.in-Ok.is in
    (batch_listed (calls_in a.calls.now) (batch_lent a.list.now a.answers.now) agreeing.listed c.batch-answer.ensures, agree_length a.list.now a.classes.now agreeing.agree)

pub returns : goal.returns
returns c =
    let a = c.args in
    let lent = batch_lent a.list.now a.answers.now in
    let agreeing = c.check.ensures.agreeing c.in-Ok.levels c.in-Ok.is in
    batch_made a.calls.now lent a.classes.now agreeing
    (batch_done_lem a.calls.now lent (reading_listed agreeing.listed) (sym c.fit.ensures ∙ not-false c.fit.result c.if-not-fit.false-raw) c.batch-answer.ensures) c.tally.ensures
