-- `mdlist_batch` meets its contract: what is no list, and what are no calls that fit, is refused; else the calls are handed to `batch`.
use mathlib.Core.Path.{◌∙◌, sym}
use Rattle.calls.specs.Batch.{batch_lent}
use Rattle.is_list.proofs.Answered.{reading_none, reading_listed}
use Rattle.batch.proofs.Whole.{bad_batch, batch_done_lem}
use Rattle.mdlist.proofs.Exported.{no_list_batch}
use Rattle.mdlist.proofs.mdlist_batch.Goals as goal

pub returns-in_default : goal.returns-in_default
returns-in_default c =
    let a = c.args in
    let check = c.is_list in
    no_list_batch a.calls.now (batch_lent a.list.now a.answers.now)
    (reading_none a.list.now (check.ensures.none c.in_default.is)) c.refused.ensures

pub batch-requires : goal.batch-requires
batch-requires c =
    let check = c.is_list in
    let listed = check.ensures.listed c.in-Some.levels c.in-Some.is in
    (listed, (sym c.fit.ensures ∙ c.if-fit.true))

pub returns-then-fit : goal.returns-then-fit
returns-then-fit c =
    let a = c.args in
    let check = c.is_list in
    let listed = check.ensures.listed c.in-Some.levels c.in-Some.is in
    batch_done_lem a.calls.now (batch_lent a.list.now a.answers.now) (reading_listed listed) (sym c.fit.ensures ∙ c.if-fit.true)
    c.batch.ensures

pub returns : goal.returns
returns c =
    let a = c.args in
    let check = c.is_list in
    let listed = check.ensures.listed c.in-Some.levels c.in-Some.is in
    bad_batch a.calls.now (batch_lent a.list.now a.answers.now) (reading_listed listed) (sym c.fit.ensures ∙ c.if-fit.false)
    c.refused-2.ensures
