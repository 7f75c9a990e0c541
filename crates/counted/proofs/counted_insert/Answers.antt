-- `counted_insert` meets its contract: what is refused by 3 or 15, and what `insert` does, with the record anew.
use Rattle.answers.specs.declared.Operation.TheVariants.{Insert}
use Rattle.counted.proofs.Kept.{operation_refused, operation_after, operation_renewed}
use Rattle.counted.proofs.Outcomes.{agree_length}
use Rattle.counted.proofs.counted_insert.Goals as goal

pub returns-in-Err : goal.returns-in-Err
returns-in-Err c =
    let a = c.args in
    operation_refused (Insert a.key a.value) a.list.now a.classes.now (c.check.ensures.refused c.in-Err.refusal c.in-Err.is) c.refused.ensures

pub insert-answer-requires : goal.insert-answer-requires
insert-answer-requires c =
    let agreeing = c.check.ensures.agreeing c.in-Ok.levels c.in-Ok.is in
    agreeing.listed

pub renew-requires : goal.renew-requires
renew-requires c =
    let a = c.args in
    let agreeing = c.check.ensures.agreeing c.in-Ok.levels c.in-Ok.is in
    (operation_after (Insert a.key a.value) a.list.now agreeing.listed c.insert-answer.ensures, agree_length a.list.now a.classes.now agreeing.agree)

pub returns : goal.returns
returns c =
    let a = c.args in
    let agreeing = c.check.ensures.agreeing c.in-Ok.levels c.in-Ok.is in
    operation_renewed (Insert a.key a.value) a.list.now a.classes.now agreeing c.insert-answer.ensures c.renew.ensures
