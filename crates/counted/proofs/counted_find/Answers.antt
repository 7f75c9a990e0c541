-- `counted_find` meets its contract: what is refused by 3 or 15, and what `find` does; the record stays.
use mathlib.Core.Path.{refl}
use Rattle.answers.specs.declared.Operation.TheVariants.{Find}
use Rattle.counted.proofs.Kept.{operation_refused, operation_kept}
use Rattle.counted.proofs.counted_find.Goals as goal

pub returns-in-Err : goal.returns-in-Err
returns-in-Err c =
    let a = c.args in
    operation_refused (Find a.key) a.list.now a.classes.now (c.check.ensures.refused c.in-Err.refusal c.in-Err.is) c.refused.ensures

pub find-requires : goal.find-requires
find-requires c =
    let agreeing = c.check.ensures.agreeing c.in-Ok.levels c.in-Ok.is in
    agreeing.listed

pub returns : goal.returns
returns c =
    let a = c.args in
    let agreeing = c.check.ensures.agreeing c.in-Ok.levels c.in-Ok.is in
    operation_kept (Find a.key) a.list.now a.classes.now agreeing refl c.find.ensures
