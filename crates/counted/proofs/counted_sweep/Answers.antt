-- `counted_sweep` meets its contract: what is refused by 3 or 15, and what `sweep` does; the record stays.
use mathlib.Core.Path.{refl}
use Rattle.answers.specs.declared.Operation.TheVariants.{Sweep}
use Rattle.counted.proofs.Kept.{operation_refused, operation_kept}
use Rattle.counted.proofs.counted_sweep.Goals as goal

pub returns-in-Err : goal.returns-in-Err
returns-in-Err c =
    let a = c.args in
    operation_refused Sweep a.list.now a.classes.now (c.check.ensures.refused c.in-Err.refusal c.in-Err.is) c.refused.ensures

pub sweep-requires : goal.sweep-requires
sweep-requires c =
    let agreeing = c.check.ensures.agreeing c.in-Ok.levels c.in-Ok.is in
    agreeing.listed

pub returns : goal.returns
returns c =
    let a = c.args in
    let agreeing = c.check.ensures.agreeing c.in-Ok.levels c.in-Ok.is in
    operation_kept Sweep a.list.now a.classes.now agreeing refl c.sweep.ensures
