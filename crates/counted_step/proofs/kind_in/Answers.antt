-- `counted_step::kind_in` meets its contract, case by case.
use mathlib.Core.Path.{refl}
use Rattle.counted_step.proofs.kind_in.Goals as goal

pub returns-in-Listed : goal.returns-in-Listed
returns-in-Listed c = let is = c.in-Listed.is in (rw is refl, rw is at c.requires)
