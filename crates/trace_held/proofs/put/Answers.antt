-- `trace_held::put` meets its contract: an element is put among those held.
use lib.ListN.{length-set}
use lib.Seq.{take-set-lt}
use native.Mathlib.Omega.{arith}
use Rattle.trace_held.proofs.put.Goals as goal

pub returns-then-index-used : goal.returns-then-index-used
returns-then-index-used g c =
    let a = c.args in
    record {
      held = record { room = length-set a.array.now a.index a.v; within = omega arith };
      is = take-set-lt a.used a.array.now a.index a.v c.if-index-used.true;
    }
