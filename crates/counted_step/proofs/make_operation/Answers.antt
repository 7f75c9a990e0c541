-- `counted_step::make_operation` meets its contract: each operation is that of its exported function.
use Rattle.counted_step.proofs.make_operation.Goals as goal

pub returns-in-Insert : goal.returns-in-Insert
returns-in-Insert c = rw c.in-Insert.is c.counted_insert.ensures

pub returns-in-Find : goal.returns-in-Find
returns-in-Find c = rw c.in-Find.is c.counted_find.ensures

pub returns-in-Finish : goal.returns-in-Finish
returns-in-Finish c = rw c.in-Finish.is c.counted_finish.ensures

pub returns-in-Take : goal.returns-in-Take
returns-in-Take c = rw c.in-Take.is c.counted_take.ensures

pub returns-in-Sweep : goal.returns-in-Sweep
returns-in-Sweep c = rw c.in-Sweep.is c.counted_sweep.ensures
