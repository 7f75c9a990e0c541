-- `acceptance_step::row_operation` meets its contract: each operation is that of its exported function.
use Rattle.acceptance_step.proofs.row_operation.Goals as goal

pub returns-in-Insert : goal.returns-in-Insert
returns-in-Insert c = rw c.in-Insert.is c.row_insert.ensures

pub returns-in-Find : goal.returns-in-Find
returns-in-Find c = rw c.in-Find.is c.row_find.ensures

pub returns-in-Finish : goal.returns-in-Finish
returns-in-Finish c = rw c.in-Finish.is c.row_finish.ensures

pub returns-in-Take : goal.returns-in-Take
returns-in-Take c = rw c.in-Take.is c.row_take.ensures

pub returns-in-Sweep : goal.returns-in-Sweep
returns-in-Sweep c = rw c.in-Sweep.is c.row_sweep.ensures
