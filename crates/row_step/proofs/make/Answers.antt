-- `row_step::make` meets its contract: each call is that of its exported function, and what a row does not offer is answered 10.
use mathlib.Core.Path.{refl}
use Rattle.row_step.proofs.make.Goals as goal

pub returns-in-SetUp : goal.returns-in-SetUp
returns-in-SetUp c = rw c.in-SetUp.is c.row_set_up.ensures

pub returns-in-Operate : goal.returns-in-Operate
returns-in-Operate c = rw c.in-Operate.is c.row_operation.ensures

pub returns-in-Record : goal.returns-in-Record
returns-in-Record c = rw c.in-Record.is (record { answered = c.refused.ensures; left = refl })

pub returns-in-Write : goal.returns-in-Write
returns-in-Write c = rw c.in-Write.is (record { answered = c.refused-in-Write.ensures; left = refl })

pub returns-in-Read : goal.returns-in-Read
returns-in-Read c = rw c.in-Read.is (record { answered = c.refused-in-Read.ensures; left = refl })
