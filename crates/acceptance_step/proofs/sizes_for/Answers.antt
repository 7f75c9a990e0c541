-- `acceptance_step::sizes_for` meets its contract, by the kind of the line.
use Rattle.acceptance_step.proofs.sizes_for.Goals as goal

pub returns-in-SetUp : goal.returns-in-SetUp
returns-in-SetUp c = rw c.in-SetUp.is c.set_up_sizes.ensures
