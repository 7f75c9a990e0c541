-- `operate::operate` meets its contract: each operation is that of its crate, and takes a list to a list.
use Rattle.operate.proofs.Operating.{operated}
use Rattle.operate.proofs.operate.Goals as goal

pub returns-in-Insert : goal.returns-in-Insert
returns-in-Insert c = operated c.requires _ _ c.in-Insert.is c.insert.ensures

pub returns-in-Find : goal.returns-in-Find
returns-in-Find c = operated c.requires _ _ c.in-Find.is c.find.ensures

pub returns-in-Finish : goal.returns-in-Finish
returns-in-Finish c = operated c.requires _ _ c.in-Finish.is c.finish.ensures

pub returns-in-Take : goal.returns-in-Take
returns-in-Take c = operated c.requires _ _ c.in-Take.is c.take.ensures

pub returns-in-Sweep : goal.returns-in-Sweep
returns-in-Sweep c = operated c.requires _ _ c.in-Sweep.is c.sweep.ensures
