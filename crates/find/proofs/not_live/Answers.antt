-- `find::not_live` meets its contract: the table of refusals gives that case the number 8.
use Rattle.find.proofs.not_live.Goals as goal

pub returns : goal.returns
returns c = c.refused.ensures
