-- `words::position` meets its contract: the last path word stands behind the header and D - 1 others.
use Rattle.words.proofs.Shaped.{position_is}
use Rattle.words.proofs.position.Goals as goal

pub returns : goal.returns
returns c = position_is c.requires
