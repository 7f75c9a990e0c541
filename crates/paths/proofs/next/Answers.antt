-- `paths::next` meets its contract: the path goes on to the next cell.
use Rattle.paths.proofs.Paths.{next_with}
use Rattle.paths.proofs.next.Goals as goal

pub returns : goal.returns
returns c = next_with c.requires.1 c.in_ok-next.ensures c.put_onward.ensures
