-- `Path::put_onward` meets its contract: what becomes of the cells is what becomes of the path.
use mathlib.Core.Path.{refl}
use Rattle.paths.proofs.Paths.{onward_path}
use Rattle.paths.proofs.path.Path.put_onward.Goals as goal

pub returns : goal.returns
returns c = onward_path c.requires c.put_onward.ensures refl
