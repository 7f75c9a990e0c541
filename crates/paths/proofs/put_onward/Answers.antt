-- `paths::put_onward` meets its contract: the words from d on are filled with y, those past the cells used stay.
use Rattle.paths.proofs.Paths.{onward_put}
use Rattle.paths.proofs.put_onward.Goals as goal

pub returns : goal.returns
returns c =
    let a = c.args in
    onward_put a.used a.d a.y a.cells.now c.requires.0 c.requires.1 (c.fill.ensures.after (λ y e. e))
