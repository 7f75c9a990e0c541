-- `paths::next_from` meets its contract: the links are looked at from the highest down, as in the definition, and the first that leads
-- somewhere leads to the next cell.
use mathlib.Core.Path.{ap, ◌∙◌}
use native.Mathlib.Omega.{arith}
use Rattle.meaning.specs.Layer.Paths.{next_from}
use Rattle.meaning.proofs.Paths.PathNext.{next_none}
use Rattle.paths.specs.Paths.{path_of}
use Rattle.paths.proofs.Paths.{next_lower, next_found}
use Rattle.paths.proofs.next_from.Goals as goal

pub returns-then-y-ne0 : goal.returns-then-y-ne0
returns-then-y-ne0 c =
    next_found c.args.list.now c.requires.1 c.loop-d-test.true c.loop-d.auto.d c.loop-d.invariant c.link_read-y.ensures c.requires.0 c.if-y-ne0.true

pub loop-d-preserved : goal.loop-d-preserved
loop-d-preserved c = next_lower c.args.list.now c.requires.1 c.loop-d-test.true c.loop-d.auto.d c.loop-d.invariant c.link_read-y.ensures c.if-y-ne0.false

pub returns : goal.returns
returns c =
    let path = path_of c.args.path.now in
    c.loop-d.invariant ∙ ap (next_from c.args.list.now path) (omega (arith, c.loop-d-test.false)) ∙ next_none c.args.list.now path
