-- `paths::next_from` meets its contract: the links are looked at from the highest down, as in the definition, and the first that leads
-- somewhere leads to the next cell.
use mathlib.Core.Path.{◌≡◌}
use Rattle.meaning.specs.Layer.Paths.{next_from}
use Rattle.paths.specs.Paths.{path_of}
use Rattle.paths.proofs.next_from.Given as goal

abbrev pub invariant-loop-d : goal.invariant-loop-d
invariant-loop-d l = next_from l.list (path_of l.path) l.s.dimensions ≡ next_from l.list (path_of l.path) l.d
