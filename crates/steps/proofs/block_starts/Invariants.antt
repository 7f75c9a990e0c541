-- `steps::block_starts` meets its contract: the starts before number d are written.
use mathlib.Core.Path.{◌≡◌}
use lib.ListN.{length}
use Rattle.settings.specs.Numbers.{most_dimensions}
use Rattle.steps.proofs.Steps.{StartsTo}
use Rattle.steps.proofs.block_starts.Given as goal

abbrev pub invariant-loop-d : goal.invariant-loop-d
invariant-loop-d l = (length l.starts ≡ most_dimensions) × StartsTo l.fn.levels.settings l.k l.starts l.d
