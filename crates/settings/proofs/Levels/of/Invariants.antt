-- `Levels::of` meets its contract: from level d up to level D the words hold the powers.
use mathlib.Core.Path.{◌≡◌}
use lib.ListN.{length}
use Rattle.settings.proofs.Powers.{Levels}
use Rattle.settings.proofs.Levels.of.Given as goal

abbrev pub invariant-loop-d : goal.invariant-loop-d
invariant-loop-d l = (length l.powers ≡ 17) × Levels l.b l.fn.settings.dimensions l.powers l.d
