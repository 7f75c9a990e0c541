-- `steps::shared` meets its contract: x lies in the block of y of each level up to d, so the two share d coordinates or more.
use Prim.Native.Nat.{◌≤◌}
use Rattle.meaning.specs.Keys.{shared}
use Rattle.steps.proofs.shared.Given as goal

abbrev pub invariant-loop-d : goal.invariant-loop-d
invariant-loop-d l = l.d ≤ shared l.levels.settings.base l.levels.settings.dimensions l.x l.y
