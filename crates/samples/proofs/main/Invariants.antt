-- `samples::main` is safe and ends: the words stay as many as they are.
use mathlib.Core.Path.{◌≡◌}
use lib.ListN.{length}
use Rattle.samples.proofs.main.Given as goal

abbrev pub invariant-loop-row : goal.invariant-loop-row
invariant-loop-row l = length l.words ≡ 90134
