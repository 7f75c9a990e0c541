-- `replay::read_all` is safe and ends: the array for a part stays as long as it is.
use mathlib.Core.Path.{◌≡◌}
use lib.ListN.{length}
use Rattle.replay.specs.Kept.{Kept}
use Rattle.replay.proofs.read_all.Given as goal

abbrev pub invariant-loop : goal.invariant-loop
invariant-loop l = (65536 ≡ length l.part) × Kept l.words l.bytes l.line l.s
