-- `acceptance::read_all` is safe and ends: each turn is counted, and the array for a part stays as long as it is.
use mathlib.Core.Path.{◌≡◌}
use lib.ListN.{length}
use Rattle.acceptance.specs.Kept.{Kept}
use Rattle.acceptance.proofs.read_all.Given as goal

abbrev pub invariant-loop : goal.invariant-loop
invariant-loop l = (65536 ≡ length l.part) × Kept l.words l.keys l.line l.s
