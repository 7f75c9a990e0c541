-- `replay::feed_part` is safe and ends: each turn takes one byte more of the part.
use Rattle.replay.specs.Kept.{Kept}
use Rattle.replay.proofs.feed_part.Given as goal

abbrev pub invariant-loop-byte : goal.invariant-loop-byte
invariant-loop-byte l = Kept l.words l.bytes l.line l.s
