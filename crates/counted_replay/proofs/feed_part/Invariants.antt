-- `counted_replay::feed_part` is safe: what is kept stays as the next byte asks.
use Rattle.counted_replay.specs.Kept.{Kept}
use Rattle.counted_replay.proofs.feed_part.Given as goal

abbrev pub invariant-loop-byte : goal.invariant-loop-byte
invariant-loop-byte l = Kept l.words l.bytes l.classes l.line l.s
