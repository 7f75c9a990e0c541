-- `acceptance::feed_part` is safe: what is kept stays as the next byte asks.
use Rattle.acceptance.specs.Kept.{Kept}
use Rattle.acceptance.proofs.feed_part.Given as goal

abbrev pub invariant-loop-byte : goal.invariant-loop-byte
invariant-loop-byte l = Kept l.words l.keys l.line l.s
