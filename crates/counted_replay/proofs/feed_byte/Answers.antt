-- `counted_replay::feed_byte` meets its contract: a line that the byte ends has at most 64 bytes, and they stand in the buffer.
use native.Mathlib.Omega.{arith}
use Rattle.counted_replay.proofs.feed_byte.Goals as goal

pub answer_line-sizes-requires : goal.answer_line-sizes-requires
answer_line-sizes-requires c =
    let fed = c.feed_byte-fed.ensures in
    (c.requires.room, record { fits = λ n e. omega (arith, fed.line_fits n e, fed.ready.long) })
