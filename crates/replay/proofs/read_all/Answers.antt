-- `replay::read_all` is safe and ends: the array for a part stays as long as it is.
use native.Mathlib.Omega.{arith}
use borrow.Author.Rules.{rules}
use Rattle.replay.proofs.read_all.Goals as goal

pub loop-init : goal.loop-init
loop-init c =
    let p = c.requires in (
      c.large_buffer-part.ensures,
      record {
        room =
            record {
              words_held = record { room = p.0; within = search rules };
              bytes_held = record { room = p.1.0; within = search rules };
            };
        ready = rw c.start.ensures (record { long = p.1.1; fits = search rules });
      },
    )

pub answer_line-requires : goal.answer_line-requires
answer_line-requires c =
    let f = c.finish-ended.ensures in
    let kept = c.loop.invariant.1 in
    (kept.room, record { fits = λ n e. omega (arith, f.line_fits n e, kept.ready.long) })
