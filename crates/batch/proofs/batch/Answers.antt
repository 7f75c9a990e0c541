-- `batch::batch` meets its contract: each turn makes one call more, and what is still to be done leads to where the whole batch leads.
use mathlib.Core.Path.{ap, ◌∙◌}
use mathlib.Core.List.{map}
use native.Mathlib.Omega.{arith}
use Rattle.batch.proofs.Calls.{call_of, calls_are, next_call, no_call, calls_length, fits_room}
use Rattle.batch.proofs.Batching.{one_done, nothing_to_do}
use Rattle.batch.proofs.batch.Goals as goal

pub loop-i-preserved : goal.loop-i-preserved
loop-i-preserved c =
    let v = c.loop-i in
    let made = rw c.operation_of.ensures at c.operate-a.ensures in
    let todo = rw (next_call c.as_chunks.result.0.now v.i c.loop-i-test.true) at v.invariant.1 in
    (made.listed, rw c.put.ensures (one_done todo made))

pub returns : goal.returns
returns c =
    let v = c.loop-i in
    let words = c.args.calls.now in
    let chunks = c.as_chunks in
    let n = calls_length words in
    let todo = rw (no_call chunks.result.0.now v.i c.loop-i-test.false, ap (map call_of) chunks.ensures.front ∙ calls_are words) at v.invariant.1 in
    nothing_to_do todo (omega (arith, fits_room words c.args.answers.now c.requires.1)) (rw (n, ← chunks.ensures.front_len) c.accepted.ensures)
