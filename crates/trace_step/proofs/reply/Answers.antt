-- `trace_step::reply` meets its contract: the bytes written are those that `line_text` puts, on what was held before it.
use mathlib.Core.Path.{sym}
use native.Mathlib.Omega.{arith}
use lib.Seq.{length-take-le}
use Rattle.trace_step.specs.Room.{held_in}
use Rattle.trace_step.proofs.Printed.{line_leaves_lem}
use Rattle.trace_step.proofs.reply.Goals as goal

pub slice_bounds-write-end : goal.slice_bounds-write-end
slice_bounds-write-end c = let done = c.line_text-done in sym (length-take-le done.result.text _ done.ensures.within)

pub slice_bounds-write-end-3 : goal.slice_bounds-write-end-3
slice_bounds-write-end-3 c =
    let done = c.line_text-done in
    let held = done.ensures.words_are.held in
    sym (length-take-le done.result.sizes.used _ (omega (arith, held.room, held.within)))

pub slice_bounds-write-end-5 : goal.slice_bounds-write-end-5
slice_bounds-write-end-5 c =
    let done = c.line_text-done in
    let held = done.ensures.bytes_are.held in
    sym (length-take-le done.result.sizes.filled _ (omega (arith, held.room, held.within)))

pub write-requires : goal.write-requires
write-requires c =
    let a = c.args in
    let before = held_in a.words.now a.bytes.now a.last.now a.sizes in
    let done = c.line_text-done.ensures in
    (c.requires.1, record { before = before; left = line_leaves_lem {before = before} done; is = done.is })

pub returns : goal.returns
returns c =
    let a = c.args in
    let done = c.line_text-done.ensures in
    record {
      held = record { words_held = done.words_are.held; bytes_held = done.bytes_are.held };
      left = line_leaves_lem {before = held_in a.words.now a.bytes.now a.last.now a.sizes} done;
    }
