-- `counted_step::reply` meets its contract: the bytes written are those that `put_line` puts for what the line did.
use mathlib.Core.Path.{sym, ap, ◌∙◌}
use native.Mathlib.Omega.{arith}
use lib.Seq.{length-take-le}
use Rattle.trace_step.specs.Printed.{tells}
use Rattle.counted_step.specs.Printed.{held_in, text_of}
use Rattle.counted_step.proofs.Printed.{line_leaves_lem}
use Rattle.counted_step.proofs.reply.Goals as goal

pub slice_bounds-put_line-end-3 : goal.slice_bounds-put_line-end-3
slice_bounds-put_line-end-3 c =
    let done = c.do_line-done in
    let held = done.ensures.words_are.held in
    sym (length-take-le done.result.used _ (omega (arith, held.room, held.within)))

pub slice_bounds-put_line-end-5 : goal.slice_bounds-put_line-end-5
slice_bounds-put_line-end-5 c =
    let done = c.do_line-done in
    let held = done.ensures.bytes_are.held in
    sym (length-take-le done.result.filled _ (omega (arith, held.room, held.within)))

pub slice_bounds-put_line-end-7 : goal.slice_bounds-put_line-end-7
slice_bounds-put_line-end-7 c =
    let done = c.do_line-done in
    let held = done.ensures.classes_are.held in
    sym (length-take-le done.result.classes _ (omega (arith, held.room, held.within)))

pub slice_bounds-write-end : goal.slice_bounds-write-end
slice_bounds-write-end c = let put = c.put_line-end in sym (length-take-le put.result _ put.ensures.1)

pub slice_bounds-write-end-3 : goal.slice_bounds-write-end-3
slice_bounds-write-end-3 c =
    let done = c.do_line-done in
    let held = done.ensures.words_are.held in
    sym (length-take-le done.result.used _ (omega (arith, held.room, held.within)))

pub slice_bounds-write-end-5 : goal.slice_bounds-write-end-5
slice_bounds-write-end-5 c =
    let done = c.do_line-done in
    let held = done.ensures.bytes_are.held in
    sym (length-take-le done.result.filled _ (omega (arith, held.room, held.within)))

pub slice_bounds-write-end-7 : goal.slice_bounds-write-end-7
slice_bounds-write-end-7 c =
    let done = c.do_line-done in
    let held = done.ensures.classes_are.held in
    sym (length-take-le done.result.classes _ (omega (arith, held.room, held.within)))

pub write-requires : goal.write-requires
write-requires c =
    let a = c.args in
    let before = held_in a.words.now a.bytes.now a.last.now a.classes.now a.sizes in
    let done = c.do_line-done.ensures in
    let left = line_leaves_lem {before = before} done in
    let told = c.kind_tells-told.ensures ∙ ap tells c.kind_in.ensures.0 in
    record {
      before = before;
      left = left;
      is = c.put_line-end.ensures.0 ∙ (λ i. text_of (done.reply_is i) (told i) (left i));
    }

pub returns : goal.returns
returns c =
    let a = c.args in
    let done = c.do_line-done.ensures in
    record {
      held = record { words_held = done.words_are.held; bytes_held = done.bytes_are.held; classes_held = done.classes_are.held };
      left = line_leaves_lem {before = held_in a.words.now a.bytes.now a.last.now a.classes.now a.sizes} done;
    }
