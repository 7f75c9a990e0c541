-- `row_step::reply` meets its contract: the bytes written are those that `put_line` puts for what the line did.
use Rattle.answers.specs.declared.Answer.{Answer}
use Rattle.std.specs.Prelude.{Option}
use mathlib.Core.Path.{sym, ap, ◌∙◌}
use native.Mathlib.Omega.{arith}
use lib.ListN.{take}
use lib.Seq.{length-take-le}
use Rattle.row_step.specs.Lines.{row_text}
use Rattle.row_step.proofs.reply.Goals as goal

pub slice_bounds-put_line-end-3 : goal.slice_bounds-put_line-end-3
slice_bounds-put_line-end-3 c =
    let done = c.do_line-done in
    let held = done.ensures.words_are.held in
    sym (length-take-le done.result.used _ (omega (arith, held.room, held.within)))

pub slice_bounds-write-end : goal.slice_bounds-write-end
slice_bounds-write-end c = let put = c.put_line-end in sym (length-take-le put.result _ put.ensures.1)

pub slice_bounds-write-end-3 : goal.slice_bounds-write-end-3
slice_bounds-write-end-3 c =
    let done = c.do_line-done in
    let held = done.ensures.words_are.held in
    sym (length-take-le done.result.used _ (omega (arith, held.room, held.within)))

pub write-requires : goal.write-requires
write-requires c =
    let a = c.args in
    let done = c.do_line-done in
    let after = take done.result.used done.new.words in
    record {
      before = take a.used a.words.now;
      left = done.ensures.words_are.is;
      is = c.put_line-end.ensures.0 ∙ ap (λ (r : Option Answer). row_text r after) done.ensures.reply_is;
    }
