-- `acceptance_step::reply` meets its contract: what the engines answered is printed, and compared.
use mathlib.Core.Path.{◌∙◌}
use Rattle.acceptance_step.specs.Printed.{held_in, tallied_by}
use Rattle.acceptance_step.proofs.Lines.{line_leaves_lem}
use Rattle.acceptance_step.proofs.reply.Goals as goal

pub returns : goal.returns
returns c =
    let a = c.args in
    let done = c.do_line-done.ensures in
    record {
      held = record { words_held = done.words_are.held; keys_held = done.keys_are.held };
      left = line_leaves_lem {before = held_in a.words.now a.keys.now a.state.sizes} done;
      tally = c.tallied.ensures ∙ (λ i. tallied_by (c.counted_in.ensures i) (done.answers_are i) a.state.tally);
    }
