-- `row_step::do_line` meets its contract: the call is made on what the line leaves it, and the rest of the array stays.
use mathlib.Core.Path.{◌≡◌, ap, ◌∙◌}
use Prim.Native.Nat.{ℕ}
use native.Mathlib.Nat.{sub-zero}
use lib.ListN.{length, take}
use lib.Seq.{take_at}
use borrow.Author.Rules.{rules}
use Rattle.row_step.specs.Lines.{row_reply, row_leaves, left_by, replied_to}
use Rattle.row_step.proofs.do_line.Goals as goal

pub returns : goal.returns
unfolding left_by replied_to
returns c =
    let kind = c.args.kind in
    let called = c.line_call-reply in
    let words = c.altered-n in
    let long : length called.new.keys ≡ words.result = search rules in
    let there = ap (λ (k : ℕ). take k words.new.words) (sub-zero words.result) ∙ words.ensures.is in
    record {
      words_are =
          record {
            held = record { room = search rules; within = words.ensures.held.within };
            is = take_at called.new.keys _ words.result long ∙ called.ensures.left ∙ ap (row_leaves kind) there;
          };
      reply_is = called.ensures.reply ∙ ap (row_reply kind) there;
    }
