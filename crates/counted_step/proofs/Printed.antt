-- A line of a trace of counted calls is done: the call is made on what the line leaves it; and what is put is what the line prints.
use Rattle.answers.specs.declared.Answer.{Answer}
use Rattle.std.specs.Prelude.{Option}
use mathlib.Core.Path.{◌≡◌, ◌∙◌, ap}
use mathlib.Core.List.{List}
use Prim.Native.Nat.{ℕ, ◌-◌}
use native.Mathlib.Nat.{sub-zero}
use lib.ListN.{take}
use Rattle.calls.specs.Records.{Lent, lent_of}
use Rattle.counted.specs.Counted.{Beside, beside}
use Rattle.trace.specs.Lines.{most_words, most_held}
use Rattle.trace_held.specs.Held.{buffer_after, bytes_after, last_after, Held, Holds}
use Rattle.counted_step.specs.Lines.{most_classes, kind_in, classes_after, line_alters, line_reply, line_leaves, LineCalled}
use Rattle.counted_step.specs.Printed.{held_in, left_by, LineDone}
use Rattle.counted_step.specs.declared.Done.{Done}
use Rattle.counted_step.specs.declared.Line.{Line}

-- what the line leaves its call: n words, m bytes, h words of the record, and the last number
module _
    (line : Line) (text : List ℕ) (before : Beside Lent) {words bytes classes : List ℕ} {n m h last : ℕ}
    (holds : Holds most_words words n (buffer_after (kind_in line) before.lent.words))
    (holds-bytes : Holds most_held bytes m (bytes_after (kind_in line) text before.lent.bytes))
    (holds-classes : Holds most_classes classes h (classes_after line before.classes)) (is_last : last ≡ last_after (kind_in line) before.lent.last) where
  altered_is : beside (lent_of (take (n - 0) words) (take (m - 0) bytes) last) (take (h - 0) classes) ≡ line_alters line text before
  altered_is =
      let first = ap (λ (k : ℕ). take k words) (sub-zero n) ∙ holds.is in
      let second = ap (λ (k : ℕ). take k bytes) (sub-zero m) ∙ holds-bytes.is in
      let third = ap (λ (k : ℕ). take k classes) (sub-zero h) ∙ holds-classes.is in
      λ i. beside (lent_of (first i) (second i) (is_last i)) (third i)

  pub line_done :
      {reply : Option Answer} {called called-bytes called-classes after after-bytes after-classes : List ℕ} {now-last : ℕ} →
      LineCalled line (beside (lent_of (take (n - 0) words) (take (m - 0) bytes) last) (take (h - 0) classes)) reply
      (beside (lent_of called called-bytes now-last) called-classes) → Held most_words after n → take n after ≡ called → Held most_held after-bytes m →
      take m after-bytes ≡ called-bytes → Held most_classes after-classes h → take h after-classes ≡ called-classes →
      LineDone line text before after after-bytes now-last after-classes (record { used = n; filled = m; classes = h; reply = reply })
  unfolding left_by
  line_done made held first held_bytes second held-classes third =
      let left = made.left ∙ ap (line_leaves line) altered_is in
      record {
        words_are = record { held = held; is = first ∙ ap (λ (b : Beside Lent). b.lent.words) left };
        bytes_are = record { held = held_bytes; is = second ∙ ap (λ (b : Beside Lent). b.lent.bytes) left };
        last_is = ap (λ (b : Beside Lent). b.lent.last) left;
        classes_are = record { held = held-classes; is = third ∙ ap (λ (b : Beside Lent). b.classes) left };
        reply_is = made.reply ∙ ap (line_reply line) altered_is;
      }

-- what a line that is done leaves
pub line_leaves_lem :
    {line : Line} {text : List ℕ} {before : Beside Lent} {words bytes classes : List ℕ} {last : ℕ} {r : Done} →
    LineDone line text before words bytes last classes r →
    held_in words bytes last classes (record { used = r.used; filled = r.filled; classes = r.classes }) ≡ left_by line text before
line_leaves_lem done = λ i. beside (lent_of (done.words_are.is i) (done.bytes_are.is i) (done.last_is i)) (done.classes_are.is i)
