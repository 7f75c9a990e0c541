-- A line of a trace is answered: the call is made on what the line leaves it, and what is put tells of what is held afterwards.
use Rattle.answers.specs.declared.Answer.{Answer}
use Rattle.std.specs.Prelude.{Option}
use mathlib.Core.Path.{◌≡◌, ◌∙◌, ap, ap₂}
use mathlib.Core.Bool.{Bool}
use mathlib.Core.List.{List, ◌++◌}
use Prim.Native.Nat.{ℕ, ◌-◌, ◌≤◌}
use native.Mathlib.Nat.{sub-zero}
use lib.ListN.{length, take}
use Rattle.calls.specs.Records.{Lent, lent_of}
use Rattle.text.specs.Lines.{line_feed}
use Rattle.report.specs.Report.{Put}
use Rattle.report.proofs.Puts.{put_more, put_start}
use Rattle.trace.specs.Lines.{most_words, most_held}
use Rattle.trace.specs.declared.Kind.{Kind}
use Rattle.trace_held.specs.Held.{buffer_after, bytes_after, last_after, altered_by, Held, Holds}
use Rattle.trace_call.specs.Calling.{reply_of, after_call, Called}
use Rattle.trace_step.specs.Room.{held_in}
use Rattle.trace_step.specs.declared.Answered.{Answered}
use Rattle.trace_step.specs.Printed.{head_text, tail_text, tells, left_by, line_text, LineAnswered}

-- what the line leaves its call: n words and m bytes, and the last number
module _
    (kind : Kind) (line : List ℕ) (before : Lent) {words bytes : List ℕ} {n m last : ℕ} (holds : Holds most_words words n (buffer_after kind before.words))
    (holds-bytes : Holds most_held bytes m (bytes_after kind line before.bytes)) (is_last : last ≡ last_after kind before.last) where
  altered_is : lent_of (take (n - 0) words) (take (m - 0) bytes) last ≡ altered_by kind line before
  altered_is =
      let first = ap (λ (k : ℕ). take k words) (sub-zero n) ∙ holds.is in
      let front = ap (λ (k : ℕ). take k bytes) (sub-zero m) ∙ holds-bytes.is in
      λ i. lent_of (first i) (front i) (is_last i)

  module _
      {reply : Option Answer} {called after called-bytes after-bytes : List ℕ} {now-last : ℕ}
      (made : Called kind (lent_of (take (n - 0) words) (take (m - 0) bytes) last) reply (lent_of called called-bytes now-last))
      (held : Held most_words after n) (first : take n after ≡ called) (held_bytes : Held most_held after-bytes m)
      (first-bytes : take m after-bytes ≡ called-bytes) where
    left_is : lent_of called called-bytes now-last ≡ left_by kind line before
    unfolding left_by
    left_is = made.left ∙ ap (after_call kind) altered_is

    told_is : lent_of (take (n - 0) after) (take (m - 0) after-bytes) now-last ≡ left_by kind line before
    told_is =
        let front = ap (λ (k : ℕ). take k after) (sub-zero n) ∙ first in
        let front_Bytes = ap (λ (k : ℕ). take k after-bytes) (sub-zero m) ∙ first-bytes in
        ap₂ (λ (ws bs : List ℕ). lent_of ws bs now-last) front front_Bytes ∙ left_is

    pub line_answered :
        {room middle out : List ℕ} {at end : ℕ} {told : Bool} → told ≡ tells kind → Put room 0 (head_text reply) middle at →
        Put middle at (tail_text told (lent_of (take (n - 0) after) (take (m - 0) after-bytes) now-last) line_feed) out end → end ≤ length room →
        LineAnswered kind line before after after-bytes now-last out (record { sizes = record { used = n; filled = m }; text = end })
    unfolding line_text
    line_answered tell head tail fits =
        let put = put_start (put_more head tail) fits in
        record {
          words_are = record { held = held; is = first ∙ ap (λ (l : Lent). l.words) left_is };
          bytes_are = record { held = held_bytes; is = first-bytes ∙ ap (λ (l : Lent). l.bytes) left_is };
          last_is = ap (λ (l : Lent). l.last) left_is;
          is =
              put.0 ∙
              ap₂ (λ (xs ys : List ℕ). xs ++ ys) (ap head_text (made.reply ∙ ap (reply_of kind) altered_is)) (ap₂ (λ (t : Bool) (l : Lent). tail_text t l line_feed) tell told_is);
          within = put.1;
        }

-- what a line that is answered leaves
pub line_leaves_lem :
    {kind : Kind} {line : List ℕ} {before : Lent} {words bytes out : List ℕ} {last : ℕ} {r : Answered} →
    LineAnswered kind line before words bytes last out r → held_in words bytes last r.sizes ≡ left_by kind line before
line_leaves_lem done = λ i. lent_of (done.words_are.is i) (done.bytes_are.is i) (done.last_is i)
