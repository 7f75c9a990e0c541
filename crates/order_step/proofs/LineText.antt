-- What is told of is answered: no line, a line in the buffer, or one that is too long; the answer put is the bytes that are printed.
use mathlib.Core.Path.{◌≡◌}
use mathlib.Core.List.{List}
use Prim.Native.Nat.{ℕ, ◌≤◌}
use lib.ListN.{length, take}
use Rattle.text.specs.Lines.{line_feed, line, too_long}
use Rattle.text.specs.Feeding.{told_in}
use Rattle.text.specs.declared.feed.Told.{Told}
use Rattle.text.specs.declared.feed.Told.TheVariants.{NoLine, Line, LongLine}
use Rattle.answers.specs.Refusals.{Meets}
use Rattle.answers.specs.declared.Answer.{Answer}
use Rattle.report.specs.Report.{answer_text, Put}
use Rattle.report.specs.Answered.{Answered}
use Rattle.report.proofs.Answered.{none_answered, one_answered}
use Rattle.order_step.specs.Step.{line_outcome}

module _
    (ws : List ℕ) {after room out : List ℕ} {r : ℕ} {a : Answer} (put : Put room 0 (answer_text a line_feed) out r) (fits : r ≤ length room) where
  pub line_answered :
      (buffer : List ℕ) {told : Told} {n : ℕ} → told ≡ Line n → Meets (line_outcome (line (take n buffer)) ws) a after →
      Answered line_outcome (told_in buffer told) ws after out r
  unfolding told_in
  line_answered buffer {n = n} e met = rw e (one_answered line_outcome (line (take n buffer)) ws put fits met)

  pub long_line_answered :
      (buffer : List ℕ) {told : Told} → told ≡ LongLine → Meets (line_outcome too_long ws) a after →
      Answered line_outcome (told_in buffer told) ws after out r
  unfolding told_in
  long_line_answered buffer e met = rw e (one_answered line_outcome too_long ws put fits met)

pub no_line_answered :
    (ws out buffer : List ℕ) {told : Told} → told ≡ NoLine → Answered line_outcome (told_in buffer told) ws ws out 0
unfolding told_in
no_line_answered ws out buffer e = rw e (none_answered line_outcome ws out)
