-- What is told of is entered: no record, or one; the answer put is the bytes that are printed. And so for a take.
use Rattle.std.specs.Prelude.{None, Option, Some}
use mathlib.Core.Path.{◌≡◌, ◌∙◌, ap}
use mathlib.Core.List.{List, []}
use Prim.Native.Nat.{ℕ, ◌≤◌}
use lib.Dec.{eqb}
use lib.ListN.{length}
use Rattle.text.specs.Lines.{line_feed}
use Rattle.notes.specs.Feeding.{told_in, ToldWithin}
use Rattle.notes.specs.Notes.{Within}
use Rattle.notes.specs.Notes.{Logged}
use Rattle.answers.specs.Refusals.{Meets}
use Rattle.meaning.specs.Operations.{take_out}
use Rattle.calls.specs.Records.{Lent, lent_of, note_out}
use Rattle.answers.specs.declared.Answer.{Answer}
use Rattle.insert_record.specs.Noted.{Noted}
use Rattle.report.specs.Report.{answer_text, Put}
use Rattle.report.proofs.Puts.{put_start}
use Rattle.report.specs.Answered.{Answered}
use Rattle.report.proofs.Answered.{none_answered, one_answered}
use Rattle.logger_step.specs.Printed.{TakeAnswered}

pub told_within : {told : Option Logged} {logged : Logged} → told ≡ Some logged → ToldWithin told → Within logged
told_within is within = rw is at within

pub no_record_answered : (lent : Lent) (out : List ℕ) {told : Option Logged} → told ≡ None → Answered note_out (told_in told) lent lent out 0
no_record_answered lent out e = rw e (none_answered note_out lent out)

module _ {room out : List ℕ} {r : ℕ} {a : Answer} (put : Put room 0 (answer_text a line_feed) out r) (fits : r ≤ length room) where
  pub record_answered :
      {ws after : List ℕ} {last now-last : ℕ} {told : Option Logged} {logged : Logged} → told ≡ Some logged → Noted logged ws last a after now-last →
      Answered note_out (told_in told) (lent_of ws [] last) (lent_of after [] now-last) out r
  record_answered {ws} {last = last} {logged = logged} e noted = rw e (one_answered note_out logged (lent_of ws [] last) put fits (noted.meets []))

  pub take_answered :
      {ws after : List ℕ} → Meets (take_out ws) a after → TakeAnswered ws after out (record { bytes = r; more = eqb a.refusal 0 })
  take_answered met =
      let bytes = put_start put fits in
      record {
        left = met.left;
        text = bytes.0 ∙ ap (λ (b : Answer). answer_text b line_feed) met.answered;
        within = bytes.1;
        more = ap (λ (b : Answer). eqb b.refusal 0) met.answered;
      }
