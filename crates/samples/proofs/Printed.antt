-- The line of a row is put: the words were all filled before set up was called on them.
use mathlib.Core.Path.{◌≡◌, ◌∙◌, ap, ap₂}
use mathlib.Core.List.{List}
use Prim.Native.Nat.{ℕ, ◌≤◌}
use lib.ListN.{length, take, replicate}
use Rattle.answers.specs.Refusals.{Meets}
use Rattle.meaning.specs.Operations.{set_up_out}
use Rattle.answers.specs.declared.Answer.{Answer}
use Rattle.report.specs.Report.{checked_text, Put}
use Rattle.report.proofs.Puts.{put_start}
use Rattle.samples.specs.Printed.{left, edge_text}

pub edge_put :
    (D K C n : ℕ) {filled after room out : List ℕ} {a : Answer} {r : ℕ} → filled ≡ replicate n left → Meets (set_up_out D K C filled) a after →
    Put room 0 (checked_text a after) out r → r ≤ length room → (take r out ≡ edge_text D K C n) × (r ≤ length out)
unfolding edge_text
edge_put D K C n is met put fits =
    let bytes = put_start put fits in (
      bytes.0 ∙ ap₂ checked_text met.answered met.left
          ∙ ap (λ (ws : List ℕ). checked_text (set_up_out D K C ws).answered (set_up_out D K C ws).left) is,
      bytes.1,
    )
