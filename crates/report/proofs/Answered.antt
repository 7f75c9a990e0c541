-- What is put of an answer is what is printed for the one that asked.
use mathlib.Core.Path.{refl, sym, ◌∙◌, ap}
use mathlib.Core.List.{List, [], ◌∷◌, append-nil}
use Prim.Native.Nat.{ℕ, ◌≤◌}
use native.Mathlib.Omega.{arith}
use lib.ListN.{length, take}
use Rattle.answers.specs.Refusals.{Outcome, Meets}
use Rattle.answers.specs.declared.Answer.{Answer}
use Rattle.text.specs.Lines.{line_feed}
use Rattle.text.specs.Parts.{after_all, given_by_all}
use Rattle.report.specs.Report.{answer_text, Put}
use Rattle.report.specs.Answered.{printing, TextOf, Answered}
use Rattle.report.proofs.Puts.{put_start}

module _ {H S : Type 0} (outcome : H → S → Outcome S) where
  pub none_answered : (s : S) (out : List ℕ) → Answered outcome [] s s out 0
  unfolding after_all given_by_all
  none_answered s out = record { left = refl; text = refl; within = omega arith }

  pub one_answered :
      (h : H) (s : S) {after : S} {room out : List ℕ} {r : ℕ} {a : Answer} → Put room 0 (answer_text a line_feed) out r → r ≤ length room →
      Meets (outcome h s) a after → Answered outcome (h ∷ []) s after out r
  unfolding after_all given_by_all
  one_answered h s put fits met =
      let bytes = put_start put fits in
      record {
        left = met.left;
        text = bytes.0 ∙ (ap (λ (b : Answer). answer_text b line_feed) met.answered ∙ sym (append-nil (printing outcome s h)));
        within = bytes.1;
      }

  -- what was answered, as it is written
  pub text_of : {hs : List H} {before after : S} {out : List ℕ} {r : ℕ} → Answered outcome hs before after out r → TextOf outcome (take r out) hs after
  text_of {before = before} answered = record { before = before; left = answered.left; is = answered.text }
