-- A batch with a class record.
use Rattle.std.specs.Prelude.{Some}
use mathlib.Core.Path.{◌≡◌}
use mathlib.Core.List.{List}
use Prim.Native.Nat.{ℕ}
use Rattle.settings.specs.declared.Settings.{Settings}
use Rattle.answers.specs.Refusals.{Meets, answer_of}
use Rattle.answers.specs.declared.Answer.{Answer}
use Rattle.calls.specs.Batch.{BatchLent, batch_out}
use Rattle.classes.specs.Classes.{classes_of}
use Rattle.counted.specs.Counted.{beside, batch_words, counted_batch_out}
use Rattle.counted.specs.Checked.{Agreeing, refusal_of}
use Rattle.answers.specs.declared.Refusal.{Refusal}
use Rattle.counted.proofs.Outcomes.{agree_full, refused_so, done_so}

module _ (calls : List ℕ) (lent : BatchLent) (classes : List ℕ) {r : Answer} where
  pub batch_refused :
      {e : Refusal} → refusal_of lent.words classes ≡ Some e → r ≡ answer_of e →
      Meets (counted_batch_out calls (beside lent classes)) r (beside lent classes)
  unfolding counted_batch_out
  batch_refused = refused_so batch_words (batch_out calls) (beside lent classes)

  module _ {s : Settings} (agreeing : Agreeing lent.words classes s) where
    -- where it alters nothing, the record is still that of the list
    pub batch_bad : Meets (batch_out calls lent) r lent → Meets (counted_batch_out calls (beside lent classes)) r (beside lent classes)
    unfolding counted_batch_out
    batch_bad met = done_so batch_words (batch_out calls) (beside lent classes) agreeing met (agree_full lent.words classes agreeing.agree)

    pub batch_made :
        {after : BatchLent} {left : List ℕ} → Meets (batch_out calls lent) r after → left ≡ classes_of after.words →
        Meets (counted_batch_out calls (beside lent classes)) r (beside after left)
    unfolding counted_batch_out
    batch_made = done_so batch_words (batch_out calls) (beside lent classes) agreeing
