-- A batch on a list: where its calls do not fit, where it is done, and that it leaves a list with the same settings.
use Rattle.std.specs.Prelude.{Some}
use mathlib.Core.Path.{◌≡◌, refl, sym, subst}
use mathlib.Core.Bool.{true, false}
use mathlib.Core.List.{List, [], ◌∷◌, map}
use Prim.Native.Nat.{ℕ}
use Rattle.settings.specs.declared.Settings.{Settings}
use Rattle.answers.specs.Refusals.{Meets, answer}
use Rattle.answers.specs.declared.Answer.{Answer}
use Rattle.meaning.specs.Reading.{reading_of}
use Rattle.answers.specs.declared.Operation.{Operation}
use Rattle.meaning.specs.Layer.Listed.{Listed}
use Rattle.calls.specs.Calls.{outcome, operated, after_calls}
use Rattle.calls.specs.Batch.{BatchLent, calls_in, fits, batch_done, batch_out}
use Rattle.calls.proofs.Listed.{operation_listed}

module _ (calls : List ℕ) (lent : BatchLent) {r : Answer} {s : Settings} (listed : reading_of lent.words ≡ Some s) where
  pub bad_batch : fits calls lent.answers ≡ false → r ≡ answer 19 0 0 0 → Meets (batch_out calls lent) r lent
  unfolding batch_out
  bad_batch bad answers = rw (listed, bad) (record { answered = answers; left = refl })

  pub batch_done_lem :
      {after : BatchLent} → fits calls lent.answers ≡ true → Meets (batch_done (calls_in calls) lent) r after → Meets (batch_out calls lent) r after
  unfolding batch_out
  batch_done_lem good met = rw (listed, good) met

pub operations_listed : {s : Settings} (calls : List Operation) {ws : List ℕ} → Listed ws s → Listed (after_calls (map operated calls) ws) s
unfolding after_calls outcome
operations_listed [] listed = listed
operations_listed (call ∷ calls) listed = operations_listed calls (operation_listed call listed)

pub batch_listed :
    (calls : List Operation) (lent : BatchLent) {after : BatchLent} {s : Settings} {r : Answer} → Listed lent.words s → Meets (batch_done calls lent) r after →
    Listed after.words s
unfolding batch_done
batch_listed calls lent {s = s} listed met = subst (λ (l : BatchLent). Listed l.words s) (sym met.left) (operations_listed calls listed)
