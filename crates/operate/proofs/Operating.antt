-- What meets an operation's outcome on a list leaves a list with the same settings.
use mathlib.Core.Path.{◌≡◌}
use mathlib.Core.List.{List}
use Prim.Native.Nat.{ℕ}
use Rattle.settings.specs.declared.Settings.{Settings}
use Rattle.answers.specs.Refusals.{Meets}
use Rattle.answers.specs.declared.Answer.{Answer}
use Rattle.answers.specs.declared.Operation.{Operation}
use Rattle.meaning.specs.Operations.{operation_out}
use Rattle.meaning.specs.Layer.Listed.{Listed}
use Rattle.calls.proofs.Listed.{operation_listed}
use Rattle.operate.specs.Operated.{Operated}

pub operated : {ws : List ℕ} {s : Settings} → Listed ws s → (o operation : Operation) {r : Answer} {us : List ℕ} → o ≡ operation →
    Meets (operation_out operation ws) r us → Operated o s ws r us
operated listed o operation is met = rw is (record { met = met; listed = rw met.left (operation_listed operation listed) })
