-- What the functions of the order program rest on: the list stays one.
use mathlib.Core.List.{List}
use Prim.Native.Nat.{ℕ}
use Rattle.text.specs.Parts.{Known, BytesFed}
use Rattle.text.proofs.Parts.{kept_by_bytes}
use Rattle.text.specs.Lines.{Handed}
use Rattle.text.specs.Feeding.{line_handing}
use Rattle.settings.specs.declared.Settings.{Settings}
use Rattle.meaning.specs.Layer.Listed.{Listed}
use Rattle.report.specs.Answered.{leaving}
use Rattle.order_step.specs.Step.{line_outcome}
use Rattle.order_step.proofs.Promises.{line_listed}

pub still_listed :
    {ws after bytes : List ℕ} {s : Settings} {P Q : Handed → Type 0} → Listed ws s × Known P →
    BytesFed line_handing (leaving line_outcome) bytes P ws Q after → Listed after s × Known Q
still_listed {s = s} had fed = kept_by_bytes line_handing (leaving line_outcome) {I = λ us. Listed us s} (λ us h. line_listed h) had fed
