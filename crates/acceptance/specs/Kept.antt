-- What holds of the arrays and of the line begun, from one byte of the input to the next.
use Rattle.std.specs.Prelude.{List, ℕ}
use Rattle.text.specs.Feeding.{Ready}
use Rattle.acceptance_step.specs.Printed.{Room}
use Rattle.acceptance.specs.declared.Fed.{Fed}

pub record Kept (words keys line : List ℕ) (s : Fed) : Type 0 where
  pub room : Room words keys s.state.sizes
  pub ready : Ready line s.feed
