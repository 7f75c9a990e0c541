-- What holds of the arrays and of the line begun, from one byte of the input to the next.
use Rattle.std.specs.Prelude.{List, ℕ}
use Rattle.text.specs.Feeding.{Ready}
use Rattle.counted_step.specs.Printed.{Room}
use Rattle.counted_replay.specs.declared.State.{State}

pub record Kept (words bytes classes line : List ℕ) (state : State) : Type 0 where
  pub room : Room words bytes classes state.sizes
  pub ready : Ready line state.feed
