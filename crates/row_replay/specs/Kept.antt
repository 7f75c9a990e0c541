-- What holds of the words and of the line begun, from one byte of the input to the next.
use Rattle.std.specs.Prelude.{List, ℕ}
use Rattle.text.specs.Feeding.{Ready}
use Rattle.trace.specs.Lines.{most_words}
use Rattle.trace_held.specs.Held.{Held}
use Rattle.row_replay.specs.declared.State.{State}

pub record Kept (words line : List ℕ) (state : State) : Type 0 where
  pub held : Held most_words words state.used
  pub ready : Ready line state.feed
