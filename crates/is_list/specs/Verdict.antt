-- What the check answers of some words: the levels of the list that they are, or none.
use Rattle.std.specs.Prelude.{◌≡◌, true, false, List, ℕ, Option, Some, None}
use Rattle.settings.specs.declared.Levels.{Levels}
use Rattle.meaning.specs.Reading.{is_list}
use Rattle.meaning.specs.Layer.Listed.{Listed}

pub record Decided (ws : List ℕ) (r : Option Levels) : Type 0 where
  pub none : r ≡ None → is_list ws ≡ false
  pub listed : (l : Levels) → r ≡ Some l → Listed ws l.settings
