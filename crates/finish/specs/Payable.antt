-- When what a cell owes can be finished: the cells and links that its three words name are the list's own.
use Rattle.std.specs.Prelude.{List, ℕ, ◌≤◌, ◌<◌}
use Rattle.settings.specs.declared.Settings.{Settings}
use Rattle.meaning.specs.Words.{owed_at, high_at}

pub record Payable (ws : List ℕ) (s : Settings) (n : ℕ) : Type 0 where
  pub cell : n < s.cells
  pub owed : owed_at ws n < s.cells
  pub high : high_at ws n ≤ s.dimensions
