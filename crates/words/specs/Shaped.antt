-- Words that begin with the settings s and have as many words as a list with them.
use Rattle.std.specs.Prelude.{◌≡◌, List, ℕ, ◌≤◌, ◌<◌, length}
use Rattle.settings.specs.Numbers.{least_dimensions, most_dimensions, most_cells, cell_words, length_of}
use Rattle.settings.specs.declared.Settings.{Settings}
use Rattle.meaning.specs.Reading.{settings_at}

pub record Shaped (ws : List ℕ) (s : Settings) : Type 0 where
  pub header : settings_at ws ≡ s
  pub long : length ws ≡ length_of s.dimensions s.cells
  pub dimensions_least : least_dimensions ≤ s.dimensions
  pub dimensions_most : s.dimensions ≤ most_dimensions
  pub cells_most : s.cells ≤ most_cells

-- word j of cell x is one of the list's
pub record Within (s : Settings) (x j : ℕ) : Type 0 where
  pub cell : x < s.cells
  pub field : j < cell_words s.dimensions
