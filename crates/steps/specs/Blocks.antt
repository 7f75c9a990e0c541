-- Where the blocks of a key that a walk seeks start, and the cell that the walk has met.
use Rattle.std.specs.Prelude.{◌≡◌, List, ℕ, suc, ◌^◌, ◌≤◌, ◌<◌, length, get_or}
use Rattle.settings.specs.Numbers.{most_dimensions}
use Rattle.settings.specs.Levels.{PowersOf}
use Rattle.settings.specs.declared.Settings.{Settings}
use Rattle.meaning.specs.Keys.{shared, block_start}
use Rattle.meaning.specs.Words.{key_at, owed_at}

-- word d is where k's block of level d + 1 starts
pub record StartsOf (s : Settings) (k : ℕ) (starts : List ℕ) : Type 0 where
  pub long : length starts ≡ most_dimensions
  pub level : (d : ℕ) → d < s.dimensions → get_or starts d 0 ≡ block_start s.base s.dimensions k (suc d)

-- k has D coordinates; its blocks start there and have as many keys as the powers tell
pub record BlocksOf (s : Settings) (k : ℕ) (starts powers : List ℕ) : Type 0 where
  pub fits : k < s.base ^ s.dimensions
  pub blocks : StartsOf s k starts
  pub sizes : PowersOf s powers

-- cell x has D coordinates, of which those before d are k's too
pub record Met (ws : List ℕ) (s : Settings) (k x d : ℕ) : Type 0 where
  pub cell : x < s.cells
  pub inside : d < s.dimensions
  pub owed : owed_at ws x < s.cells
  pub fits : key_at ws x < s.base ^ s.dimensions
  pub shares : d ≤ shared s.base s.dimensions (key_at ws x) k
