-- The powers of b by which the blocks of keys are told.
use Rattle.std.specs.Prelude.{◌≡◌, List, ℕ, ◌-◌, ◌^◌, ◌≤◌, ◌<◌, length, get_or}
use Rattle.settings.specs.declared.Settings.{Settings}

-- a block of level d has b to the power D - d keys; the words after level D say nothing
pub record PowersOf (s : Settings) (powers : List ℕ) : Type 0 where
  pub long : length powers ≡ 17
  pub some : 0 < s.base
  pub level : (d : ℕ) → d ≤ s.dimensions → get_or powers d 0 ≡ s.base ^ (s.dimensions - d)
