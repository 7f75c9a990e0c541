-- What the checked constructor of the settings answers.
use Rattle.std.specs.Prelude.{cond, ℕ, None, Option, Some}
use Rattle.settings.specs.Numbers.{in_range, base_of}
use Rattle.settings.specs.declared.Settings.{Settings}

-- the settings of a list with the numbers D, K and C
abbrev pub settings_of : ℕ → ℕ → ℕ → Settings
settings_of D K C = record { dimensions = D; largest = K; cells = C; base = base_of D K }

-- settings in range, or the case that is refused by number 1
unfoldable pub checked_of : ℕ → ℕ → ℕ → Option Settings
checked_of D K C = cond (in_range D K C) (Some (settings_of D K C)) None
