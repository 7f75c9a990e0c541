-- What the inner functions ask of the words: a list, and its settings.
use Rattle.std.specs.Prelude.{◌≡◌, true, List, ℕ}
use Rattle.settings.specs.declared.Settings.{Settings}
use Rattle.meaning.specs.Reading.{settings_at, is_list}

-- words that are a list with the settings s: what the inner functions ask
pub record Listed (ws : List ℕ) (s : Settings) : Type 0 where
  pub list : is_list ws ≡ true
  pub settings : settings_at ws ≡ s
