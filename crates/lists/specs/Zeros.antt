-- Numbers that are all 0.
use Rattle.std.specs.Prelude.{◌≡◌, Bool, true, ◌&&◌, List, [], ◌∷◌, ℕ, ◌+◌, ◌≤◌, ◌<◌, eqb, get_or}

-- words that are all 0
unfoldable pub all_zero : List ℕ → Bool
all_zero [] = true
all_zero (w ∷ ws) = eqb w 0 && all_zero ws

-- bits of some of a part's words, put together: those of n words from i on are among them
pub record ZeroFrom (part : List ℕ) (i n bits : ℕ) : Type 0 where
  pub told : bits ≡ 0 → (j : ℕ) → i ≤ j → j < i + n → get_or part j 0 ≡ 0
  pub none : all_zero part ≡ true → bits ≡ 0
