-- The coordinates of a key, and how many leading ones two keys share: Numbers 5 and 6.
use Rattle.std.specs.Prelude.{cond, List, [], ◌∷◌, ◌++◌, ℕ, zero, suc, ◌-◌, ◌/◌, ◌%◌, ◌^◌, eqb, get_or}

-- Numbers 5: the D digits of a key in base b, the most significant first.
unfoldable pub coordinates : ℕ → ℕ → ℕ → List ℕ
coordinates b zero key = []
coordinates b (suc D) key = coordinates b D (key / b) ++ (key % b ∷ [])

-- coordinate d of a key
abbrev pub coordinate : ℕ → ℕ → ℕ → ℕ → ℕ
coordinate b D key d = get_or (coordinates b D key) d 0

-- The number of leading coordinates that two keys share: all of them if the keys are equal, else as many as the keys share without
-- their last coordinate.
unfoldable pub shared : ℕ → ℕ → ℕ → ℕ → ℕ
shared b zero x y = zero
shared b (suc D) x y = cond (eqb x y) (suc D) (shared b D (x / b) (y / b))

-- The block of level d that holds a key is the keys that share d coordinates with it. Where it starts.
unfoldable pub block_start : ℕ → ℕ → ℕ → ℕ → ℕ
block_start b D key d = key - key % b ^ (D - d)
