-- What the cells that a walk meets share with the key sought. The step of the code goes by it.
use Rattle.std.specs.Prelude.{List, [], ◌∷◌, ℕ, suc, ◌^◌, ◌≤◌, ◌<◌}
use Rattle.meaning.specs.Keys.{shared}
use Rattle.meaning.specs.declared.Step.{Step}
use Rattle.meaning.specs.declared.Step.TheVariants.{Go, Up, End}

-- a key has D coordinates, and shares those before d with k
abbrev pub Near : ℕ → ℕ → ℕ → ℕ → ℕ → Type 0
Near b D k key d = (key < b ^ D) × (d ≤ shared b D key k)

-- so it is of each cell along a trail from cell x and coordinate d, with the coordinate at hand; `key` tells the cells' keys
abbrev pub NearAlong : ℕ → ℕ → ℕ → (ℕ → ℕ) → ℕ → ℕ → List Step → Type 0
NearAlong b D k key x d [] = Unit {0}
NearAlong b D k key x d (Go y ∷ steps) = Near b D k (key x) d × NearAlong b D k key y d steps
NearAlong b D k key x d (Up ∷ steps) = Near b D k (key x) d × NearAlong b D k key x (suc d) steps
NearAlong b D k key x d (End ∷ steps) = Near b D k (key x) d × NearAlong b D k key x d steps
