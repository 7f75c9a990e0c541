-- The base as a property of b: Numbers 3.
use Rattle.std.specs.Prelude.{Bool, not, ◌&&◌, ℕ, ◌-◌, ◌^◌, ◌≤◌, ◌<◌, ltb}

pub record IsBase (D K b : ℕ) : Type 0 where
  pub above : K < b ^ D
  pub least : (m : ℕ) → K < m ^ D → b ≤ m

-- the same as a test: the power of b is above K, and that of the number before b is not
unfoldable pub is_base : ℕ → ℕ → ℕ → Bool
is_base D K b = ltb 0 b && (ltb K (b ^ D) && not (ltb K ((b - 1) ^ D)))
