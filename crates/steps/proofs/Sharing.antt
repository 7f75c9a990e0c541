-- What a key shares with a larger one, read off the starts of the larger key's blocks: one coordinate more with each block that starts at
-- the smaller key or before it.
use mathlib.Core.Path.{◌≡◌, ap, ◌∙◌}
use mathlib.Core.List.{List}
use Prim.Native.Nat.{ℕ, suc, ◌+◌, ◌-◌, ◌%◌, ◌^◌, ◌≤◌, ◌<◌}
use native.Mathlib.Nat.{pow-zero}
use native.Mathlib.Decide.{dec_lt, ℕ_discrete}
use native.Mathlib.Numerals.{add-one}
use native.Mathlib.Omega.{arith}
use lib.ListN.{get_or}
use Rattle.settings.specs.Levels.{PowersOf}
use Rattle.settings.specs.declared.Settings.{Settings}
use Rattle.meaning.specs.Keys.{shared, block_start}
use Rattle.meaning.proofs.Rows.Keys.{shared_less}
use Rattle.meaning.proofs.Rows.Blocks.{shared_block}

module _ {s : Settings} {powers : List ℕ} (p : PowersOf s powers) {x y : ℕ} (less : x < y) (fits : y < s.base ^ s.dimensions) where
  -- different keys do not share all coordinates
  pub shared_not_all : shared s.base s.dimensions x y < s.dimensions
  shared_not_all = go (ℕ_discrete s.dimensions 0)
    where
      go : Dec (s.dimensions ≡ 0) → shared s.base s.dimensions x y < s.dimensions
      go (yes none) = absurd (omega (arith, less, rw (none, pow-zero s.base) at fits))
      go (no some) = shared_less s.base s.dimensions x y (omega (arith, some)) (λ e. omega (arith, less, e))

  module _ {d start : ℕ} (inside : d < s.dimensions) (is : start ≡ y - y % get_or powers (d + 1) 0) where
    start_is : start ≡ block_start s.base s.dimensions y (suc d)
    unfolding block_start
    start_is =
        let power : get_or powers (d + 1) 0 ≡ s.base ^ (s.dimensions - suc d) = rw (add-one d) (p.level (suc d) inside) in
        is ∙ ap (λ m. y - y % m) power

    -- x is inside y's block of level d + 1, ..
    pub shared_more : start ≤ x → d + 1 ≤ shared s.base s.dimensions x y
    shared_more from =
        let more = (shared_block s.base s.dimensions x y (suc d) p.some fits (omega (arith, less)) inside).1 (omega (arith, from, start_is)) in
        omega (arith, more)

    -- .. or before it
    pub shared_ends : d ≤ shared s.base s.dimensions x y → x < start → d ≡ shared s.base s.dimensions x y
    shared_ends upto before = go (dec_lt d (shared s.base s.dimensions x y))
      where
        go : Dec (d < shared s.base s.dimensions x y) → d ≡ shared s.base s.dimensions x y
        go (yes h) =
            let from = (shared_block s.base s.dimensions x y (suc d) p.some fits (omega (arith, less)) inside).0 h in
            absurd (omega (arith, before, from, start_is))
        go (no h) = omega (arith, upto, h)
