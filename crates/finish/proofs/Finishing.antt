-- Finishing on words of the right shape: the code's stores are those of the definitions.
use mathlib.Core.Path.{◌≡◌, refl}
use mathlib.Core.List.{List}
use Prim.Native.Nat.{ℕ, suc, ◌+◌, ◌-◌, ◌≤◌, ◌<◌}
use native.Mathlib.Numerals.{add-one}
use native.Mathlib.Omega.{arith}
use lib.ListN.{get_or}
use Rattle.settings.specs.declared.Settings.{Settings}
use Rattle.meaning.specs.Words.{word_index, link_at, link_field}
use Rattle.meaning.specs.Layer.Stores.{store, move_links}
use Rattle.words.specs.Shaped.{Shaped}
use Rattle.words.proofs.Shaped.{shaped_dimensions}

-- Links moved, one after the other

pub move_more :
    {ws : List ℕ} {s : Settings} → Shaped ws s → (n c d : ℕ) {high y : ℕ} → d < high → y ≡ link_at ws c d →
    move_links s.dimensions ws n c d (high - d)
    ≡ move_links s.dimensions
    (store s.dimensions (store s.dimensions ws n (link_field d) y) c (link_field d) 0) n c (d + 1) (high - (d + 1))
unfolding move_links
move_more {ws} {s} h n c d {high} below e = rw (add-one d, e, shaped_dimensions h) (more (high - d) (high - suc d) (omega arith))
  where
    D : ℕ
    D = s.dimensions

    more : (k rest : ℕ) → k ≡ suc rest →
        move_links D ws n c d k
        ≡ move_links D (store D (store D ws n (link_field d) (get_or ws (word_index D c (link_field d)) 0)) c (link_field d) 0) n c (suc d) rest
    more k rest q = rw q refl

pub move_all : (D : ℕ) (ws : List ℕ) (n c d : ℕ) {high : ℕ} → high ≤ d → move_links D ws n c d (high - d) ≡ ws
unfolding move_links
move_all D ws n c d {high} over =
    let none : high - d ≡ 0 = omega arith in
    rw none refl
