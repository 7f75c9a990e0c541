-- Lists made of blocks of one size: how long they are, where word j of block c stands, and that the blocks can be cut out again.
use mathlib.Core.Path.{◌≡◌, refl, sym, ap, ◌∙◌}
use mathlib.Core.List.{List, [], ◌∷◌, map, flat_map}
use Prim.Native.Nat.{ℕ, zero, suc, ◌+◌, ◌*◌, ◌<◌}
use native.Mathlib.Nat.{zero-mul, suc-mul}
use native.Mathlib.Omega.{arith}
use lib.ListN.{length, get_or, length-append, get_or-append}
use lib.Seq.{get_or-append-add, take_at, drop_at}
use Rattle.lists.specs.Lists.{blocks}

module _ {A : Type 0} (f : A → List ℕ) (w : ℕ) (sized : (x : A) → length (f x) ≡ w) where
  pub blocks_length : (xs : List A) → length (flat_map f xs) ≡ length xs * w
  unfolding flat_map
  blocks_length [] = sym (zero-mul w)
  blocks_length (x ∷ xs) =
      length-append (f x) (flat_map f xs) ∙ omega (arith, sized x, blocks_length xs, suc-mul (length xs) w)

  pub block_word : (xs : List A) (c j : ℕ) (z : A) → c < length xs → j < w → get_or (flat_map f xs) (c * w + j) 0 ≡ get_or (f (get_or xs c z)) j 0
  unfolding flat_map
  block_word [] c j z hc hj = absurd (omega arith)
  block_word (x ∷ xs) zero j z hc hj =
      let here : 0 * w + j ≡ j = omega arith in
      let inside : j < length (f x) = omega (arith, sized x) in
      rw here (get_or-append (f x) (flat_map f xs) 0 j inside)
  block_word (x ∷ xs) (suc c) j z hc hj =
      let there : suc c * w + j ≡ length (f x) + (c * w + j) = omega (arith, sized x, suc-mul c w) in
      rw there (get_or-append-add (f x) (flat_map f xs) (c * w + j) 0 ∙ block_word xs c j z (omega arith) hj)

  pub blocks_cut : (xs : List A) → blocks w (length xs) (flat_map f xs) ≡ map f xs
  unfolding flat_map blocks
  blocks_cut [] = refl
  blocks_cut (x ∷ xs) =
      rw (take_at (f x) (flat_map f xs) w (sized x), drop_at (f x) (flat_map f xs) w (sized x)) (ap (λ (r : List (List ℕ)). f x ∷ r) (blocks_cut xs))
