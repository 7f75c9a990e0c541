-- Every debt finished: what is left to do from a cell on, in the words as they stand, comes to the same as all of it in the words of the
-- call. Each law takes one turn, or the end.
use mathlib.Core.Path.{◌≡◌, refl}
use mathlib.Core.List.{List}
use Prim.Native.Nat.{ℕ, suc, ◌+◌, ◌-◌, ◌≤◌, ◌<◌}
use native.Mathlib.Numerals.{add-one}
use native.Mathlib.Omega.{arith}
use Rattle.meaning.specs.Layer.Stores.{finish_words}
use Rattle.meaning.specs.Layer.SweepStores.{finish_all}

module _ (D : ℕ) (ws : List ℕ) (x : ℕ) {C : ℕ} where
  pub finish_more : x < C → finish_all D ws x (C - x) ≡ finish_all D (finish_words D ws x) (x + 1) (C - (x + 1))
  unfolding finish_all
  finish_more h = rw (add-one x) (more (C - x) (C - suc x) (omega arith))
    where
      more : (n rest : ℕ) → n ≡ suc rest → finish_all D ws x n ≡ finish_all D (finish_words D ws x) (suc x) rest
      more n rest q = rw q refl

  pub finish_none : C ≤ x → finish_all D ws x (C - x) ≡ ws
  unfolding finish_all
  finish_none h =
      let none : C - x ≡ 0 = omega arith in
      rw none refl
