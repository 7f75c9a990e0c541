-- Words filled one after the other.
use mathlib.Core.Path.{◌≡◌, refl, ap}
use mathlib.Core.List.{List, ◌∷◌, ◌++◌, append-nil}
use Prim.Native.Nat.{ℕ, zero, suc, ◌+◌, ◌≤◌, ◌<◌}
use native.Mathlib.Numerals.{add-one}
use native.Mathlib.Omega.{arith}
use lib.ListN.{length, drop, set, replicate, length-replicate, drop_of_length-le}
use lib.Seq.{drop-cons, set_at}

fills_more : (i v : ℕ) (l : List ℕ) → replicate i v ++ (v ∷ l) ≡ replicate (suc i) v ++ l
fills_more zero v l = refl
fills_more (suc i) v l = ap (λ (m : List ℕ). v ∷ m) (fills_more i v l)

-- the first i words are v, the others as they were
pub filled_more :
    (v : ℕ) (l : List ℕ) (i : ℕ) → i < length l → set (replicate i v ++ drop i l) i v ≡ replicate (i + 1) v ++ drop (i + 1) l
filled_more v l i h =
    rw (add-one i, drop-cons l i 0 h, set_at (replicate i v) _ (drop (suc i) l) v i (length-replicate {A = ℕ} i v)) (fills_more i v (drop (suc i) l))

pub filled_all : (v : ℕ) (l : List ℕ) (i : ℕ) → i ≡ length l → replicate i v ++ drop i l ≡ replicate (length l) v
filled_all v l i e =
    let h : length l ≤ i = omega arith in
    rw (drop_of_length-le l h, append-nil {A = ℕ} (replicate i v), e) refl
