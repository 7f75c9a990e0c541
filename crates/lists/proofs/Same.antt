-- Lists that are tested to be the same are.
use mathlib.Core.Path.{◌≡◌, refl}
use mathlib.Core.Bool.{true, false≢true}
use mathlib.Core.List.{List, [], ◌∷◌}
use Prim.Native.Nat.{ℕ}
use lib.Dec.{eqb}
use borrow.Author.Tests.{eq-eqb, eqb-true}
use Rattle.lists.specs.Lists.{same}
use Rattle.lists.proofs.Tests.{both}

pub same_refl : (ws : List ℕ) → same ws ws ≡ true
unfolding same
same_refl [] = refl
same_refl (x ∷ ws) = rw (eq-eqb x x refl) (same_refl ws)

pub same_eq : (xs ys : List ℕ) → same xs ys ≡ true → xs ≡ ys
unfolding same
same_eq [] [] e = refl
same_eq [] (y ∷ ys) e = absurd (false≢true e)
same_eq (x ∷ xs) [] e = absurd (false≢true e)
same_eq (x ∷ xs) (y ∷ ys) e =
    let t = both (eqb x y) (same xs ys) e in
    λ i. eqb-true x y t.0 i ∷ same_eq xs ys t.1 i
