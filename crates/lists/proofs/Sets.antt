-- Runs of stores: what is stored by two runs, the second where the first ends, is stored by one.
use mathlib.Core.Path.{◌≡◌, refl}
use mathlib.Core.List.{List, [], ◌∷◌, ◌++◌}
use Prim.Native.Nat.{ℕ, suc, ◌+◌}
use native.Mathlib.Omega.{arith}
use lib.ListN.{length, set}
use lib.Seq.{sets}

pub sets_append : (l xs ys : List ℕ) (i : ℕ) → sets l i (xs ++ ys) ≡ sets (sets l i xs) (i + length xs) ys
sets_append l [] ys i = let none : i + 0 ≡ i = omega arith in rw none refl
sets_append l (x ∷ xs) ys i =
    let more : i + suc (length xs) ≡ suc i + length xs = omega arith in
    rw more (sets_append (set l i x) xs ys (suc i))
