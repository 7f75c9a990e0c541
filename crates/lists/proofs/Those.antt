-- Members chosen by a test.
use mathlib.Core.Path.{◌≡◌, refl, ap}
use mathlib.Core.Bool.{Bool, true, false, cond}
use mathlib.Core.List.{List, [], ◌∷◌, ◌++◌, map}
use Prim.Native.Nat.{suc, ◌≤◌}
use native.Mathlib.Omega.{arith}
use lib.ListN.{length}
use Rattle.lists.specs.Lists.{those}
use Rattle.lists.proofs.All.{All}

module _ {A : Type 0} where
  pub those_all : (test : A → Bool) (xs : List A) → All (λ x. test x ≡ true) xs → those test xs ≡ xs
  unfolding those
  those_all test [] a = refl
  those_all test (x ∷ xs) a = rw a.0 (ap (λ (r : List A). x ∷ r) (those_all test xs a.1))

  pub those_none : (test : A → Bool) (xs : List A) → All (λ x. test x ≡ false) xs → those test xs ≡ []
  unfolding those
  those_none test [] a = refl
  those_none test (x ∷ xs) a = rw a.0 (those_none test xs a.1)

  pub those_same : (test other : A → Bool) (xs : List A) → All (λ x. test x ≡ other x) xs → those test xs ≡ those other xs
  unfolding those
  those_same test other [] a = refl
  those_same test other (x ∷ xs) a = rw (a.0, those_same test other xs a.1) refl

  pub those_keep : (P : A → Type 0) (test : A → Bool) (xs : List A) → All P xs → All P (those test xs)
  unfolding those
  those_keep P test [] a = tt
  those_keep P test (x ∷ xs) a = at (test x) (those_keep P test xs a.1)
    where
      at : (t : Bool) → All P (those test xs) → All P (cond t (x ∷ those test xs) (those test xs))
      at true more = (a.0, more)
      at false more = more

  pub those_append : (test : A → Bool) (xs ys : List A) → those test (xs ++ ys) ≡ those test xs ++ those test ys
  unfolding those
  those_append test [] ys = refl
  those_append test (x ∷ xs) ys = at (test x) (those_append test xs ys)
    where
      at : (t : Bool) → those test (xs ++ ys) ≡ those test xs ++ those test ys →
          cond t (x ∷ those test (xs ++ ys)) (those test (xs ++ ys)) ≡ cond t (x ∷ those test xs) (those test xs) ++ those test ys
      at true e = ap {B = List A} (λ r. x ∷ r) e
      at false e = e

  pub those_most : (test : A → Bool) (xs : List A) → length (those test xs) ≤ length xs
  unfolding those
  those_most test [] = omega arith
  those_most test (x ∷ xs) = at (test x) (those_most test xs)
    where
      at : (t : Bool) → length (those test xs) ≤ length xs → length (cond t (x ∷ those test xs) (those test xs)) ≤ suc (length xs)
      at true h = omega arith
      at false h = omega arith

-- chosen by what a map makes of them
pub those_map : {A B : Type 0} (f : A → B) (test : B → Bool) (xs : List A) → those test (map f xs) ≡ map f (those (λ x. test (f x)) xs)
unfolding those
those_map f test [] = refl
those_map {A} {B} f test (x ∷ xs) = at (test (f x)) (those_map f test xs)
  where
    at : (t : Bool) → those test (map f xs) ≡ map f (those (λ y. test (f y)) xs) →
        cond t (f x ∷ those test (map f xs)) (those test (map f xs)) ≡ map f (cond t (x ∷ those (λ y. test (f y)) xs) (those (λ y. test (f y)) xs))
    at true e = ap {B = List B} (λ r. f x ∷ r) e
    at false e = e
