-- How often a number occurs, and numbers that each occur once.
use mathlib.Core.Path.{◌≡◌, refl, sym, ◌∙◌, subst}
use mathlib.Core.Bool.{Bool, true, false, cond}
use mathlib.Core.List.{List, [], ◌∷◌, ◌++◌, reverse_aux}
use Prim.Native.Nat.{ℕ, suc, ◌+◌, ◌≤◌, ◌<◌}
use native.Mathlib.Nat.{zero-add}
use native.Mathlib.Decide.{ℕ_discrete}
use native.Mathlib.Omega.{arith}
use lib.Dec.{eqb}
use borrow.Author.Tests.{eq-eqb, ne_eqb}
use Rattle.lists.specs.Lists.{occurrences}
use Rattle.lists.proofs.All.{All, all_map, all_left, all_right, all_each, all_zip}

-- each number differs from all after it
abbrev pub Distinct : List ℕ → Type 0
Distinct [] = Unit {0}
Distinct (x ∷ xs) = All (λ y. x ≡ y → ⊥) xs × Distinct xs

pub occurrences_here : (c x : ℕ) (xs : List ℕ) → x ≡ c → occurrences c (x ∷ xs) ≡ suc (occurrences c xs)
unfolding occurrences
occurrences_here c x xs e = rw (eq-eqb x c e) refl

pub occurrences_past : (c x : ℕ) (xs : List ℕ) → (x ≡ c → ⊥) → occurrences c (x ∷ xs) ≡ occurrences c xs
unfolding occurrences
occurrences_past c x xs ne = rw (ne_eqb x c ne) refl

pub occurrences_none : (c : ℕ) (xs : List ℕ) → occurrences c xs ≡ 0 → All (λ y. c ≡ y → ⊥) xs
occurrences_none c [] e = tt
occurrences_none c (x ∷ xs) e = at (ℕ_discrete x c) (occurrences_none c xs)
  where
    at : Dec (x ≡ c) → (occurrences c xs ≡ 0 → All (λ y. c ≡ y → ⊥) xs) → All (λ y. c ≡ y → ⊥) (x ∷ xs)
    at (yes h) more = absurd (let n = occurrences_here c x xs h in omega arith)
    at (no h) more = ((λ q. h (sym q)), more (sym (occurrences_past c x xs h) ∙ e))

pub once_distinct : (xs : List ℕ) → All (λ c. occurrences c xs ≡ 1) xs → Distinct xs
once_distinct [] a = tt
once_distinct (x ∷ xs) a =
    let others = occurrences_none x xs (let e = occurrences_here x x xs refl in let o = a.0 in omega arith) in
    (others, once_distinct xs (all_zip (λ c ne o. sym (occurrences_past c x xs ne) ∙ o) xs others a.1))

pub distinct_left : (xs ys : List ℕ) → Distinct (xs ++ ys) → Distinct xs
distinct_left [] ys d = tt
distinct_left (x ∷ xs) ys d = (all_left (λ y. x ≡ y → ⊥) xs ys d.0, distinct_left xs ys d.1)

pub distinct_right : (xs ys : List ℕ) → Distinct (xs ++ ys) → Distinct ys
distinct_right [] ys d = d
distinct_right (x ∷ xs) ys d = distinct_right xs ys d.1

-- no number of the second list is in the first
pub distinct_apart : (xs ys : List ℕ) → Distinct (xs ++ ys) → All (λ y. All (λ x. x ≡ y → ⊥) xs) ys
distinct_apart [] ys d = all_each (λ y. tt) ys
distinct_apart (x ∷ xs) ys d =
    all_zip (λ y p q. (p, q)) ys (all_right (λ y. x ≡ y → ⊥) xs ys d.0) (distinct_apart xs ys d.1)

pub occurrences_append : (c : ℕ) (xs ys : List ℕ) → occurrences c (xs ++ ys) ≡ occurrences c xs + occurrences c ys
unfolding occurrences
occurrences_append c [] ys = sym (zero-add (occurrences c ys))
occurrences_append c (x ∷ xs) ys = at_test (eqb x c) (occurrences_append c xs ys)
  where
    at_test : (t : Bool) → occurrences c (xs ++ ys) ≡ occurrences c xs + occurrences c ys →
        cond t (suc (occurrences c (xs ++ ys))) (occurrences c (xs ++ ys)) ≡ cond t (suc (occurrences c xs)) (occurrences c xs) + occurrences c ys
    at_test true e = omega arith
    at_test false e = e

pub occurrences_reverse_aux : (c : ℕ) (xs ys : List ℕ) → occurrences c (reverse_aux xs ys) ≡ occurrences c xs + occurrences c ys
unfolding occurrences
occurrences_reverse_aux c [] ys = sym (zero-add (occurrences c ys))
occurrences_reverse_aux c (x ∷ xs) ys = at_test (eqb x c) (occurrences_reverse_aux c xs (x ∷ ys))
  where
    at_test : (t : Bool) → occurrences c (reverse_aux xs (x ∷ ys)) ≡ occurrences c xs + cond t (suc (occurrences c ys)) (occurrences c ys) →
        occurrences c (reverse_aux xs (x ∷ ys)) ≡ cond t (suc (occurrences c xs)) (occurrences c xs) + occurrences c ys
    at_test true e = omega arith
    at_test false e = e

-- a number that is between two parts
pub occurrences_between : (c : ℕ) (front later : List ℕ) → occurrences c (front ++ (c ∷ later)) ≡ suc (occurrences c front + occurrences c later)
occurrences_between c front later = omega (arith, occurrences_append c front (c ∷ later), occurrences_here c c later refl)

-- one number more makes no number occur less
pub occurrences_more : (c x : ℕ) (xs : List ℕ) → occurrences c xs ≤ occurrences c (x ∷ xs)
unfolding occurrences
occurrences_more c x xs = at_test (eqb x c)
  where
    at_test : (t : Bool) → occurrences c xs ≤ cond t (suc (occurrences c xs)) (occurrences c xs)
    at_test true = omega arith
    at_test false = omega arith

-- each member occurs
pub all_occur : (xs : List ℕ) → All (λ x. 0 < occurrences x xs) xs
all_occur [] = tt
all_occur (x ∷ xs) = (omega (arith, occurrences_here x x xs refl), all_map (λ y h. omega (arith, occurrences_more y x xs)) xs (all_occur xs))

-- a number that no member is does not occur
pub none_occurs : (c : ℕ) (xs : List ℕ) → All (λ x. c ≡ x → ⊥) xs → occurrences c xs ≡ 0
unfolding occurrences
none_occurs c [] a = refl
none_occurs c (x ∷ xs) a = occurrences_past c x xs (λ e. a.0 (sym e)) ∙ none_occurs c xs a.1

-- distinct numbers occur at most once
pub distinct_once : (c : ℕ) (xs : List ℕ) → Distinct xs → occurrences c xs ≤ 1
unfolding occurrences
distinct_once c [] d = omega arith
distinct_once c (x ∷ xs) d = at_test (ℕ_discrete x c) (distinct_once c xs d.1)
  where
    at_test : Dec (x ≡ c) → occurrences c xs ≤ 1 → occurrences c (x ∷ xs) ≤ 1
    at_test (yes e) once =
        let none = none_occurs c xs (subst (λ n. All (λ y. n ≡ y → ⊥) xs) e d.0) in
        omega (arith, none, occurrences_here c x xs e)
    at_test (no ne) once = omega (arith, once, occurrences_past c x xs ne)

-- what holds of all holds of a number that occurs
pub occurs_has : (P : ℕ → Type 0) (c : ℕ) (xs : List ℕ) → 0 < occurrences c xs → All P xs → P c
unfolding occurrences
occurs_has P c [] h a = absurd (omega arith)
occurs_has P c (x ∷ xs) h a = at (ℕ_discrete x c) (λ more. occurs_has P c xs more a.1)
  where
    at : Dec (x ≡ c) → (0 < occurrences c xs → P c) → P c
    at (yes e) more = subst P e a.0
    at (no ne) more = more (omega (arith, h, occurrences_past c x xs ne))
