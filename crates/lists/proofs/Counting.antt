-- Distinct numbers below n, if they are n, are all the numbers below n: take out n-1, and the others are distinct numbers below n-1. And
-- numbers among n in a row, each of which occurs once, are n.
use mathlib.Core.Path.{◌≡◌, refl, sym, ap, ◌∙◌}
use mathlib.Core.Bool.{Bool, true, false, cond}
use mathlib.Core.List.{List, [], ◌∷◌}
use Prim.Native.Nat.{ℕ, zero, suc, ◌+◌, ◌≤◌, ◌<◌}
use native.Mathlib.Decide.{ℕ_discrete}
use native.Mathlib.Omega.{arith}
use lib.Dec.{eqb}
use lib.ListN.{length}
use borrow.Author.Tests.{eq-eqb, ne_eqb}
use Rattle.lists.specs.Lists.{occurrences}
use Rattle.lists.proofs.All.{All, all_zip}
use Rattle.lists.proofs.Occurrences.{Distinct, occurrences_here, occurrences_past, occurrences_none}

-- a list without the first occurrence of a number
without : ℕ → List ℕ → List ℕ
without n [] = []
without n (x ∷ xs) = cond (eqb x n) xs (x ∷ without n xs)

without_length : (n : ℕ) (xs : List ℕ) → length xs ≤ suc (length (without n xs))
unfolding without
without_length n [] = omega arith
without_length n (x ∷ xs) = at (eqb x n) (without_length n xs)
  where
    at : (t : Bool) → length xs ≤ suc (length (without n xs)) → suc (length xs) ≤ suc (length (cond t xs (x ∷ without n xs)))
    at true h = omega arith
    at false h = omega arith

without_all : (P : ℕ → Type 0) (n : ℕ) (xs : List ℕ) → All P xs → All P (without n xs)
unfolding without
without_all P n [] a = tt
without_all P n (x ∷ xs) a = at (eqb x n) (without_all P n xs a.1)
  where
    at : (t : Bool) → All P (without n xs) → All P (cond t xs (x ∷ without n xs))
    at true h = a.1
    at false h = (a.0, h)

without_distinct : (n : ℕ) (xs : List ℕ) → Distinct xs → Distinct (without n xs)
unfolding without
without_distinct n [] d = tt
without_distinct n (x ∷ xs) d = at (eqb x n) (without_distinct n xs d.1)
  where
    at : (t : Bool) → Distinct (without n xs) → Distinct (cond t xs (x ∷ without n xs))
    at true h = d.1
    at false h = (without_all (λ y. x ≡ y → ⊥) n xs d.0, h)

without_below : (n : ℕ) (xs : List ℕ) → Distinct xs → All (λ c. c < suc n) xs → All (λ c. c < n) (without n xs)
unfolding without
without_below n [] d a = tt
without_below n (x ∷ xs) d a = at (ℕ_discrete x n) (without_below n xs d.1 a.1)
  where
    at : Dec (x ≡ n) → All (λ c. c < n) (without n xs) → All (λ c. c < n) (without n (x ∷ xs))
    at (yes e) more = rw (eq-eqb x n e) (all_zip (λ c ne h. omega arith) xs d.0 a.1)
    at (no ne) more = rw (ne_eqb x n ne) ((let h = a.0 in omega arith), more)

-- distinct numbers below n are at most n
pub distinct_few : (n : ℕ) (xs : List ℕ) → Distinct xs → All (λ c. c < n) xs → length xs ≤ n
distinct_few zero [] d a = omega arith
distinct_few zero (x ∷ xs) d a = absurd (let h = a.0 in omega arith)
distinct_few (suc n) xs d a =
    let less = distinct_few n (without n xs) (without_distinct n xs d) (without_below n xs d a) in
    omega (arith, without_length n xs)

-- and if they are n, each number below n is one of them
pub distinct_covers : (n : ℕ) (xs : List ℕ) → Distinct xs → All (λ c. c < n) xs → length xs ≡ n → (x : ℕ) → x < n → 0 < occurrences x xs
distinct_covers n xs d a e x h = at (occurrences x xs) refl
  where
    at : (m : ℕ) → occurrences x xs ≡ m → 0 < m
    at zero o = absurd (let few = distinct_few n (x ∷ xs) (occurrences_none x xs o, d) (h, a) in omega arith)
    at (suc m) o = omega arith

-- how often the n numbers from i on occur, all together
unfoldable total : ℕ → ℕ → List ℕ → ℕ
total i zero xs = 0
total i (suc n) xs = occurrences i xs + total (suc i) n xs

total_none : (i n : ℕ) → total i n [] ≡ 0
unfolding total occurrences
total_none i zero = refl
total_none i (suc n) = omega (arith, total_none (suc i) n)

total_below : (i n x : ℕ) (xs : List ℕ) → x < i → total i n (x ∷ xs) ≡ total i n xs
unfolding total
total_below i zero x xs h = refl
total_below i (suc n) x xs h = omega (arith, occurrences_past i x xs (λ e. omega arith), total_below (suc i) n x xs (omega arith))

total_more : (i n x : ℕ) (xs : List ℕ) → i ≤ x → x < i + n → total i n (x ∷ xs) ≡ suc (total i n xs)
unfolding total
total_more i zero x xs low high = absurd (omega arith)
total_more i (suc n) x xs low high = at (ℕ_discrete x i) (total_more (suc i) n x xs)
  where
    at : Dec (x ≡ i) → (suc i ≤ x → x < suc i + n → total (suc i) n (x ∷ xs) ≡ suc (total (suc i) n xs)) →
        occurrences i (x ∷ xs) + total (suc i) n (x ∷ xs) ≡ suc (occurrences i xs + total (suc i) n xs)
    at (yes e) more = omega (arith, occurrences_here i x xs e, total_below (suc i) n x xs (omega arith))
    at (no ne) more = omega (arith, occurrences_past i x xs ne, more (omega arith) (omega arith))

total_length : (i n : ℕ) (xs : List ℕ) → All (λ x. (i ≤ x) × (x < i + n)) xs → total i n xs ≡ length xs
total_length i n [] all = total_none i n
total_length i n (x ∷ xs) all = total_more i n x xs all.0.0 all.0.1 ∙ ap suc (total_length i n xs all.1)

total_each : (i n : ℕ) (xs : List ℕ) → ((x : ℕ) → i ≤ x → x < i + n → occurrences x xs ≡ 1) → total i n xs ≡ n
unfolding total
total_each i zero xs once = refl
total_each i (suc n) xs once =
    omega (arith, once i (omega arith) (omega arith), total_each (suc i) n xs (λ x low high. once x (omega arith) (omega arith)))

pub each_once : (i n : ℕ) (xs : List ℕ) → All (λ x. (i ≤ x) × (x < i + n)) xs → ((x : ℕ) → i ≤ x → x < i + n → occurrences x xs ≡ 1) → length xs ≡ n
each_once i n xs all once = sym (total_length i n xs all) ∙ total_each i n xs once
