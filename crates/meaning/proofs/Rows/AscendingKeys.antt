-- Ascending lists of numbers with the same members are equal, so what depends on the standing keys in order depends on their set alone.
use mathlib.Core.Path.{◌≡◌, refl, ap₂}
use mathlib.Core.Logic.{◌↔◌}
use mathlib.Core.List.{List, [], ◌∷◌, map}
use Prim.Native.Nat.{ℕ, ◌≤◌, ◌<◌}
use native.Mathlib.Decide.{ℕ_discrete}
use native.Mathlib.Omega.{arith}
use Rattle.lists.specs.Lists.{occurrences}
use Rattle.lists.proofs.Occurrences.{occurrences_here, occurrences_past, occurrences_more}
use Rattle.meaning.specs.Row.{Node}
use Rattle.meaning.proofs.Rows.AscendingRow.{Asc}

-- numbers above a number, each above the one before
abbrev pub Rising : ℕ → List ℕ → Type 0
Rising low [] = Unit {0}
Rising low (x ∷ xs) = (low < x) × Rising x xs

pub asc_rising : (low : ℕ) (row : List Node) → Asc low row → Rising low (map (λ x. x.key) row)
asc_rising low [] a = tt
asc_rising low (x ∷ row) a = (a.0, asc_rising x.key row a.1)

no_member : (k : ℕ) → 0 < occurrences k [] → ⊥
unfolding occurrences
no_member k h = omega arith

-- a member of x ∷ xs other than x is one of xs
pub member_past : (k x : ℕ) (xs : List ℕ) → (x ≡ k → ⊥) → 0 < occurrences k (x ∷ xs) → 0 < occurrences k xs
member_past k x xs ne h = let e = occurrences_past k x xs ne in omega arith

pub member_here : (x : ℕ) (xs : List ℕ) → 0 < occurrences x (x ∷ xs)
member_here x xs = let e = occurrences_here x x xs refl in omega arith

pub member_later : (k x : ℕ) (xs : List ℕ) → 0 < occurrences k xs → 0 < occurrences k (x ∷ xs)
member_later k x xs h = let more = occurrences_more k x xs in omega arith

-- members are above what the list rises from
pub member_above : (low k : ℕ) (xs : List ℕ) → Rising low xs → 0 < occurrences k xs → low < k
member_above low k [] a h = absurd (no_member k h)
member_above low k (x ∷ xs) a h = go (ℕ_discrete x k) (member_above x k xs a.1)
  where
    go : Dec (x ≡ k) → (0 < occurrences k xs → x < k) → low < k
    go (yes e) onward = let t = a.0 in omega (arith, e)
    go (no ne) onward = let t = a.0 in let u = onward (member_past k x xs ne h) in omega arith

-- ascending lists with the same members are equal
pub rising_equal : (low : ℕ) (xs ys : List ℕ) → Rising low xs → Rising low ys → ((k : ℕ) → (0 < occurrences k xs) ↔ (0 < occurrences k ys)) → xs ≡ ys
rising_equal low [] [] a c e = refl
rising_equal low [] (y ∷ ys) a c e = absurd (no_member y ((e y).1 (member_here y ys)))
rising_equal low (x ∷ xs) [] a c e = absurd (no_member x ((e x).0 (member_here x xs)))
rising_equal low (x ∷ xs) (y ∷ ys) a c e = ap₂ ◌∷◌ same (rising_equal x xs ys a.1 (rw (← same) at c.1) tails)
  where
    at_most : (x y : ℕ) (ys : List ℕ) → Rising y ys → 0 < occurrences x (y ∷ ys) → y ≤ x
    at_most x y ys r h = go (ℕ_discrete y x)
      where
        go : Dec (y ≡ x) → y ≤ x
        go (yes q) = omega (arith, q)
        go (no ne) = let t = member_above y x ys r (member_past x y ys ne h) in omega arith

    same : x ≡ y
    same = let s = at_most x y ys c.1 ((e x).0 (member_here x xs)) in let t = at_most y x xs a.1 ((e y).1 (member_here y ys)) in omega arith

    tails : (k : ℕ) → (0 < occurrences k xs) ↔ (0 < occurrences k ys)
    tails k = (
      λ h. let t = member_above x k xs a.1 h in member_past k y ys (λ q. let s = same in omega arith) ((e k).0 (member_later k x xs h)),
      λ h. let t = member_above y k ys c.1 h in member_past k x xs (λ q. let s = same in omega arith) ((e k).1 (member_later k y ys h)),
    )
