-- Lists: those members that pass a test, how often a number occurs, numbers in a row, blocks.
use Rattle.std.specs.Prelude.{Bool, true, false, cond, ◌&&◌, List, [], ◌∷◌, ℕ, zero, suc, eqb, take, drop}

-- those members for which a test holds
unfoldable pub those : {A : Type 0} → (A → Bool) → List A → List A
those test [] = []
those test (x ∷ xs) = cond (test x) (x ∷ those test xs) (those test xs)

-- a test holds for all members
unfoldable pub every : {A : Type 0} → (A → Bool) → List A → Bool
every test [] = true
every test (x ∷ xs) = test x && every test xs

-- how often a number occurs
unfoldable pub occurrences : ℕ → List ℕ → ℕ
occurrences c [] = 0
occurrences c (x ∷ xs) = cond (eqb x c) (suc (occurrences c xs)) (occurrences c xs)

-- n numbers from i on
unfoldable pub numbers_from : ℕ → ℕ → List ℕ
numbers_from i zero = []
numbers_from i (suc n) = i ∷ numbers_from (suc i) n

-- the first of some numbers; 0 if there is none
abbrev pub first_number : List ℕ → ℕ
first_number [] = 0
first_number (c ∷ cs) = c

-- the first n blocks of w words
unfoldable pub blocks : ℕ → ℕ → List ℕ → List (List ℕ)
blocks w zero ws = []
blocks w (suc n) ws = take w ws ∷ blocks w n (drop w ws)

-- the same numbers
unfoldable pub same : List ℕ → List ℕ → Bool
same [] [] = true
same [] (y ∷ ys) = false
same (x ∷ xs) [] = false
same (x ∷ xs) (y ∷ ys) = eqb x y && same xs ys
