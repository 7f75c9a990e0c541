-- Two lists compared from the front: how many members they share, and which comes first.
use Rattle.std.specs.Prelude.{Bool, false, cond, ◌&&◌, ◌||◌, List, [], ◌∷◌, ℕ, suc, eqb, ltb}

-- how many leading members of two lists are equal
unfoldable pub agreed : List ℕ → List ℕ → ℕ
agreed [] ys = 0
agreed (x ∷ xs) [] = 0
agreed (x ∷ xs) (y ∷ ys) = cond (eqb x y) (suc (agreed xs ys)) 0

-- lexicographic order of two lists of one length
unfoldable pub precedes : List ℕ → List ℕ → Bool
precedes [] ys = false
precedes (x ∷ xs) [] = false
precedes (x ∷ xs) (y ∷ ys) = ltb x y || (eqb x y && precedes xs ys)
