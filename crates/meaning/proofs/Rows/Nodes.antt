-- The node of a key in a row: where it stands, and what it has.
use Rattle.std.specs.Prelude.{Option, None, Some}
use mathlib.Core.Path.{◌≡◌, ap, subst}
use mathlib.Core.Bool.{Bool, true, false, cond}
use mathlib.Core.List.{List, [], ◌∷◌, ◌++◌}
use Prim.Native.Nat.{ℕ}
use native.Mathlib.Decide.{ℕ_discrete}
use native.Mathlib.Omega.{arith}
use lib.Dec.{eqb}
use borrow.Author.Tests.{eq-eqb, ne_eqb}
use Rattle.lists.proofs.All.{All, all_at}
use Rattle.meaning.specs.Row.{Node, node_at}
use Rattle.meaning.proofs.Promised.AgainstSlips.{present_is_that_key}

-- a node with the key stands, and is live
abbrev pub is_there : Option Node → Bool
is_there None = false
is_there (Some x) = true

abbrev pub is_live : Option Node → Bool
is_live None = false
is_live (Some x) = x.live

-- the node with a key stands between two parts
pub node_split : (key : ℕ) (x : Node) (row : List Node) → node_at key row ≡ Some x → (pre : List Node) × (post : List Node) × (row ≡ pre ++ x ∷ post)
unfolding node_at
node_split key x [] e = absurd (let z : ◌≡◌ {A = ℕ} 0 1 = cc in omega arith)
node_split key x (y ∷ row) e = at (ℕ_discrete y.key key) e (node_split key x row)
  where
    Split : List Node → Type 0
    Split r = (pre : List Node) × (post : List Node) × (r ≡ pre ++ x ∷ post)

    at : Dec (y.key ≡ key) → cond (eqb y.key key) (Some y) (node_at key row) ≡ Some x → (node_at key row ≡ Some x → Split row) → Split (y ∷ row)
    at (yes h) q ih = ([], row, (let r : Some y ≡ Some x = rw (eq-eqb y.key key h) at q in let same : y ≡ x = cc in ap {B = List Node} (λ z. z ∷ row) same))
    at (no h) q ih = let t = ih (rw (ne_eqb y.key key h) at q) in (y ∷ t.0, t.1, ap {B = List Node} (λ r. y ∷ r) t.2)

pub node_key : (key : ℕ) (x : Node) (row : List Node) → node_at key row ≡ Some x → x.key ≡ key
node_key = present_is_that_key

-- what all nodes have, the node with a key has
pub node_has : (P : Node → Type 0) (key : ℕ) (x : Node) (row : List Node) → node_at key row ≡ Some x → All P row → P x
node_has P key x row e a = let (front, later, split) = node_split key x row e in all_at P front x later (subst (All P) split a)
