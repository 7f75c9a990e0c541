-- Rows in ascending order of keys.
use mathlib.Core.Path.{◌≡◌, refl}
use mathlib.Core.Bool.{true}
use mathlib.Core.List.{List, [], ◌∷◌}
use Prim.Native.Nat.{ℕ, ◌≤◌, ◌<◌}
use native.Mathlib.Omega.{arith}
use lib.Dec.{ltb}
use borrow.Author.Tests.{lt-ltb, ltb-true}
use Rattle.lists.proofs.All.{All, all_map}
use Rattle.lists.proofs.Tests.{both, and_both}
use Rattle.meaning.specs.Row.{Node}
use Rattle.meaning.specs.State.{ascending}

-- keys above a key, each above the one before
abbrev pub Asc : ℕ → List Node → Type 0
Asc key [] = Unit {0}
Asc key (x ∷ row) = (key < x.key) × Asc x.key row

pub ascending_asc : (key : ℕ) (row : List Node) → ascending key row ≡ true → Asc key row
unfolding ascending
ascending_asc key [] e = tt
ascending_asc key (x ∷ row) e =
    let t = both (ltb key x.key) (ascending x.key row) e in
    (ltb-true key x.key t.0, ascending_asc x.key row t.1)

pub asc_ascending : (key : ℕ) (row : List Node) → Asc key row → ascending key row ≡ true
unfolding ascending
asc_ascending key [] a = refl
asc_ascending key (x ∷ row) a =
    and_both (ltb key x.key) (ascending x.key row) (lt-ltb key x.key a.0) (asc_ascending x.key row a.1)

-- a row that ascends from a key ascends from every smaller one, and all its keys are above
pub asc_weaken : (low key : ℕ) (row : List Node) → low ≤ key → Asc key row → Asc low row
asc_weaken low key [] h a = tt
asc_weaken low key (x ∷ row) h a = let k = a.0 in (omega arith, a.1)

pub asc_above : (key : ℕ) (row : List Node) → Asc key row → All (λ x. key < x.key) row
asc_above key [] a = tt
asc_above key (x ∷ row) a = (a.0, all_map (λ y h. let k = a.0 in omega arith) row (asc_above x.key row a.1))
