-- Each cell is met once: the keys of the cells read rise, the free cells are distinct and have another mark, and together they are as
-- many as there are cells.
use mathlib.Core.Path.{◌≡◌, refl, ◌∙◌, ap}
use mathlib.Core.Bool.{true}
use mathlib.Core.Logic.{◌⊎◌, inl, inr}
use mathlib.Core.List.{List, [], ◌∷◌, ◌++◌, map}
use Prim.Native.Nat.{ℕ, ◌+◌, ◌≤◌, ◌<◌}
use native.Mathlib.Omega.{arith}
use lib.ListN.{length}
use Rattle.lists.specs.Lists.{occurrences}
use Rattle.lists.proofs.Occurrences.{Distinct, occurrences_here, occurrences_past, none_occurs}
use Rattle.lists.proofs.All.{All, all_append, all_zip}
use Rattle.meaning.specs.Words.{key_at, value_at, mark_at, cells_at}
use Rattle.account.specs.declared.Seen.{Seen}
use Rattle.account.proofs.AcceptedRun.{Met, seen, seen_after, Trace}
use Rattle.account.proofs.AcceptedKeys.{row_in, Rising}

-- Distinct numbers

pub distinct_append : (xs ys : List ℕ) → Distinct xs → Distinct ys → All (λ x. All (λ y. x ≡ y → ⊥) ys) xs → Distinct (xs ++ ys)
distinct_append [] ys d e apart = e
distinct_append (x ∷ xs) ys d e apart = (all_append (λ y. x ≡ y → ⊥) xs ys d.0 apart.0, distinct_append xs ys d.1 e apart.1)

pub distinct_once : (xs : List ℕ) → Distinct xs → All (λ c. occurrences c xs ≡ 1) xs
distinct_once [] d = tt
distinct_once (x ∷ xs) d = (
  omega (arith, occurrences_here x x xs refl, none_occurs x xs d.0),
  all_zip (λ c ne o. occurrences_past c x xs ne ∙ o) xs d.0 (distinct_once xs d.1),
)

-- The cells met

pub left_met : (ws : List ℕ) (s : Seen) (met : List Met) → Trace ws s met → (seen_after ws s met).left + length (row_in ws met) ≡ s.left
unfolding seen_after
left_met ws s [] t = omega arith
left_met ws s (m ∷ met) t = omega (arith, left_met ws (seen ws m s) met t.1, t.0.left)

-- the cells met after a cell with a larger key than x are none of them x
cells_other : (ws : List ℕ) (x p : ℕ) (met : List Met) → Rising ws p met → key_at ws x ≤ key_at ws p → All (λ c. x ≡ c → ⊥) (map (λ y. y.cell) (row_in ws met))
cells_other ws x p [] r h = tt
cells_other ws x p (m ∷ met) r h =
    ((λ q. let k = r.0.0 in omega (arith, ap (key_at ws) q)), cells_other ws x m.cell met r.1 (let k = r.0.0 in omega arith))

pub distinct_met : (ws : List ℕ) (x : ℕ) (met : List Met) → Rising ws x met → Distinct (map (λ y. y.cell) (row_in ws met))
distinct_met ws x [] r = tt
distinct_met ws x (m ∷ met) r = (cells_other ws m.cell m.cell met r.1 (omega arith), distinct_met ws m.cell met r.1)

pub range_met : (ws : List ℕ) (s : Seen) (met : List Met) → Trace ws s met → All (λ m. 0 < m.cell) met →
    All (λ c. (0 < c) × (c < cells_at ws)) (map (λ y. y.cell) (row_in ws met))
range_met ws s [] t a = tt
range_met ws s (m ∷ met) t a = ((a.0, t.0.inside), range_met ws (seen ws m s) met t.1 a.1)

-- a cell that was read is marked
pub marked_met : (ws : List ℕ) (s : Seen) (met : List Met) → Trace ws s met → All (λ c. 0 < mark_at ws c) (map (λ y. y.cell) (row_in ws met))
marked_met ws s [] t = tt
marked_met ws s (m ∷ met) t = (at t.0.node, marked_met ws (seen ws m s) met t.1)
  where
    at : ((mark_at ws m.cell ≡ 2) × (value_at ws m.cell ≡ 0)) ⊎ ((mark_at ws m.cell ≡ 1) × (s.reached ≡ true)) → 0 < mark_at ws m.cell
    at (inl d) = let e = d.0 in omega arith
    at (inr l) = let e = l.0 in omega arith
