-- Taking keeps a state in order: of the node that is taken the value and the mark change, the nodes before it are dead already,
-- and those after it have larger keys than the new position.
use mathlib.Core.Path.{◌≡◌, refl, sym, subst}
use mathlib.Core.Bool.{false}
use mathlib.Core.List.{List, ◌∷◌}
use Prim.Native.Nat.{ℕ, ◌≤◌}
use native.Mathlib.Omega.{arith}
use Rattle.lists.proofs.All.{All, all_map, all_append}
use Rattle.meaning.specs.Row.{Node, head_node}
use Rattle.meaning.specs.State.{State, key_of}
use Rattle.meaning.specs.Operations.{dead_front, from_live, dead_node, taken}
use Rattle.meaning.proofs.Rows.AscendingRow.{Asc}
use Rattle.meaning.proofs.Pictures.State.{Sound}
use Rattle.meaning.proofs.Rows.Places.{Keeping, on_cell, on_cell-cases, on_cell-keeping, asc_larger}
use Rattle.meaning.proofs.Kept.KeepsState.{cell_stands, key_of_row, changed_sound, dead_front-dead, live_split}

pub dead_keeping : (c : ℕ) → Keeping (on_cell c dead_node)
dead_keeping c = on_cell-keeping c dead_node (λ x. refl) (λ x. refl) (λ e. refl)

-- the position's key after taking x is the key of x
pub taken_key : (s : State) (x : Node) (later : List Node) → Sound s → from_live s.row ≡ x ∷ later → key_of x.cell (head_node ∷ s.row) ≡ x.key
taken_key s x later v e = key_of_row s v (dead_front s.row) x later (live_split s.row x later e)

-- all nodes up to x are dead once x is taken
pub taken_dead : (s : State) (x : Node) (later : List Node) → Sound s → from_live s.row ≡ x ∷ later →
    All (λ y. y.key ≤ x.key → (on_cell x.cell dead_node y).live ≡ false) s.row
taken_dead s x later v e =
    let split = live_split s.row x later e in
    let front = dead_front s.row in
    let larger = asc_larger 0 front x later (subst (Asc 0) split v.ascends) in
    subst (All Dead) (sym split)
    (all_append Dead front (x ∷ later) (all_map (λ y d l. dead y d) front (dead_front-dead s.row))
    (λ l. taken-x, all_map (λ y h l. absurd (omega arith)) later larger))
  where
    Dead : Node → Type 0
    Dead y = y.key ≤ x.key → (on_cell x.cell dead_node y).live ≡ false

    dead : (y : Node) → y.live ≡ false → (on_cell x.cell dead_node y).live ≡ false
    dead y d = on_cell-cases (λ z. z.live ≡ false) x.cell dead_node y (λ here. refl) (λ other. d)

    taken-x : (on_cell x.cell dead_node x).live ≡ false
    taken-x = on_cell-cases (λ z. z.live ≡ false) x.cell dead_node x (λ here. refl) (λ other. absurd (other refl))

pub taken_sound : (s : State) (x : Node) (later : List Node) → Sound s → from_live s.row ≡ x ∷ later → Sound (taken s x)
unfolding taken
taken_sound s x later v e =
    changed_sound s (on_cell x.cell dead_node) x.cell v (dead_keeping x.cell)
    (λ y h. on_cell-cases (λ z. z.owes ≡ false) x.cell dead_node y (λ here. h) (λ other. h))
    (all_map (λ y h. on_cell-cases (λ z. z.live ≡ false → z.value ≡ 0) x.cell dead_node y (λ here l. refl) (λ other. h)) s.row v.values)
    (cell_stands s (dead_front s.row) x later (live_split s.row x later e))
    (subst (λ k. All (λ y. y.key ≤ k → (on_cell x.cell dead_node y).live ≡ false) s.row) (sym (taken_key s x later v e)) (taken_dead s x later v e))
