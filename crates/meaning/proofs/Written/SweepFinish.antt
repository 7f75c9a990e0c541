-- All that is owed is finished: cell after cell, what each owes is finished, and at the end no node owes. A free cell owes nothing; and
-- of a standing one, what is written is the picture of the state with that debt paid, which is a state in order again.
use Rattle.std.specs.Prelude.{None}
use mathlib.Core.Path.{◌≡◌, refl, sym, ap, ap₂, ◌∙◌, subst}
use mathlib.Core.Bool.{false}
use mathlib.Core.List.{List, [], ◌∷◌, map}
use Prim.Native.Nat.{ℕ, zero, suc, ◌+◌, ◌-◌, ◌≤◌, ◌<◌}
use native.Mathlib.Decide.{dec_lt}
use native.Mathlib.Omega.{arith}
use lib.Arith.{lt_of_le-ne}
use Rattle.lists.specs.Lists.{occurrences}
use Rattle.lists.proofs.Occurrences.{occurrences_none}
use Rattle.lists.proofs.All.{All, all_map, all_each, all_of_map, all_mapped}
use Rattle.meaning.specs.Row.{Node, place_of}
use Rattle.meaning.specs.State.{State, places_of}
use Rattle.meaning.specs.Picture.{picture}
use Rattle.meaning.specs.Operations.{paid, finished, with_row}
use Rattle.meaning.specs.Layer.Stores.{finish_words}
use Rattle.meaning.specs.Layer.SweepStores.{finish_all}
use Rattle.meaning.proofs.Pictures.State.{Sound}
use Rattle.meaning.proofs.Pictures.StateCells.{row_range}
use Rattle.meaning.proofs.Pictures.Picture.{place_none, places_cells}
use Rattle.meaning.proofs.Rows.Places.{on_cell, on_cell-cases}
use Rattle.meaning.proofs.Kept.KeepsState.{changed_sound}
use Rattle.meaning.proofs.Kept.KeepsFinish.{finished_sound}
use Rattle.meaning.proofs.Kept.KeepsSweep.{paid_all_keeping}
use Rattle.meaning.proofs.Cells.Placed.{free_cell_rest}
use Rattle.meaning.proofs.Cells.Stores.{finish_words-none}
use Rattle.meaning.proofs.Written.FinishWords.{finish_words_lem}

-- One cell

-- where no node has the cell, nothing changes
finished_none : (c : ℕ) (row : List Node) → All (λ x. c ≡ x.cell → ⊥) row → finished c row ≡ row
unfolding finished
finished_none c [] a = refl
finished_none c (x ∷ row) a =
    ap₂ {C = List Node} (λ y r. y ∷ r) (on_cell-cases (λ y. y ≡ x) c paid x (λ e. absurd (a.0 (sym e))) (λ ne. refl)) (finished_none c row a.1)

pub finish_cell : (s : State) → Sound s → (x : ℕ) → x < s.settings.cells →
    finish_words s.settings.dimensions (picture s) x ≡ picture (with_row s (finished x s.row))
finish_cell s v x below = at (dec_lt 0 (occurrences x (0 ∷ cells)))
  where
    cells : List ℕ
    cells = map (λ y. y.cell) s.row

    at : Dec (0 < occurrences x (0 ∷ cells)) → finish_words s.settings.dimensions (picture s) x ≡ picture (with_row s (finished x s.row))
    at (yes stands) = sym (finish_words_lem s v x stands)
    at (no free) =
        let others = occurrences_none x (0 ∷ cells) (omega arith) in
        let apart = subst (All (λ c. x ≡ c → ⊥)) (sym (places_cells s.settings.base s.settings.dimensions s.row)) others in
        let unfound : place_of x (places_of s s.row) ≡ None =
        place_none x (places_of s s.row) (all_map (λ p ne e. ne (sym e)) (places_of s s.row)
        (all_of_map (λ c. x ≡ c → ⊥) (λ p. p.node.cell) (places_of s s.row) apart)) in
        finish_words-none s.settings.dimensions (picture s) x (free_cell_rest s x below unfound 3 (omega arith) (omega arith))
        ∙ ap (λ row. picture (with_row s row)) (sym (finished_none x s.row (all_of_map (λ c. x ≡ c → ⊥) (λ y. y.cell) s.row others.1)))

-- Cell after cell

-- what n cells from x on owe is finished
finished_from : ℕ → ℕ → List Node → List Node
finished_from x zero row = row
finished_from x (suc n) row = finished_from (suc x) n (finished x row)

finish_from : (s : State) → Sound s → (x n : ℕ) → x + n ≤ s.settings.cells →
    finish_all s.settings.dimensions (picture s) x n ≡ picture (with_row s (finished_from x n s.row))
unfolding finish_all finished_from
finish_from s v x zero h = refl
finish_from s v x (suc n) h =
    ap (λ ws. finish_all s.settings.dimensions ws (suc x) n) (finish_cell s v x (omega arith))
    ∙ finish_from (with_row s (finished x s.row)) (finished_sound s x v) (suc x) n (omega arith)

paid_once : (c : ℕ) (x : Node) → paid (on_cell c paid x) ≡ paid x
paid_once c x = on_cell-cases (λ y. paid y ≡ paid x) c paid x (λ e. refl) (λ ne. refl)

paid_finished : (c : ℕ) (row : List Node) → map paid (finished c row) ≡ map paid row
unfolding finished
paid_finished c [] = refl
paid_finished c (x ∷ row) = ap₂ {C = List Node} (λ y r. y ∷ r) (paid_once c x) (paid_finished c row)

-- nodes that owe nothing
pub paid_unowing : (row : List Node) → All (λ x. x.owes ≡ false) row → map paid row ≡ row
paid_unowing [] a = refl
paid_unowing (x ∷ row) a =
    ap₂ {C = List Node} (λ t r. record { cell = x.cell; key = x.key; value = x.value; live = x.live; owes = t } ∷ r) (sym a.0) (paid_unowing row a.1)

-- the cells below x owe nothing, and all are below x + n
abbrev FinishedTo : ℕ → ℕ → Node → Type 0
FinishedTo x n y = (y.cell < x → y.owes ≡ false) × (y.cell < x + n)

finished_next : (x n : ℕ) (row : List Node) → All (FinishedTo x (suc n)) row → All (FinishedTo (suc x) n) (finished x row)
unfolding finished
finished_next x n [] a = tt
finished_next x n (y ∷ row) a = (
  on_cell-cases (FinishedTo (suc x) n) x paid y
      (λ e. (λ l. refl, let h = a.0.1 in omega arith))
      (λ ne. (λ l. a.0.0 (lt_of_le-ne (omega arith) ne), let h = a.0.1 in omega arith)),
  finished_next x n row a.1,
)

finished_all_lem : (x n : ℕ) (row : List Node) → All (FinishedTo x n) row → finished_from x n row ≡ map paid row
unfolding finished_from
finished_all_lem x zero row a = sym (paid_unowing row (all_map (λ y h. let below = h.1 in h.0 (omega arith)) row a))
finished_all_lem x (suc n) row a = finished_all_lem (suc x) n (finished x row) (finished_next x n row a) ∙ paid_finished x row

-- what all cells but the head owe is finished: The operations 6
pub finish_all_lem : (s : State) → Sound s → finish_all s.settings.dimensions (picture s) 1 (s.settings.cells - 1) ≡ picture (with_row s (map paid s.row))
finish_all_lem s v =
    let least = v.ranges.cells_least in
    finish_from s v 1 (s.settings.cells - 1) (omega arith)
    ∙ ap (λ row. picture (with_row s row))
    (finished_all_lem 1 (s.settings.cells - 1) s.row (all_map (λ y r. let above = r.0 in let below = r.1 in
    (λ l. absurd (omega arith), omega arith)) s.row (row_range s v)))

-- the state then is in order, and no node owes
pub paid_sound : (s : State) → Sound s → Sound (with_row s (map paid s.row))
paid_sound s v = changed_sound s paid s.position v paid_all_keeping (λ x e. refl) v.values v.position v.dead

pub paid_owes_nothing : (row : List Node) → All (λ x. x.owes ≡ false) (map paid row)
paid_owes_nothing row = all_mapped (λ x. x.owes ≡ false) paid row (all_each (λ x. refl) row)
