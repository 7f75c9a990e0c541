-- What a sweep writes: where nobody owes, the picture of the swept state is the words with the front dropped. Paying changes neither what is
-- freed nor what is kept; and where the first node is live, the position is the head and nothing is dropped.
use mathlib.Core.Path.{◌≡◌, refl, sym, ap, ap₂, ◌∙◌, subst}
use mathlib.Core.Bool.{Bool, true, false, cond}
use mathlib.Core.List.{List, [], ◌∷◌, ◌++◌, map, reverse_aux, map-append, drop_last}
use mathlib.Core.Logic.{◌⊎◌, inl, inr}
use Prim.Native.Nat.{ℕ, ◌≤◌, ◌<◌}
use native.Mathlib.Nat.{lt_of_not-le}
use native.Mathlib.Omega.{arith}
use Rattle.lists.proofs.All.{All, all_map, all_at}
use Rattle.meaning.specs.Keys.{shared}
use Rattle.meaning.specs.Row.{Node, last_of}
use Rattle.meaning.specs.State.{State, position_key}
use Rattle.meaning.specs.Picture.{picture}
use Rattle.meaning.specs.Operations.{paid, with_row, dead_front, from_live, last_alone, freed_by, swept}
use Rattle.meaning.specs.Layer.Paths.{path_for, dimension_in}
use Rattle.meaning.specs.Layer.SweepStores.{drop_front}
use Rattle.meaning.proofs.Rows.AscendingRow.{Asc, asc_above}
use Rattle.meaning.proofs.Pictures.State.{Sound}
use Rattle.meaning.proofs.Rows.Places.{Located, cells_changed}
use Rattle.meaning.proofs.Kept.KeepsState.{position_cases, position_node, last_split, last_alone-is}
use Rattle.meaning.proofs.Kept.KeepsSweep.{kept_by, swept_split, kept_all, front_all, swept_sound, paid_all_keeping}
use Rattle.meaning.proofs.Paths.PathNext.{dimension_is}
use Rattle.meaning.proofs.Written.SweepFinish.{paid_unowing, paid_owes_nothing}
use Rattle.meaning.proofs.Written.SweepStores.{Dropping}
use Rattle.meaning.proofs.Written.SweepDrop.{fronted, dropped, reached, dropping, dropped_words}

-- The new position

last_alone_lem : (row : List Node) → ((last_of row).cell ≡ 0 → ⊥) → last_alone row ≡ last_of row ∷ []
unfolding last_of
last_alone_lem [] ne = absurd (ne refl)
last_alone_lem (x ∷ row) ne = last_alone-is x row

-- the row is what is freed, the new position, and what comes after it
pub swept_front : (row : List Node) → ((last_of (dead_front row)).cell ≡ 0 → ⊥) → row ≡ freed_by row ++ last_of (dead_front row) ∷ from_live row
swept_front row ne = swept_split row ∙ ap (λ last. freed_by row ++ (last ++ from_live row)) (last_alone_lem (dead_front row) ne)

-- its dimension, which is the number of the link by which it is reached
abbrev pub swept_number : State → ℕ
swept_number s = dimension_in s (last_of (dead_front s.row)).cell

-- how many coordinates it shares with the head
abbrev pub swept_zeros : State → ℕ
swept_zeros s = shared s.settings.base s.settings.dimensions 0 (last_of (dead_front s.row)).key

-- its path
abbrev pub swept_path : State → List ℕ
swept_path s = path_for s.settings.base s.settings.dimensions s.row (last_of (dead_front s.row)).key

-- in a state where nobody owes, what a sweep leaves is the row with its front dropped

unowing_after : (s : State) → All (λ x. x.owes ≡ false) s.row → ((last_of (dead_front s.row)).cell ≡ 0 → ⊥) →
    swept s ≡ dropped s (freed_by s.row) (last_of (dead_front s.row)) (from_live s.row)
unfolding swept
unowing_after s unowing ne =
    let kept = paid_unowing (kept_by s.row) (kept_all (λ y. y.owes ≡ false) s.row unowing)
    ∙ ap (λ last. last ++ from_live s.row) (last_alone_lem (dead_front s.row) ne) in
    ap {B = State} (λ row. record {
      settings = s.settings;
      row = row;
      free = reverse_aux (map (λ y. y.cell) (freed_by s.row)) s.free;
      position = (last_of (dead_front s.row)).cell;
    }) kept

module _ (s : State) (v : Sound s) (unowing : All (λ x. x.owes ≡ false) s.row) (ne : (last_of (dead_front s.row)).cell ≡ 0 → ⊥) where
  sound_before : Sound (fronted s (freed_by s.row) (last_of (dead_front s.row)) (from_live s.row))
  sound_before = subst (λ row. Sound (with_row s row)) (swept_front s.row ne) v

  sound_after : Sound (dropped s (freed_by s.row) (last_of (dead_front s.row)) (from_live s.row))
  sound_after = subst Sound (unowing_after s unowing ne) (swept_sound s v)

  unowing_before : All (λ x. x.owes ≡ false) (freed_by s.row ++ last_of (dead_front s.row) ∷ from_live s.row)
  unowing_before = subst (All (λ y. y.owes ≡ false)) (swept_front s.row ne) unowing

  number_is : swept_number s ≡ reached s (freed_by s.row) (last_of (dead_front s.row))
  number_is = dimension_is s v (freed_by s.row) (last_of (dead_front s.row)) (from_live s.row) (swept_front s.row ne)

  -- the numbers fit
  pub swept_dropping :
      Dropping s.settings.dimensions s.settings.cells (last_of (dead_front s.row)).cell (swept_number s) (swept_zeros s)
      (map (λ x. x.cell) (freed_by s.row))
  swept_dropping =
      rw number_is (dropping s (freed_by s.row) (last_of (dead_front s.row)) (from_live s.row) sound_before sound_after unowing_before)

  pub unowing_swept :
      picture (swept s)
      ≡ drop_front s.settings.dimensions (picture s) (last_of (dead_front s.row)).cell (swept_number s) (swept_path s) (swept_zeros s)
      (map (λ x. x.cell) (freed_by s.row))
  unowing_swept =
      let x = last_of (dead_front s.row) in
      let cells = map (λ y. y.cell) (freed_by s.row) in
      ap picture (unowing_after s unowing ne)
      ∙ dropped_words s (freed_by s.row) x (from_live s.row) sound_before sound_after unowing_before
      ∙ ap₂ (λ row number. drop_front s.settings.dimensions (picture (with_row s row)) x.cell number
      (path_for s.settings.base s.settings.dimensions row x.key) (swept_zeros s) cells)
      (sym (swept_front s.row ne)) (sym number_is)

-- Paid nodes

dead_front-paid : (row : List Node) → dead_front (map paid row) ≡ map paid (dead_front row)
unfolding dead_front
dead_front-paid [] = refl
dead_front-paid (x ∷ row) = at x.live (dead_front-paid row)
  where
    at : (t : Bool) → dead_front (map paid row) ≡ map paid (dead_front row) →
        cond t [] (paid x ∷ dead_front (map paid row)) ≡ map paid (cond t [] (x ∷ dead_front row))
    at true e = refl
    at false e = ap {B = List Node} (λ r. paid x ∷ r) e

from_live-paid : (row : List Node) → from_live (map paid row) ≡ map paid (from_live row)
unfolding from_live
from_live-paid [] = refl
from_live-paid (x ∷ row) = at x.live (from_live-paid row)
  where
    at : (t : Bool) → from_live (map paid row) ≡ map paid (from_live row) →
        cond t (paid x ∷ map paid row) (from_live (map paid row)) ≡ map paid (cond t (x ∷ row) (from_live row))
    at true e = refl
    at false e = e

last_of_paid : (row : List Node) → last_of (map paid row) ≡ paid (last_of row)
unfolding last_of
last_of_paid [] = refl
last_of_paid (x ∷ []) = refl
last_of_paid (x ∷ y ∷ row) = last_of_paid (y ∷ row)

last_alone-paid : (row : List Node) → last_alone (map paid row) ≡ map paid (last_alone row)
unfolding last_alone
last_alone-paid [] = refl
last_alone-paid (x ∷ []) = refl
last_alone-paid (x ∷ y ∷ row) = last_alone-paid (y ∷ row)

drop_last_paid : (row : List Node) → drop_last (map paid row) ≡ map paid (drop_last row)
drop_last_paid [] = refl
drop_last_paid (x ∷ []) = refl
drop_last_paid (x ∷ y ∷ row) = ap {B = List Node} (λ r. paid x ∷ r) (drop_last_paid (y ∷ row))

freed_by-paid : (row : List Node) → freed_by (map paid row) ≡ map paid (freed_by row)
unfolding freed_by
freed_by-paid row = ap drop_last (dead_front-paid row) ∙ drop_last_paid (dead_front row)

position_paid : (row : List Node) → last_of (dead_front (map paid row)) ≡ paid (last_of (dead_front row))
position_paid row = ap last_of (dead_front-paid row) ∙ last_of_paid (dead_front row)

kept_paid : (row : List Node) → kept_by (map paid row) ≡ map paid (kept_by row)
kept_paid row =
    ap₂ (λ last later. last ++ later) (ap last_alone (dead_front-paid row) ∙ last_alone-paid (dead_front row)) (from_live-paid row)
    ∙ sym (map-append paid (last_alone (dead_front row)) (from_live row))

freed_cells_paid : (row : List Node) → map (λ x. x.cell) (freed_by (map paid row)) ≡ map (λ x. x.cell) (freed_by row)
freed_cells_paid row = ap (map (λ x. x.cell)) (freed_by-paid row) ∙ cells_changed paid paid_all_keeping (freed_by row)

-- a sweep pays all: where all is paid before, it leaves the same
pub swept_paid : (s : State) → swept (with_row s (map paid s.row)) ≡ swept s
unfolding swept
swept_paid s =
    let row = ap (map paid) (kept_paid s.row) ∙ paid_unowing (map paid (kept_by s.row)) (paid_owes_nothing (kept_by s.row)) in
    let free = ap (λ cells. reverse_aux cells s.free) (freed_cells_paid s.row) in
    let position = ap (λ x. x.cell) (position_paid s.row) in
    λ i. record { settings = s.settings; row = row i; free = free i; position = position i }

-- Where it is the head: no node is before the first live one

front_none : (s : State) → Sound s → (last_of (dead_front s.row)).cell ≡ 0 → dead_front s.row ≡ []
front_none s v e = at (dead_front s.row) (front_all s v) e
  where
    at : (front : List Node) → All (λ x. (x.live ≡ false) × (0 < x.cell)) front → (last_of front).cell ≡ 0 → front ≡ []
    at [] a e = refl
    at (x ∷ front) a e =
        absurd (omega (
          arith,
          e,
          all_at (λ y. 0 < y.cell) (drop_last (x ∷ front)) (last_of (x ∷ front)) []
              (subst (All (λ y. 0 < y.cell)) (sym (last_split (x ∷ front)) ∙ ap (λ last. drop_last (x ∷ front) ++ last) (last_alone-is x front))
              (all_map (λ y h. h.1) (x ∷ front) a)),
        ))

-- then all keys are above the position's, so the position is the head
keys_above_lem : (key : ℕ) (row : List Node) → Asc 0 row → All (λ x. x.key ≤ key → x.live ≡ false) row → dead_front row ≡ [] → All (λ x. key < x.key) row
unfolding dead_front
keys_above_lem key [] asc dead e = tt
keys_above_lem key (x ∷ row) asc dead e = at x.live refl e
  where
    at : (t : Bool) → x.live ≡ t → cond t [] (x ∷ dead_front row) ≡ [] → All (λ y. key < y.key) (x ∷ row)
    at false l q = absurd (let z : ◌≡◌ {A = ℕ} 0 1 = cc in omega arith)
    at true l q =
        let above : key < x.key = lt_of_not-le (λ h. let d = dead.0 h in let z : ◌≡◌ {A = ℕ} 0 1 = cc in omega arith) in
        (above, all_map (λ y h. omega arith) row (asc_above x.key row asc.1))

position_none : (s : State) → Sound s → dead_front s.row ≡ [] → s.position ≡ 0
position_none s v e = at (position_cases s v)
  where
    at : (s.position ≡ 0) ⊎ Located s.position s.row → s.position ≡ 0
    at (inl head) = head
    at (inr found) =
        let above = keys_above_lem (position_key s) s.row v.ascends v.dead e in
        absurd (omega (
          arith,
          all_at (λ x. position_key s < x.key) found.front found.node found.later
              (subst (All (λ x. position_key s < x.key)) found.split above),
          position_node s v found,
        ))

-- all is paid, and nothing else changes
pub swept_stays : (s : State) → Sound s → (last_of (dead_front s.row)).cell ≡ 0 → swept s ≡ with_row s (map paid s.row)
unfolding swept freed_by last_alone
swept_stays s v e =
    let none = front_none s v e in
    let row : map paid (kept_by s.row) ≡ map paid s.row = ap (map paid)
    (sym (swept_split s.row ∙ ap (λ front. drop_last front ++ kept_by s.row) none)) in
    let free : reverse_aux (map (λ x. x.cell) (freed_by s.row)) s.free ≡ s.free =
    ap (λ front. reverse_aux (map (λ x. x.cell) (drop_last front)) s.free) none in
    let position : (last_of (dead_front s.row)).cell ≡ s.position = e ∙ sym (position_none s v none) in
    λ i. record { settings = s.settings; row = row i; free = free i; position = position i }
