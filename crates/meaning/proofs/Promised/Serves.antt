-- A cell freed by a sweep serves again: cells are counted, a sweep puts the freed ones first, and an insert uses the first.
use Rattle.std.specs.Prelude.{None, Some}
use mathlib.Core.Path.{◌≡◌, refl, ◌∙◌, sym, ap, subst}
use mathlib.Core.List.{List, map, reverse_aux}
use Prim.Native.Nat.{ℕ, suc, ◌+◌, ◌≤◌, ◌<◌}
use native.Mathlib.Omega.{arith}
use lib.ListN.{length, drop}
use Rattle.lists.specs.Lists.{occurrences, first_number}
use Rattle.lists.proofs.Occurrences.{occurrences_append, occurs_has}
use Rattle.lists.proofs.All.{All, all_at}
use Rattle.meaning.specs.Row.{Node, node_at}
use Rattle.meaning.specs.State.{State}
use Rattle.meaning.specs.Picture.{picture}
use Rattle.meaning.specs.Reading.{read}
use Rattle.answers.specs.Refusals.{Outcome, refused}
use Rattle.answers.specs.declared.Refusal.TheVariants.{BadKey, NoFreeCell}
use Rattle.meaning.specs.Operations.{sweep_out, insert_out, swept, freed_by, added, slot_for, slot_owes, new_node, finished, looked}
use Rattle.meaning.specs.Promises.{EachCellOnce, SweptCellsFirst, UsesFirst, InsertUsesFirst}
use Rattle.meaning.specs.Words.{cells_at}
use Rattle.meaning.proofs.Pictures.StateCells.{cells_cover}
use Rattle.meaning.proofs.Pictures.State.{Sound, cells_in}
use Rattle.meaning.proofs.Pictures.ReadBack.{read_of_picture}
use Rattle.meaning.proofs.Rows.Places.{node_found}
use Rattle.meaning.proofs.Rows.AscendingKeys.{member_past}
use Rattle.meaning.proofs.Kept.Slot.{gap, slot_is}
use Rattle.meaning.proofs.Kept.KeepsSweep.{swept_sound}
use Rattle.meaning.proofs.Kept.KeepsInsert.{added_sound, added_row}
use Rattle.meaning.proofs.Outcomes.{on_read_lists, sweep_outcome, insert_outcome_bad_key, insert_outcome_full, insert_outcome_new, key_cases, free_cases}

cell_once : (s : State) → Sound s → (x : ℕ) → 0 < x → x < s.settings.cells → occurrences x (map (λ e. e.cell) s.row) + occurrences x s.free ≡ 1
cell_once s v x h l =
    let there = member_past x 0 (cells_in s) (λ e. omega arith) (cells_cover s v x l) in
    sym (occurrences_append x (map (λ e. e.cell) s.row) s.free) ∙ occurs_has (λ c. occurrences c (cells_in s) ≡ 1) x (cells_in s) there v.once

pub each_cell_once : EachCellOnce
unfolding picture
each_cell_once =
    on_read_lists (λ s ws. (x : ℕ) → 0 < x → x < cells_at ws → occurrences x (map (λ e. e.cell) s.row) + occurrences x s.free ≡ 1) cell_once

pub swept_cells_first : SweptCellsFirst
unfolding swept
swept_cells_first =
    on_read_lists
    (λ s ws. (read (sweep_out ws).left).free ≡ reverse_aux (map (λ e. e.cell) (freed_by s.row)) s.free)
    (λ s v. ap (λ (o : Outcome (List ℕ)). (read o.left).free) (sweep_outcome s v) ∙ ap (λ (t : State). t.free) (read_of_picture (swept s) (swept_sound s v)))

-- the new cell of an insert
new_uses_first : (s : State) → Sound s → (key value : ℕ) → 1 ≤ key → key ≤ s.settings.largest → node_at key s.row ≡ None → 0 < length s.free →
    (e : Node) × (node_at key (added s key value (slot_for s key)).row ≡ Some e) × (e.cell ≡ first_number s.free)
new_uses_first s v key value h l a f =
    let g = gap key 0 s.row v.ascends a in
    let t = slot_for s key in
    let i = slot_is s v key h g f in
    let e = new_node t.n key value (slot_owes t) in
    let sound = added_sound s key value v h l a f in
    let found =
    all_at (λ x. node_at x.key (added s key value t).row ≡ Some x) (finished t.c (finished t.parent g.pre)) e
    (finished t.c (finished t.parent g.post))
    (subst (All (λ x. node_at x.key (added s key value t).row ≡ Some x)) (added_row s v key value h g f t i)
    (node_found 0 (added s key value t).row sound.ascends)) in
    (e, found, i.n_is)

-- an outcome that is a refusal is not accepted
pub refused_not : (o p : Outcome (List ℕ)) (n : ℕ) → o ≡ p → p.answered.refusal ≡ suc n → o.answered.refusal ≡ 0 → ⊥
refused_not o p n e q z = let t = ap (λ (w : Outcome (List ℕ)). w.answered.refusal) e in omega arith

-- an accepted insert of a key that does not stand has a key in range and a free cell
pub new_accepted : (s : State) → Sound s → (key value : ℕ) → node_at key s.row ≡ None → (insert_out (picture s) key value).answered.refusal ≡ 0 →
    (1 ≤ key) × (key ≤ s.settings.largest) × (0 < length s.free)
new_accepted s v key value a z =
    key_cases s key
    (λ n. absurd (refused_not (insert_out (picture s) key value) (refused BadKey (picture s)) 3 (insert_outcome_bad_key s v key value n) refl z))
    (λ h l b.
    free_cases s
    (λ f. absurd (refused_not (insert_out (picture s) key value) (refused (NoFreeCell key (looked s key)) (picture s)) 5
    (insert_outcome_full s v key value h l b f) refl z))
    (λ f. (h, l, f)))
    (λ h l x b. absurd (let q : ◌≡◌ {A = ℕ} 0 1 = cc in omega arith))

made_uses_first : (s : State) → Sound s → (key value : ℕ) → 1 ≤ key → key ≤ s.settings.largest → node_at key s.row ≡ None → 0 < length s.free →
    UsesFirst (picture s) (insert_out (picture s) key value).left key
unfolding added
made_uses_first s v key value h l a f =
    let new = new_uses_first s v key value h l a f in
    let t = added s key value (slot_for s key) in
    let back : read (insert_out (picture s) key value).left ≡ t =
    ap (λ (o : Outcome (List ℕ)). read o.left) (insert_outcome_new s v key value h l a f) ∙ read_of_picture t (added_sound s key value v h l a f) in
    record {
      node = new.0;
      stands = ap (λ (w : State). node_at key w.row) back ∙ new.1;
      cell = new.2 ∙ ap (λ (w : State). first_number w.free) (sym (read_of_picture s v));
      free = ap (λ (w : State). w.free) back ∙ ap (λ (w : State). drop 1 w.free) (sym (read_of_picture s v));
    }

uses_first : (s : State) → Sound s → (key value : ℕ) → node_at key s.row ≡ None → (insert_out (picture s) key value).answered.refusal ≡ 0 →
    UsesFirst (picture s) (insert_out (picture s) key value).left key
uses_first s v key value a z = let (h, l, f) = new_accepted s v key value a z in made_uses_first s v key value h l a f

pub insert_uses_first : InsertUsesFirst
insert_uses_first =
    on_read_lists
    (λ s ws. (key value : ℕ) → node_at key s.row ≡ None → (insert_out ws key value).answered.refusal ≡ 0 → UsesFirst ws (insert_out ws key value).left key)
    uses_first
