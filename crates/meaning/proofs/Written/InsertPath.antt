-- The path after an insert of a key that does not stand. A key above the position's leaves it: the node before the key is not below the
-- position, so it shares with the position at least what the new node shares, and comes earlier. A key up to the position's makes the
-- parent the position.
use mathlib.Core.Path.{◌≡◌, refl, sym, ◌∙◌, ap, subst, fun_ext}
use mathlib.Core.List.{List, [], ◌∷◌, ◌++◌, map}
use Prim.Native.Nat.{ℕ, suc, ◌≤◌, ◌<◌}
use native.Mathlib.Omega.{arith}
use native.Mathlib.Decide.{dec_lt}
use Rattle.lists.specs.Lists.{numbers_from}
use Rattle.lists.proofs.All.{All, all_map, all_append}
use Rattle.meaning.specs.Keys.{shared}
use Rattle.meaning.specs.Row.{Node, head_node}
use Rattle.meaning.specs.State.{State, key_of, position_key}
use Rattle.meaning.specs.Picture.{first_with, path_word, path}
use Rattle.meaning.proofs.Rows.AscendingRow.{Asc}
use Rattle.meaning.proofs.Rows.Keys.{shared_sym, ultra}
use Rattle.meaning.proofs.Pictures.State.{Sound, base_positive}
use Rattle.meaning.proofs.Rows.Places.{asc_left, last_from, key_of_put}
use Rattle.meaning.proofs.Rows.Parent.{Without, last_greatest, first_skips, first_front}
use Rattle.meaning.proofs.Kept.Slot.{Gap, gap_last}
use Rattle.meaning.proofs.Cells.Placed.{placed_node, placed_cell, placed_key_of, position_placed}
use Rattle.meaning.proofs.Written.InsertPut.{with_new}

-- one that shares too little is passed over
first_passes : (b D key n : ℕ) (x : Node) (pre post : List Node) → shared b D x.key key < n →
    first_with b D key n (pre ++ x ∷ post) ≡ first_with b D key n (pre ++ post)
unfolding first_with
first_passes b D key n x [] post h = first_skips b D key n x post h
first_passes b D key n x (y ∷ pre) post h = rw (first_passes b D key n x pre post h) refl

module _ (s : State) (v : Sound s) (x : Node) (g : Gap x.key s.row) (new : Without x.cell (head_node ∷ s.row)) (above : position_key s < x.key) where
  abbrev b : ℕ
  b = s.settings.base

  abbrev D : ℕ
  D = s.settings.dimensions

  abbrev last : Node
  last = last_from head_node g.pre

  last_below_lem : last.key < x.key
  last_below_lem = gap_last (omega (arith, above)) g

  -- the node before the new one is not below the position
  position_least : position_key s ≤ last.key
  position_least =
      let (p, here) = position_placed v in
      let is = placed_key_of here in
      let up_to_lem =
      placed_node here (λ y. y.key < x.key → y.key ≤ last.key) (λ h. omega arith)
      (subst (All (λ y. y.key < x.key → y.key ≤ last.key)) (sym g.splits)
      (all_append (λ y. y.key < x.key → y.key ≤ last.key) g.pre g.post
      (all_map (λ y h l. h) g.pre (last_greatest head_node g.pre (asc_left 0 g.pre g.post (subst (Asc 0) g.splits v.ascends))))
      (all_map (λ y h l. absurd (omega arith)) g.post g.above))) in
      omega (arith, is, above, up_to_lem (omega arith))

  position_other : x.cell ≡ s.position → ⊥
  position_other e =
      let (p, here) = position_placed v in
      placed_node here (λ y. y.cell ≡ x.cell → ⊥) new.0 new.1 (placed_cell here ∙ sym e)

  put_key_lem : position_key (with_new s g.pre x g.post s.position) ≡ position_key s
  put_key_lem = key_of_put s.position x (head_node ∷ g.pre) g.post position_other ∙ ap (λ r. key_of s.position (head_node ∷ r)) (sym g.splits)

  put_word : (d : ℕ) → path_word (with_new s g.pre x g.post s.position) d ≡ path_word s d
  put_word d =
      ap (λ k. first_with b D k (suc d) (head_node ∷ (g.pre ++ x ∷ g.post))) put_key_lem
      ∙ at (dec_lt (shared b D x.key key) (suc d))
      ∙ ap (λ r. first_with b D key (suc d) (head_node ∷ r)) (sym g.splits)
    where
      key : ℕ
      key = position_key s

      at : Dec (shared b D x.key key < suc d) → first_with b D key (suc d) (head_node ∷ (g.pre ++ x ∷ g.post))
          ≡ first_with b D key (suc d) (head_node ∷ (g.pre ++ g.post))
      at (yes h) = first_passes b D key (suc d) x (head_node ∷ g.pre) g.post h
      at (no h) =
          let u = ultra b D key last.key x.key (base_positive s v) position_least (omega (arith, last_below_lem)) in
          let enough : suc d ≤ shared b D last.key key = omega (arith, u, h, shared_sym b D key x.key, shared_sym b D key last.key) in
          first_front b D key (suc d) head_node g.pre (x ∷ g.post) enough ∙ sym (first_front b D key (suc d) head_node g.pre g.post enough)

  pub put_path : path (with_new s g.pre x g.post s.position) ≡ path s
  unfolding path
  put_path = ap (λ (word : ℕ → ℕ). map word (numbers_from 0 D)) (fun_ext put_word)
