-- One pair more. Its key is above all that stand, so the search would find the cell of the last key as the next smaller one and no larger
-- one: the parent is word p of the last key's path, p being what the two keys share, and no cell has the slot. So the words that the insert
-- leaves are those of the state with the pair, and the new path is the last one with the new cell from word p on.
use mathlib.Core.Path.{◌≡◌, refl, sym, ap, ap₂, ◌∙◌, subst}
use mathlib.Core.Bool.{Bool, true, false, cond}
use mathlib.Core.List.{List, [], ◌∷◌, ◌++◌}
use Prim.Native.Nat.{ℕ, suc, ◌-◌, ◌^◌, ◌<◌}
use native.Mathlib.Omega.{arith}
use lib.Dec.{eqb, leb}
use lib.ListN.{length, get_or}
use lib.Seq.{get_or-take}
use Rattle.settings.specs.Numbers.{base_of}
use Rattle.settings.specs.declared.Settings.{Settings}
use Rattle.lists.specs.Lists.{first_number, numbers_from}
use Rattle.files.specs.Files.{Pair, keeps}
use Rattle.meaning.specs.Keys.{shared}
use Rattle.meaning.specs.Row.{head_node, first_of}
use Rattle.meaning.specs.State.{State, position_key}
use Rattle.meaning.specs.Picture.{first_with, picture}
use Rattle.meaning.specs.Reading.{settings_at, read, is_list}
use Rattle.meaning.specs.Words.{owed_at}
use Rattle.meaning.specs.Operations.{looked, insert_out}
use Rattle.meaning.specs.Layer.Listed.{Listed}
use Rattle.meaning.specs.Layer.Paths.{path_for, onward}
use Rattle.calls.specs.Layer.ReadState.{nodes_from, read_state, last_key}
use Rattle.meaning.proofs.Pictures.State.{Sound, base_above}
use Rattle.meaning.proofs.Pictures.Picture.{picture_free}
use Rattle.meaning.proofs.Pictures.ReadBack.{read_of_picture, picture_is_list}
use Rattle.meaning.proofs.Paths.Path.{path_for-at}
use Rattle.meaning.proofs.Kept.KeepsState.{position_head}
use Rattle.calls.proofs.Restarted.ReadState.{read_state_sound, read_unowing, stands_unowing, next_pair}
use Rattle.calls.proofs.Restarted.ReadIn.{insert_last}
use Rattle.calls.proofs.Restarted.ReadInPath.{last_key_snoc, next_above, AboveAll, read_state_next, path_next}
use Rattle.search.specs.Found.{slot_number, slot_parent, slot_shared, slot_cell, found_at, found_of}
use Rattle.search.specs.declared.Found.{Found}
use Rattle.search.proofs.Slots.{found_missing}
use Rattle.paths.specs.declared.path.Path.{Path}
use Rattle.paths.specs.Paths.{path_of, Onward}
use Rattle.insert.specs.Inserting.{ComesLast}
use Rattle.read_file.specs.Putting.{Putting}

-- What the search would answer

-- of a key above all that stand: the cell of the last key is the next smaller, and none is the next larger
abbrev at_end : State → ℕ → ℕ → Found
at_end t last key =
    let b = t.settings.base in
    let D = t.settings.dimensions in
    let p = shared b D last key in
    record { standing = false; parent = first_with b D last (suc p) (head_node ∷ t.row); p = p; c = 0; q = 0; looked = looked t key }

found_at_end : (t : State) {last key : ℕ} → AboveAll t last key → found_of t key ≡ at_end t last key
unfolding found_of found_at
found_at_end t {last} {key} a =
    ap (found_at t key) a.absent
    ∙ λ i.
    record {
      standing = false;
      parent = parent i;
      p = number i;
      c = no_cell i;
      q = nothing i;
      looked = looked t key;
    }
  where
    parent : slot_parent t key ≡ (at_end t last key).parent
    parent = ap (λ l. (at_end t l key).parent) a.smaller

    number : slot_number t key ≡ (at_end t last key).p
    number = ap (λ l. (at_end t l key).p) a.smaller

    either : (r : Bool) → ◌≡◌ {A = ℕ} (cond r 0 0) 0
    either true = refl
    either false = refl

    no_cell : slot_cell t key ≡ 0
    no_cell =
        ap (λ row. cond (leb (slot_number t key) (slot_shared t key)) (first_of row).cell 0) a.none_above
        ∙ either (leb (slot_number t key) (slot_shared t key))

    nothing : cond (eqb (slot_cell t key) 0) 0 (slot_shared t key) ≡ 0
    nothing = ap (λ c. cond (eqb c 0) 0 (slot_shared t key)) no_cell

-- Words that have been given some pairs

-- are a list
pub state_listed :
    {ws : List ℕ} {s : Settings} (pairs : List Pair) → keeps s pairs ≡ true → s.base ≡ base_of s.dimensions s.largest →
    ws ≡ picture (read_state s pairs) → Listed ws s
state_listed {s = s} pairs kept base e =
    record { list = ap is_list e ∙ picture_is_list (read_state s pairs) (read_state_sound s pairs kept base); settings = ap settings_at e ∙ header }
  where
    header : settings_at (picture (read_state s pairs)) ≡ s
    header = unfold picture read_state in refl

module _ {ws : List ℕ} {s : Settings} {pairs : List Pair} {last : ℕ} {path : Path} (h : Putting ws s pairs last path) where
  state_sound : Sound (read_state s pairs)
  state_sound = read_state_sound s pairs h.kept h.base

  pub put_listed : Listed ws s
  put_listed = state_listed pairs h.kept h.base h.words

  -- word d of the path of the last key
  word_is : {d : ℕ} → d < s.dimensions → get_or path.cells d 0 ≡ first_with s.base s.dimensions last (suc d) (head_node ∷ nodes_from 1 pairs)
  word_is {d} l =
      sym (get_or-take path.used path.cells d 0 (omega (arith, h.used)))
      ∙ ap (λ words. get_or words d 0) h.path_is
      ∙ path_for-at s.base s.dimensions (nodes_from 1 pairs) last d l

  -- The next pair

  module _ (p : Pair) (more : keeps s (pairs ++ (p ∷ [])) ≡ true) where
    pub next_larger : last < p.key
    next_larger = omega (arith, h.last_is, next_above s pairs p more)

    pub next_fits : p.key < s.base ^ s.dimensions
    unfolding read_state
    next_fits = omega (arith, (next_pair s pairs p more).most, base_above (read_state s pairs) state_sound)

    -- its cell is the next one
    pub next_cell : get_or ws 4 0 ≡ suc (length pairs)
    unfolding read_state numbers_from
    next_cell =
        let n = suc (length pairs) in
        let some : s.cells - n ≡ suc (s.cells - suc n) = omega (arith, (next_pair s pairs p more).room) in
        ap (λ words. get_or words 4 0) h.words ∙ picture_free (read_state s pairs) ∙ ap (λ m. first_number (numbers_from n m)) some

    -- the slot, without a search
    module _ {i : ℕ} (e : i ≡ shared s.base s.dimensions last p.key) (l : i < s.dimensions) where
      abbrev t : State
      t = read_state s pairs

      abbrev found : Found
      found = at_end t last p.key

      found_is : found ≡ found_of (read ws) p.key
      found_is =
          let above = subst (λ k. AboveAll t k p.key) (sym h.last_is) (read_state_next s pairs p.key h.kept (next_above s pairs p more)) in
          sym (found_at_end t above) ∙ ap (λ u. found_of u p.key) (sym (ap read h.words ∙ read_of_picture t state_sound))

      -- its parent is word i of the path
      parent_is : found.parent ≡ get_or path.cells i 0
      unfolding read_state
      parent_is = sym (word_is l ∙ ap (λ d. first_with s.base s.dimensions last (suc d) (head_node ∷ nodes_from 1 pairs)) e)

      -- .. which owes nothing
      unowing : owed_at ws (get_or path.cells i 0) ≡ 0
      unowing =
          let same : found ≡ found_of t p.key = found_is ∙ ap (λ u. found_of u p.key) (ap read h.words ∙ read_of_picture t state_sound) in
          let stands = (found_missing state_sound (next_pair s pairs p more).positive same refl).parent_stands in
          ap₂ owed_at h.words (sym parent_is) ∙ stands_unowing t state_sound (read_unowing s pairs) found.parent stands

      -- and the position is the head
      above : position_key (read ws) < p.key
      unfolding read_state
      above =
          let head = ap position_key (ap read h.words ∙ read_of_picture t state_sound) ∙ position_head t refl in
          omega (arith, head, (next_pair s pairs p more).positive)

      pub next_last : ComesLast ws s p.key (get_or path.cells i 0) i
      unfolding read_state
      next_last =
          let n = next_pair s pairs p more in
          record {
            found = found;
            sought = record { list = put_listed; least = n.positive; most = n.most; is = found_is };
            missing = refl;
            parent_is = parent_is;
            p_is = sym e;
            none = refl;
            owes_nothing = unowing;
            above = above;
          }

      -- with the pair put
      pub next_put :
          {us : List ℕ} {r : Path} {n : ℕ} → us ≡ (insert_out ws p.key p.value).left → n ≡ get_or ws 4 0 → Onward path i n r →
          Putting us s (pairs ++ (p ∷ [])) p.key r
      next_put {us} {r} {n} out cell o =
          record {
            words = out ∙ ap (λ words. (insert_out words p.key p.value).left) h.words ∙ ap (λ o. o.left) (insert_last s pairs p more h.base);
            kept = more;
            base = h.base;
            last_is = sym (last_key_snoc 0 pairs p);
            path_is = o.way ∙ along ∙ sym (path_next s pairs p more h.base);
            used = o.used ∙ h.used;
          }
        where
          along : onward path.used (path_of path) i n
              ≡ onward s.dimensions (path_for s.base s.dimensions (nodes_from 1 pairs) (last_key 0 pairs))
              (shared s.base s.dimensions (last_key 0 pairs) p.key) (suc (length pairs))
          along =
              let b = s.base in
              let D = s.dimensions in
              let row = nodes_from 1 pairs in
              ap₂ (λ m words. onward m words i n) h.used h.path_is
              ∙ ap (λ d. onward D (path_for b D row last) d n) e
              ∙ ap (onward D (path_for b D row last) (shared b D last p.key)) (cell ∙ next_cell)
              ∙ ap (λ key. onward D (path_for b D row key) (shared b D key p.key) (suc (length pairs))) h.last_is
