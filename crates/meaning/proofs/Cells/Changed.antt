-- The picture of a state in which nodes change and keep their cells and keys, word by word. Places stay where they are; the words of
-- a cell follow from its place, from the values, marks and debts after the change, and from nothing else; and the path follows from the
-- position, the cells and the keys.
use Rattle.std.specs.Prelude.{Option, None, Some}
use mathlib.Core.Path.{◌≡◌, refl, sym, ap, ap₂, ◌∙◌, fun_ext}
use mathlib.Core.Bool.{Bool, true, false, cond, ◌&&◌}
use mathlib.Core.List.{List, [], ◌∷◌, map}
use Prim.Native.Nat.{ℕ, zero, suc, ◌+◌, ◌<◌}
use native.Mathlib.Omega.{arith}
use lib.Dec.{eqb, leb}
use lib.ListN.{length, get_or}
use Rattle.settings.specs.Numbers.{header_words, cell_words}
use Rattle.lists.specs.Lists.{numbers_from}
use Rattle.meaning.specs.Keys.{shared}
use Rattle.meaning.specs.Row.{Node, head_node, first_of, first_sharing, Place, place_of, settled_link, between, link}
use Rattle.meaning.specs.State.{State, key_of, position_key, places_of}
use Rattle.meaning.specs.Picture.{mark, standing_words, words_of, first_with, path_word, path, picture}
use Rattle.meaning.specs.Words.{link_field}
use Rattle.meaning.proofs.Pictures.Picture.{shown_words, picture_word, picture_path, path_word_lem}
use Rattle.meaning.proofs.Rows.Places.{Keeping, changed_place, cells_changed, keys_changed, first_of_changed, places_changed}
use Rattle.meaning.proofs.Cells.WalkRead.{words_link}
use Rattle.meaning.proofs.Cells.Placed.{Placed}
use Rattle.meaning.proofs.Kept.KeepsState.{changed_state}
use Rattle.meaning.proofs.Cells.Stores.{word_in}

-- The path

-- rows that have, node by node, the same cells and keys
pub first_same : (b D key n : ℕ) (row other : List Node) → map (λ x. x.cell) row ≡ map (λ x. x.cell) other →
    map (λ x. x.key) row ≡ map (λ x. x.key) other → first_with b D key n row ≡ first_with b D key n other
unfolding first_with
first_same b D key n [] [] c k = refl
first_same b D key n [] (y ∷ other) c k = absurd (let l = ap length c in omega arith)
first_same b D key n (x ∷ row) [] c k = absurd (let l = ap length c in omega arith)
first_same b D key n (x ∷ row) (y ∷ other) c k =
    let cell : x.cell ≡ y.cell = cc in
    let key' : x.key ≡ y.key = cc in
    rw (cell, key', first_same b D key n row other (cc) (cc)) refl

pub key_of_same_rows : (c : ℕ) (row other : List Node) → map (λ x. x.cell) row ≡ map (λ x. x.cell) other →
    map (λ x. x.key) row ≡ map (λ x. x.key) other → key_of c row ≡ key_of c other
unfolding key_of
key_of_same_rows c [] [] e k = refl
key_of_same_rows c [] (y ∷ other) e k = absurd (let l = ap length e in omega arith)
key_of_same_rows c (x ∷ row) [] e k = absurd (let l = ap length e in omega arith)
key_of_same_rows c (x ∷ row) (y ∷ other) e k =
    let cell : x.cell ≡ y.cell = cc in
    let key : x.key ≡ y.key = cc in
    rw (cell, key, key_of_same_rows c row other (cc) (cc)) refl

module _ (s t : State) (settings : s.settings ≡ t.settings) (position : s.position ≡ t.position)
    (cells : map (λ x. x.cell) s.row ≡ map (λ x. x.cell) t.row) (keys : map (λ x. x.key) s.row ≡ map (λ x. x.key) t.row) where
  pub path_word-unmoved : (d : ℕ) → path_word s d ≡ path_word t d
  path_word-unmoved d =
      let key : position_key s ≡ position_key t =
      ap (λ c. key_of c (head_node ∷ s.row)) position
      ∙ key_of_same_rows t.position (head_node ∷ s.row) (head_node ∷ t.row) (ap {B = List ℕ} (λ cs. 0 ∷ cs) cells) (ap {B = List ℕ} (λ ks. 0 ∷ ks) keys) in
      ap₂ (λ r k. first_with r.base r.dimensions k (suc d) (head_node ∷ s.row)) settings key
      ∙ first_same t.settings.base t.settings.dimensions (position_key t) (suc d) (head_node ∷ s.row) (head_node ∷ t.row)
      (ap {B = List ℕ} (λ cs. 0 ∷ cs) cells) (ap {B = List ℕ} (λ ks. 0 ∷ ks) keys)

  -- the position, the cells and the keys give the path
  pub path_unmoved : path s ≡ path t
  unfolding path
  path_unmoved = ap₂ (λ (word : ℕ → ℕ) r. map word (numbers_from 0 r.dimensions)) (fun_ext path_word-unmoved) settings

-- word d of the path
pub picture_path_word : (s : State) (d : ℕ) → d < s.settings.dimensions → get_or (picture s) (header_words + d) 0 ≡ get_or (path s) d 0
picture_path_word s d h = picture_path s d h ∙ sym (path_word_lem s d h)

-- The words of a place with other debts

-- link d, if the cell before owes or not and the cell itself owes or not
abbrev pub link_by : ℕ → ℕ → Bool → Bool → Place → ℕ → ℕ
link_by b D beforeOwes owes q d =
    cond (beforeOwes && between q.before_dimension q.dimension d)
    (first_sharing b D q.before.key d (q.node ∷ q.later))
    (cond (owes && between (cond owes q.dimension 0) (cond owes (shared b D q.node.key (first_of q.later).key) 0) d) 0 (settled_link b D q d))

-- the words of a place with a value and a mark
unfoldable pub words_by : ℕ → ℕ → ℕ → Bool → Bool → Bool → Place → List ℕ
words_by b D value live beforeOwes owes q =
    q.node.key ∷ value ∷ mark live
    ∷ cond owes (first_of q.later).cell 0 ∷ cond owes q.dimension 0 ∷ cond owes (shared b D q.node.key (first_of q.later).key) 0
    ∷ map (link_by b D beforeOwes owes q) (numbers_from 0 D)

pub standing_by : (b D : ℕ) (q : Place) → standing_words b D q ≡ words_by b D q.node.value q.node.live q.before.owes q.node.owes q
unfolding standing_words words_by link
standing_by b D q = refl

-- its first six
abbrev six_by : ℕ → ℕ → ℕ → Bool → Bool → Place → List ℕ
six_by b D value live owes q =
    q.node.key ∷ value ∷ mark live
    ∷ cond owes (first_of q.later).cell 0 ∷ cond owes q.dimension 0 ∷ cond owes (shared b D q.node.key (first_of q.later).key) 0 ∷ []

pub by_link : (b D value : ℕ) (live beforeOwes owes : Bool) (q : Place) (d : ℕ) → d < D →
    get_or (words_by b D value live beforeOwes owes q) (link_field d) 0 ≡ link_by b D beforeOwes owes q d
unfolding words_by
by_link b D value live beforeOwes owes q d h = words_link (six_by b D value live owes q) refl D (link_by b D beforeOwes owes q) d h

-- Changed nodes

module _ (f : Node → Node) (keeping : Keeping f) where
  sharing_changed : (b D key d : ℕ) (row : List Node) → first_sharing b D key d (map f row) ≡ first_sharing b D key d row
  unfolding first_sharing
  sharing_changed b D key d [] = refl
  sharing_changed b D key d (x ∷ row) = rw (keeping.key x, keeping.cell x, sharing_changed b D key d row) refl

  first_key : (row : List Node) → (first_of (map f row)).key ≡ (first_of row).key
  first_key row = ap (λ x. x.key) (first_of_changed f keeping row) ∙ keeping.key (first_of row)

  first_cell : (row : List Node) → (first_of (map f row)).cell ≡ (first_of row).cell
  first_cell row = ap (λ x. x.cell) (first_of_changed f keeping row) ∙ keeping.cell (first_of row)

  link_by-changed : (b D : ℕ) (beforeOwes owes : Bool) (q : Place) (d : ℕ) → link_by b D beforeOwes owes (changed_place f q) d ≡ link_by b D beforeOwes owes q d
  link_by-changed b D beforeOwes owes q d = λ i.
      cond (beforeOwes && between q.before_dimension q.dimension d)
      ((ap (λ k. first_sharing b D k d (f q.node ∷ map f q.later)) (keeping.key q.before)
      ∙ sharing_changed b D q.before.key d (q.node ∷ q.later)) i)
      (cond (owes && between (cond owes q.dimension 0) (cond owes (shared b D (keeping.key q.node i) (first_key q.later i)) 0) d) 0
      (cond (leb q.dimension d) ((ap (λ k. first_sharing b D k d (map f q.later)) (keeping.key q.node)
      ∙ sharing_changed b D q.node.key d q.later) i) 0))

  -- the words of a changed place are those of the place, with the debts after the change
  words_by-changed : (b D value : ℕ) (live beforeOwes owes : Bool) (q : Place) →
      words_by b D value live beforeOwes owes (changed_place f q) ≡ words_by b D value live beforeOwes owes q
  unfolding words_by
  words_by-changed b D value live beforeOwes owes q = λ i.
      keeping.key q.node i ∷ value ∷ mark live
      ∷ cond owes (first_cell q.later i) 0 ∷ cond owes q.dimension 0 ∷ cond owes (shared b D (keeping.key q.node i) (first_key q.later i)) 0
      ∷ map (fun_ext (link_by-changed b D beforeOwes owes q) i) (numbers_from 0 D)

  found_changed : Option Place → Option Place
  found_changed None = None
  found_changed (Some q) = Some (changed_place f q)

  place_of-changed : (x : ℕ) (ps : List Place) → place_of x (map (changed_place f) ps) ≡ found_changed (place_of x ps)
  unfolding place_of found_changed
  place_of-changed x [] = refl
  place_of-changed x (p ∷ ps) =
      ap (λ c. cond (eqb c x) (Some (changed_place f p)) (place_of x (map (changed_place f) ps))) (keeping.cell p.node)
      ∙ at (eqb p.node.cell x) (place_of-changed x ps)
    where
      at : (t : Bool) → place_of x (map (changed_place f) ps) ≡ found_changed (place_of x ps) →
          cond t (Some (changed_place f p)) (place_of x (map (changed_place f) ps)) ≡ found_changed (cond t (Some p) (place_of x ps))
      at true e = refl
      at false e = e

-- The words of a cell in a picture

pub picture_place : (s : State) (x j : ℕ) → x < s.settings.cells → j < cell_words s.settings.dimensions →
    word_in s.settings.dimensions (picture s) x j ≡ get_or (shown_words s x) j 0
unfolding picture
picture_place s x j h k = picture_word s x j h k

-- of a standing cell
pub placed_word : (s : State) {x : ℕ} {q : Place} → Placed s x q → (j : ℕ) → x < s.settings.cells → j < cell_words s.settings.dimensions →
    word_in s.settings.dimensions (picture s) x j
    ≡ get_or (words_by s.settings.base s.settings.dimensions q.node.value q.node.live q.before.owes q.node.owes q) j 0
unfolding words_of
placed_word s {x} {q} here j h k =
    picture_place s x j h k
    ∙ ap (λ o. get_or (words_of s.settings.base s.settings.dimensions s.free x o) j 0) here.found
    ∙ ap (λ ws. get_or ws j 0) (standing_by s.settings.base s.settings.dimensions q)

module _ (s : State) (f : Node → Node) (keeping : Keeping f) (position : ℕ) where
  changed_found : (x : ℕ) → place_of x (places_of (changed_state s f position) (changed_state s f position).row)
      ≡ found_changed f keeping (place_of x (places_of s s.row))
  changed_found x =
      ap (place_of x) (places_changed f keeping s.settings.base s.settings.dimensions s.row) ∙ place_of-changed f keeping x (places_of s s.row)

  pub changed_placed : {x : ℕ} {q : Place} → Placed s x q → Placed (changed_state s f position) x (changed_place f q)
  unfolding found_changed
  changed_placed {x} here = record { found = changed_found x ∙ ap (found_changed f keeping) here.found }

  -- a standing cell's words after the change
  pub changed_word : {x : ℕ} {q : Place} → Placed s x q → (j : ℕ) → x < s.settings.cells → j < cell_words s.settings.dimensions →
      word_in s.settings.dimensions (picture (changed_state s f position)) x j
      ≡ get_or (words_by s.settings.base s.settings.dimensions (f q.node).value (f q.node).live (f q.before).owes (f q.node).owes q) j 0
  changed_word {x} {q} here j h k =
      placed_word (changed_state s f position) (changed_placed here) j h k
      ∙ ap (λ ws. get_or ws j 0)
      (words_by-changed f keeping s.settings.base s.settings.dimensions (f q.node).value (f q.node).live (f q.before).owes
      (f q.node).owes q)

  -- a free cell's, the header and the path are as before
  pub changed_free : (x : ℕ) → place_of x (places_of s s.row) ≡ None → (j : ℕ) → x < s.settings.cells → j < cell_words s.settings.dimensions →
      word_in s.settings.dimensions (picture (changed_state s f position)) x j ≡ word_in s.settings.dimensions (picture s) x j
  unfolding found_changed
  changed_free x e j h k =
      let b = s.settings.base in
      let D = s.settings.dimensions in
      picture_place (changed_state s f position) x j h k
      ∙ ap (λ o. get_or (words_of b D s.free x o) j 0) (changed_found x ∙ ap (found_changed f keeping) e ∙ sym e)
      ∙ sym (picture_place s x j h k)

  pub changed_header : (i : ℕ) → i < header_words → get_or (picture (changed_state s f position)) i 0 ≡ get_or (picture s) i 0
  unfolding picture
  changed_header zero h = refl
  changed_header (suc zero) h = refl
  changed_header (suc (suc zero)) h = refl
  changed_header (suc (suc (suc zero))) h = refl
  changed_header (suc (suc (suc (suc zero)))) h = refl
  changed_header (suc (suc (suc (suc (suc i))))) h = absurd (omega arith)

-- while the position stays
pub changed_path : (s : State) (f : Node → Node) (keeping : Keeping f) (d : ℕ) → d < s.settings.dimensions →
    get_or (picture (changed_state s f s.position)) (header_words + d) 0 ≡ get_or (picture s) (header_words + d) 0
changed_path s f keeping d h =
    let after = changed_state s f s.position in
    picture_path after d h
    ∙ path_word-unmoved after s refl refl (cells_changed f keeping s.row) (keys_changed f keeping s.row) d
    ∙ sym (picture_path s d h)
