-- Which cells of a picture stand, which are free, and the words of each. A standing cell has one place, whose words it has; every other
-- cell is met once by the free chain, because the head, the cells of the row and those of the chain are all the numbers below C. So a
-- buffer that has the words of each place and of each free cell is the picture.
use Rattle.std.specs.Prelude.{Option, None, Some}
use mathlib.Core.Path.{◌≡◌, refl, sym, ap, ◌∙◌, subst}
use mathlib.Core.Bool.{Bool, true, false, cond}
use mathlib.Core.List.{List, [], ◌∷◌, map}
use mathlib.Core.Logic.{◌⊎◌, inl, inr}
use Prim.Native.Nat.{ℕ, zero, suc, ◌+◌, ◌≤◌, ◌<◌}
use native.Mathlib.Decide.{ℕ_discrete}
use native.Mathlib.Omega.{arith}
use lib.ListN.{length, get_or}
use Rattle.settings.specs.Numbers.{cell_words, header_words, fields_before_links, length_of}
use Rattle.lists.specs.Lists.{occurrences, first_number}
use Rattle.lists.proofs.Occurrences.{occurrences_past, occurrences_append, occurrences_more, occurs_has}
use Rattle.lists.proofs.All.{All, all_map, all_append, all_right, all_each, all_zip, all_mapped}
use Rattle.meaning.specs.Keys.{coordinate, shared}
use Rattle.meaning.specs.Row.{Node, head_node, Place, head_place, places_after, places, owed, low, high, link, place_of, first_of, node_at}
use Rattle.meaning.specs.State.{State, key_of, places_of}
use Rattle.meaning.specs.Picture.{mark, standing_words, next_free, free_words, words_of, picture, path_word}
use Rattle.meaning.specs.Words.{word_at, key_at, value_at, mark_at, owed_at, low_at, high_at, coordinate_at, link_at, dimensions_at, cells_at, base_at, first_free_at}
use Rattle.meaning.specs.Sentences.{Free, Standing}
use Rattle.meaning.specs.Writes.{OwesNothing}
use Rattle.meaning.specs.Reading.{settings_at}
use Rattle.meaning.proofs.Pictures.State.{Sound, cells_in}
use Rattle.meaning.proofs.Rows.AscendingRow.{asc_above}
use Rattle.meaning.proofs.Pictures.StateCells.{row_range, free_range, cells_cover}
use Rattle.meaning.proofs.Pictures.Picture.{picture_word, place_here, place_past, Told, told, places_cells, free_found, free_words-rest, shown_words}
use Rattle.meaning.proofs.Pictures.Picture.{picture_path, place_found}
use Rattle.meaning.proofs.Rows.Places.{key_of_same, key_of_other, node_found, nodes_passed}
use Rattle.meaning.proofs.Cells.WalkRead.{Held, all_places, places_held, standing_word, standing_link}
use Rattle.meaning.proofs.Cells.Stores.{picture_exact, field_cases, words_equal}

-- Cells and places

-- a cell for which no place is found is the cell of none
pub unfound_none : (c : ℕ) (ps : List Place) → place_of c ps ≡ None → occurrences c (map (λ p. p.node.cell) ps) ≡ 0
unfolding occurrences place_of
unfound_none c [] e = refl
unfound_none c (p ∷ ps) e = at (ℕ_discrete p.node.cell c) (unfound_none c ps)
  where
    at : Dec (p.node.cell ≡ c) → (place_of c ps ≡ None → occurrences c (map (λ q. q.node.cell) ps) ≡ 0) →
        occurrences c (map (λ q. q.node.cell) (p ∷ ps)) ≡ 0
    at (yes q) more = absurd (let f = place_here c p ps q in let z : ◌≡◌ {A = ℕ} 0 1 = cc in omega arith)
    at (no ne) more = occurrences_past c p.node.cell (map (λ q. q.node.cell) ps) ne ∙ more (sym (place_past c p ps ne) ∙ e)

-- the key of a cell is that of its place, in the part of a row after a node
key_of_after : (b D c : ℕ) (a : Node) (e : ℕ) (row : List Node) (p : Place) → place_of c (places_after b D a e row) ≡ Some p → key_of c row ≡ p.node.key
unfolding places_after place_of
key_of_after b D c a e [] p f = absurd (let z : ◌≡◌ {A = ℕ} 0 1 = cc in omega arith)
key_of_after b D c a e (x ∷ row) p f = at (ℕ_discrete x.cell c) (key_of_after b D c x (shared b D a.key x.key) row p)
  where
    here : Place
    here = record { node = x; dimension = shared b D a.key x.key; before = a; before_dimension = e; later = row }

    more : List Place
    more = places_after b D x (shared b D a.key x.key) row

    at : Dec (x.cell ≡ c) → (place_of c more ≡ Some p → key_of c row ≡ p.node.key) → key_of c (x ∷ row) ≡ p.node.key
    at (yes q) rest =
        let g = place_here c here more q in
        let same : here ≡ p = cc in
        key_of_same c x row q ∙ ap (λ r. r.node.key) same
    at (no ne) rest = key_of_other c x row ne ∙ rest (sym (place_past c here more ne) ∙ f)

-- cell x of a state stands, in place p
pub record Placed (s : State) (x : ℕ) (p : Place) : Type 0 where
  pub found : place_of x (places_of s s.row) ≡ Some p

-- p is the place of its cell
abbrev pub Own : State → Place → Type 0
Own s p = Placed s p.node.cell p

module _ {s : State} {x : ℕ} {p : Place} (here : Placed s x p) where
  placed_told : (P : Place → Type 0) → All P (places_of s s.row) → (p.node.cell ≡ x) × P p
  placed_told P a = subst (Told P x) here.found (told P x (places_of s s.row) a)

  pub placed_has : (P : Place → Type 0) → All P (places_of s s.row) → P p
  placed_has P a = (placed_told P a).1

  -- what holds of the head and of every node of the row
  pub placed_node : (P : Node → Type 0) → P head_node → All P s.row → P p.node
  placed_node P head row = placed_has (λ q. P q.node) (all_places P s.settings.base s.settings.dimensions s.row head row)

  pub placed_cell : p.node.cell ≡ x
  placed_cell = (placed_told (λ q. Unit {0}) (all_each (λ q. tt) (places_of s s.row))).0

  pub placed_key_of : key_of x (head_node ∷ s.row) ≡ p.node.key
  unfolding places
  placed_key_of = at (ℕ_discrete 0 x)
    where
      b : ℕ
      b = s.settings.base

      D : ℕ
      D = s.settings.dimensions

      after : List Place
      after = places_after b D head_node 0 s.row

      at : Dec (0 ≡ x) → key_of x (head_node ∷ s.row) ≡ p.node.key
      at (yes e) =
          let f = here.found in
          let g = place_here x (head_place s.row) after e in
          let same : head_place s.row ≡ p = cc in
          key_of_same x head_node s.row e ∙ ap (λ q. q.node.key) same
      at (no ne) =
          key_of_other x head_node s.row ne
          ∙ key_of_after b D x head_node 0 s.row p (sym (place_past x (head_place s.row) after ne) ∙ here.found)

pub head_placed : (s : State) → Placed s 0 (head_place s.row)
unfolding places
head_placed s = record { found = place_here 0 (head_place s.row) (places_after s.settings.base s.settings.dimensions head_node 0 s.row) refl }

-- a cell that is the head or in the row has a place
pub occurs_placed : (s : State) (x : ℕ) → 0 < occurrences x (0 ∷ map (λ y. y.cell) s.row) → (p : Place) × Placed s x p
occurs_placed s x h = at (place_of x (places_of s s.row)) refl
  where
    at : (o : Option Place) → place_of x (places_of s s.row) ≡ o → (p : Place) × Placed s x p
    at None e =
        let cells = ap (occurrences x) (places_cells s.settings.base s.settings.dimensions s.row) in
        absurd (omega (arith, h, cells, unfound_none x (places_of s s.row) e))
    at (Some p) e = (p, record { found = e })

-- The words of a standing cell

-- mark 1 is that of a live cell
pub mark_one : (live : Bool) → mark live ≡ 1 → live ≡ true
mark_one true e = refl
mark_one false e = absurd (omega arith)

pub mark_other : (live : Bool) → (mark live ≡ 1 → ⊥) → live ≡ false
mark_other true n = absurd (n refl)
mark_other false n = refl

module _ {s : State} (v : Sound s) {x : ℕ} {p : Place} (here : Placed s x p) where
  pub placed_below : x < s.settings.cells
  placed_below =
      let least = v.ranges.cells_least in
      let below = placed_node here (λ y. y.cell < s.settings.cells) (omega arith) (all_map (λ y r. r.1) s.row (row_range s v)) in
      omega (arith, placed_cell here)

  -- its key is one of the list's, and 0 exactly if it is the head
  pub placed_most : p.node.key ≤ s.settings.largest
  placed_most = placed_node here (λ y. y.key ≤ s.settings.largest) (omega arith) v.keys

  pub placed_above : 0 < x → 0 < p.node.key
  placed_above h =
      placed_node here (λ y. 0 < y.cell → 0 < y.key) (λ l. l) (all_map (λ y l c. l) s.row (asc_above 0 s.row v.ascends))
      (rw (placed_cell here) h)

  pub placed_other : 0 < p.node.key → 0 < x
  placed_other h =
      let own = placed_cell here in
      let other = placed_node here (λ y. 0 < y.key → 0 < y.cell) (λ l. l) (all_map (λ y r l. r.0) s.row (row_range s v)) h in
      omega arith

  -- it is the node with its key, and what stands at a larger key stands after it
  pub placed_at : 0 < p.node.key → node_at p.node.key s.row ≡ Some p.node
  placed_at =
      placed_node here (λ y. 0 < y.key → node_at y.key s.row ≡ Some y) (λ h. absurd (omega arith))
      (all_map (λ y e h. e) s.row (node_found 0 s.row v.ascends))

  pub placed_passed : (k : ℕ) → p.node.key < k → node_at k s.row ≡ node_at k p.later
  unfolding places
  placed_passed k =
      placed_has here (λ q. q.node.key < k → node_at k s.row ≡ node_at k q.later)
      ((λ h. refl), nodes_passed s.settings.base s.settings.dimensions k s.row head_node 0 s.row (λ h. refl) v.ascends)

  pub place_word : (j : ℕ) → j < cell_words s.settings.dimensions →
      word_at (picture s) x j ≡ get_or (standing_words s.settings.base s.settings.dimensions p) j 0
  place_word = standing_word s x p placed_below here.found

  pub place_key : key_at (picture s) x ≡ p.node.key
  unfolding standing_words
  place_key = place_word 0 (omega arith)

  pub place_value : value_at (picture s) x ≡ p.node.value
  unfolding standing_words
  place_value = place_word 1 (omega arith)

  pub place_mark : mark_at (picture s) x ≡ mark p.node.live
  unfolding standing_words
  place_mark = place_word 2 (omega arith)

  pub place_owed : owed_at (picture s) x ≡ owed p
  unfolding standing_words
  place_owed = place_word 3 (omega arith)

  pub place_low : low_at (picture s) x ≡ low p
  unfolding standing_words
  place_low = place_word 4 (omega arith)

  pub place_high : high_at (picture s) x ≡ high s.settings.base s.settings.dimensions p
  unfolding standing_words
  place_high = place_word 5 (omega arith)

  -- Debts 4
  pub place_unowing : p.node.owes ≡ false → OwesNothing (picture s) x
  place_unowing e = (
    place_owed ∙ ap (λ t. cond t (first_of p.later).cell 0) e,
    place_low ∙ ap (λ t. cond t p.dimension 0) e,
    place_high ∙ ap (λ t. cond t (shared s.settings.base s.settings.dimensions p.node.key (first_of p.later).key) 0) e,
  )

  held : Held (picture s) s.settings.base s.settings.dimensions p
  held = placed_has here (Held (picture s) s.settings.base s.settings.dimensions) (places_held s v)

  pub place_coordinate : (d : ℕ) → coordinate_at (picture s) x d ≡ coordinate s.settings.base s.settings.dimensions p.node.key d
  unfolding picture
  place_coordinate d = ap (λ k. coordinate s.settings.base s.settings.dimensions k d) place_key

  pub place_link : (d : ℕ) → d < s.settings.dimensions → link_at (picture s) x d ≡ link s.settings.base s.settings.dimensions p d
  place_link d h = ap (λ c. link_at (picture s) c d) (sym (placed_cell here)) ∙ held.link d h

  pub place_standing : Standing (picture s) x
  unfolding picture
  place_standing = record { cell = placed_below; mark = at p.node.live place_mark }
    where
      at : (live : Bool) → mark_at (picture s) x ≡ mark live → (mark_at (picture s) x ≡ 1) ⊎ (mark_at (picture s) x ≡ 2)
      at true e = inl e
      at false e = inr e

-- The words of any other cell

module _ (s : State) (x : ℕ) (below : x < s.settings.cells) (unfound : place_of x (places_of s s.row) ≡ None) where
  pub free_cell_word : (j : ℕ) → j < cell_words s.settings.dimensions →
      word_at (picture s) x j ≡ get_or (free_words s.settings.dimensions (next_free x s.free)) j 0
  unfolding words_of
  free_cell_word j h =
      picture_word s x j below h
      ∙ ap (λ o. get_or (words_of s.settings.base s.settings.dimensions s.free x o) j 0) unfound

  pub free_cell_first : word_at (picture s) x 0 ≡ next_free x s.free
  unfolding free_words
  free_cell_first = free_cell_word 0 (omega arith)

  pub free_cell_rest : (j : ℕ) → 0 < j → j < cell_words s.settings.dimensions → word_at (picture s) x j ≡ 0
  free_cell_rest j h k = free_cell_word j k ∙ free_words-rest s.settings.dimensions (next_free x s.free) j h k

  pub free_cell_free : Free (picture s) x
  unfolding picture
  free_cell_free = record { cell = below; mark = free_cell_rest 2 (omega arith) (omega arith) }

-- Every cell stands or is free

-- no cell is both
pub standing_not_free : {ws : List ℕ} {x : ℕ} → Standing ws x → Free ws x → ⊥
standing_not_free {ws} {x} stands free = at stands.mark
  where
    at : (mark_at ws x ≡ 1) ⊎ (mark_at ws x ≡ 2) → ⊥
    at (inl e) = let f = free.mark in omega arith
    at (inr e) = let f = free.mark in omega arith

-- a standing cell has a place
pub cell_standing : (s : State) (x : ℕ) → Standing (picture s) x → (p : Place) × Placed s x p
unfolding picture
cell_standing s x stands = at (place_of x (places_of s s.row)) refl
  where
    at : (o : Option Place) → place_of x (places_of s s.row) ≡ o → (p : Place) × Placed s x p
    at None e = absurd (standing_not_free stands (free_cell_free s x stands.cell e))
    at (Some p) e = (p, record { found = e })

-- and a free one has none
pub cell_unfound : {s : State} → Sound s → (x : ℕ) → Free (picture s) x → place_of x (places_of s s.row) ≡ None
cell_unfound {s} v x free = at (place_of x (places_of s s.row)) refl
  where
    at : (o : Option Place) → place_of x (places_of s s.row) ≡ o → o ≡ None
    at None e = refl
    at (Some p) e = absurd (standing_not_free (place_standing v (record { found = e })) free)

module _ {s : State} (v : Sound s) where
  -- The words 4: every free cell once
  pub cell_free : (x : ℕ) → Free (picture s) x → occurrences x s.free ≡ 1
  unfolding picture
  cell_free x free =
      let row = map (λ y. y.cell) s.row in
      let occurs = cells_cover s v x free.cell in
      let elsewhere = unfound_none x (places_of s s.row) (cell_unfound v x free) in
      let moved = ap (occurrences x) (places_cells s.settings.base s.settings.dimensions s.row) in
      let sum = occurrences_append x (0 ∷ row) s.free in
      let met : 0 < occurrences x s.free = omega arith in
      let each = all_right (λ c. occurrences c (cells_in s) ≡ 1) row s.free v.once in
      let once = occurs_has (λ c. occurrences c (cells_in s) ≡ 1) x s.free met each in
      omega (arith, once, met, occurrences_append x row s.free, occurrences_more x 0 row)

  -- .. and no other cell
  pub free_cell_lem : (x : ℕ) → 0 < occurrences x s.free → Free (picture s) x
  free_cell_lem x h =
      free_cell_free s x (occurs_has (λ c. (0 < c) × (c < s.settings.cells)) x s.free h (free_range s v)).1
      (occurs_has (λ c. place_of c (places_of s s.row) ≡ None) x s.free h (free_found s v))

  pub position_placed : (p : Place) × Placed s s.position p
  position_placed = occurs_placed s s.position v.position

-- Words that are a picture

-- where a standing cell's words are those of its place, each is that of the picture
held_word : (ws : List ℕ) (b : ℕ) (p : Place) → Held ws b (dimensions_at ws) p → (j : ℕ) → j < cell_words (dimensions_at ws) →
    word_at ws p.node.cell j ≡ get_or (standing_words b (dimensions_at ws) p) j 0
unfolding standing_words
held_word ws b p t =
    field_cases (λ j. word_at ws p.node.cell j ≡ get_or (standing_words b (dimensions_at ws) p) j 0) (dimensions_at ws) first
    (λ d h. t.link d h ∙ sym (standing_link b (dimensions_at ws) p d h))
  where
    first : (j : ℕ) → j < fields_before_links → word_at ws p.node.cell j ≡ get_or (standing_words b (dimensions_at ws) p) j 0
    first zero h = t.key
    first (suc zero) h = t.value
    first (suc (suc zero)) h = t.mark
    first (suc (suc (suc zero))) h = t.owed
    first (suc (suc (suc (suc zero)))) h = t.low
    first (suc (suc (suc (suc (suc zero))))) h = t.high
    first (suc (suc (suc (suc (suc (suc j)))))) h = absurd (omega arith)

-- The words of a free cell: the first is the next of the chain, the others are 0.
pub record FreeHeld (ws free : List ℕ) (c : ℕ) : Type 0 where
  pub next : word_at ws c 0 ≡ next_free c free
  pub rest : (j : ℕ) → 0 < j → j < cell_words (dimensions_at ws) → word_at ws c j ≡ 0

free_held_word : (ws free : List ℕ) (c : ℕ) → FreeHeld ws free c → (j : ℕ) → j < cell_words (dimensions_at ws) →
    word_at ws c j ≡ get_or (free_words (dimensions_at ws) (next_free c free)) j 0
unfolding free_words
free_held_word ws free c t zero h = t.next
free_held_word ws free c t (suc j) h = t.rest (suc j) (omega arith) h ∙ sym (free_words-rest (dimensions_at ws) (next_free c free) (suc j) (omega arith) h)

-- a state with a buffer's settings
abbrev state_with : List ℕ → List Node → List ℕ → ℕ → State
state_with ws row free position = record { settings = settings_at ws; row = row; free = free; position = position }

-- A buffer of the exact length is the picture of such a state in order, if it has the first free cell, the path and the words of each
-- cell.
pub held_picture : (ws : List ℕ) (row : List Node) (free : List ℕ) (position : ℕ) → Sound (state_with ws row free position) →
    length ws ≡ length_of (dimensions_at ws) (cells_at ws) → first_number free ≡ first_free_at ws →
    ((d : ℕ) → d < dimensions_at ws → path_word (state_with ws row free position) d ≡ get_or ws (header_words + d) 0) →
    All (Held ws (base_at ws) (dimensions_at ws)) (places (base_at ws) (dimensions_at ws) row) → All (FreeHeld ws free) free →
    picture (state_with ws row free position) ≡ ws
unfolding picture words_of
held_picture ws row free position v long first path standing chained =
    words_equal (picture_exact s) (record { size = long }) header (λ d h. picture_path s d h ∙ path d h)
    (λ c j hc hj.
    picture_word s c j hc hj
    ∙ occurs_has (Word j) c (0 ∷ cells_in s) (cells_cover s v c hc)
    (all_append (Word j) (0 ∷ map (λ x. x.cell) row) free (standing-words j hj)
    (all_zip (λ x found t. ap (λ o. get_or (words_of b D free x o) j 0) found ∙ sym (free_held_word ws free x t j hj)) free (free_found s v) chained)))
  where
    s : State
    s = state_with ws row free position

    b : ℕ
    b = base_at ws

    D : ℕ
    D = dimensions_at ws

    Word : ℕ → ℕ → Type 0
    Word j c = get_or (shown_words s c) j 0 ≡ word_at ws c j

    standing-words : (j : ℕ) → j < cell_words D → All (Word j) (0 ∷ map (λ x. x.cell) row)
    standing-words j h =
        subst (All (Word j)) (places_cells b D row)
        (all_mapped (Word j) (λ p. p.node.cell) (places b D row)
        (all_zip (λ p found t. ap (λ o. get_or (words_of b D free p.node.cell o) j 0) found ∙ sym (held_word ws b p t j h))
        (places b D row) (place_found s v) standing))

    header : (i : ℕ) → i < header_words → get_or (picture s) i 0 ≡ get_or ws i 0
    header zero h = refl
    header (suc zero) h = refl
    header (suc (suc zero)) h = refl
    header (suc (suc (suc zero))) h = refl
    header (suc (suc (suc (suc zero)))) h = first
    header (suc (suc (suc (suc (suc i))))) h = absurd (omega arith)
