-- Dropping the front of a row in which nobody owes, word by word. Every link is settled; so the words of a cell that stays depend on its
-- node, its dimension and the nodes after it, and dropping the front changes them for the head and the new position alone.
use Rattle.std.specs.Prelude.{Option, None, Some}
use mathlib.Core.Path.{◌≡◌, refl, sym, ap, ap₂, ◌∙◌, subst}
use mathlib.Core.Bool.{Bool, false}
use mathlib.Core.List.{List, [], ◌∷◌, ◌++◌, map, reverse_aux, map-append}
use Prim.Native.Nat.{ℕ, zero, suc, ◌+◌, ◌≤◌, ◌<◌}
use native.Mathlib.Decide.{ℕ_discrete, dec_lt}
use native.Mathlib.Omega.{arith}
use lib.Arith.{lt_of_le-ne}
use lib.ListN.{get_or}
use borrow.Author.Tests.{lt-leb}
use Rattle.settings.specs.Numbers.{header_words, fields_before_links, cell_words}
use Rattle.lists.specs.Lists.{occurrences}
use Rattle.lists.proofs.Occurrences.{Distinct, occurrences_none, distinct_left, occurrences_reverse_aux, occurs_has}
use Rattle.lists.proofs.All.{All, all_left, all_right, all_mapped, all_at}
use Rattle.meaning.specs.Keys.{shared}
use Rattle.meaning.specs.Row.{Node, head_node, first_sharing, Place, head_place, places_after, places, settled_link, place_of}
use Rattle.meaning.specs.State.{State, position_key, places_of}
use Rattle.meaning.specs.Picture.{next_free, free_words, words_of, first_with, picture}
use Rattle.meaning.specs.Operations.{with_row}
use Rattle.meaning.specs.Layer.Paths.{path_for}
use Rattle.meaning.specs.Layer.SweepStores.{drop_front}
use Rattle.meaning.specs.Words.{link_field}
use Rattle.meaning.proofs.Rows.Keys.{shared_same, shared_le, shared_less}
use Rattle.meaning.proofs.Pictures.State.{Sound, base_positive}
use Rattle.meaning.proofs.Pictures.StateCells.{row_distinct, row_range}
use Rattle.meaning.proofs.Pictures.Picture.{picture_free, picture_path, place_here, place_past, free_found}
use Rattle.meaning.proofs.Rows.Places.{last_from, dimension_from, key_of_same, key_of_other}
use Rattle.meaning.proofs.Kept.KeepsState.{cell_alone}
use Rattle.meaning.proofs.Rows.Parent.{dimension_after, Without, asc_last, apart_before, place_at, first_skips, first_hits}
use Rattle.meaning.proofs.Kept.Slot.{sound_apart, dimensions_positive}
use Rattle.meaning.proofs.Cells.Placed.{Placed, placed_has, placed_below, head_placed}
use Rattle.meaning.proofs.Cells.WalkRead.{settled_above}
use Rattle.meaning.proofs.Cells.Stores.{Exact, word_in, picture_exact, words_equal, field_cases}
use Rattle.meaning.proofs.Cells.Changed.{words_by, standing_by, by_link, picture_place, placed_word}
use Rattle.meaning.proofs.Written.SweepRow.{head_link_below, head_link_at, head_link_above, dimension_falls, path_shifts}
use Rattle.meaning.proofs.Written.SweepStores.{next_free-behind, Dropping, exact_dropped, drop_front-header, drop_front-first, drop_front-path_head}
use Rattle.meaning.proofs.Written.SweepStores.{drop_front-path_position, drop_front-other, drop_front-taken, drop_front-position, drop_front-head}
use Rattle.meaning.proofs.Written.SweepStores.{drop_front-head_at, drop_front-head_above, drop_front-freed}

-- Words of cells where nothing is owed

-- neither a place's node nor the one before it owes
abbrev Unowing : Place → Type 0
Unowing p = (p.before.owes ≡ false) × (p.node.owes ≡ false)

unowing_after : (b D : ℕ) (a : Node) (e : ℕ) (row : List Node) → a.owes ≡ false → All (λ x. x.owes ≡ false) row → All Unowing (places_after b D a e row)
unfolding places_after
unowing_after b D a e [] p h = tt
unowing_after b D a e (x ∷ row) p h = ((p, h.0), unowing_after b D x (shared b D a.key x.key) row h.0 h.1)

unowing_places : (b D : ℕ) (row : List Node) → All (λ x. x.owes ≡ false) row → All Unowing (places b D row)
unfolding places
unowing_places b D row h = ((refl, refl), unowing_after b D head_node 0 row refl h)

-- words before the links depend on the node alone
before_links : (b D value : ℕ) (live : Bool) (p q : Place) → p.node.key ≡ q.node.key → (j : ℕ) → j < fields_before_links →
    get_or (words_by b D value live false false p) j 0 ≡ get_or (words_by b D value live false false q) j 0
unfolding words_by
before_links b D value live p q e zero h = e
before_links b D value live p q e (suc zero) h = refl
before_links b D value live p q e (suc (suc zero)) h = refl
before_links b D value live p q e (suc (suc (suc zero))) h = refl
before_links b D value live p q e (suc (suc (suc (suc zero)))) h = refl
before_links b D value live p q e (suc (suc (suc (suc (suc zero))))) h = refl
before_links b D value live p q e (suc (suc (suc (suc (suc (suc j)))))) h = absurd (omega arith)

-- a standing cell's words
unowing_word : (s : State) → Sound s → All (λ x. x.owes ≡ false) s.row → {x : ℕ} {p : Place} → Placed s x p → (j : ℕ) →
    j < cell_words s.settings.dimensions →
    word_in s.settings.dimensions (picture s) x j ≡ get_or (words_by s.settings.base s.settings.dimensions p.node.value p.node.live
    false false p) j 0
unowing_word s v unowing {x} {p} here j h =
    let nothing = placed_has here Unowing (unowing_places s.settings.base s.settings.dimensions s.row unowing) in
    placed_word s here j (placed_below v here) h
    ∙ ap₂ (λ t u. get_or (words_by s.settings.base s.settings.dimensions p.node.value p.node.live t u p) j 0) nothing.0 nothing.1

-- its links are settled
unowing_link : (s : State) → Sound s → All (λ x. x.owes ≡ false) s.row → {x : ℕ} {p : Place} → Placed s x p → (d : ℕ) → d < s.settings.dimensions →
    word_in s.settings.dimensions (picture s) x (link_field d) ≡ settled_link s.settings.base s.settings.dimensions p d
unowing_link s v unowing {x} {p} here d h =
    unowing_word s v unowing here (link_field d) (omega arith)
    ∙ by_link s.settings.base s.settings.dimensions p.node.value p.node.live false false p d h

settled_below : (b D : ℕ) (p : Place) (d : ℕ) → d < p.dimension → settled_link b D p d ≡ 0
settled_below b D p d h = rw (lt-leb p.dimension d h) refl

-- the words of what comes after a node that owes nothing do not depend on that one's dimension
later_words : (b D : ℕ) (free : List ℕ) (y : ℕ) (a : Node) (e f : ℕ) (later : List Node) → a.owes ≡ false →
    words_of b D free y (place_of y (places_after b D a e later)) ≡ words_of b D free y (place_of y (places_after b D a f later))
unfolding places_after words_of words_by
later_words b D free y a e f [] h = refl
later_words b D free y a e f (x ∷ later) h = at (ℕ_discrete x.cell y)
  where
    here : ℕ → Place
    here n = record { node = x; dimension = shared b D a.key x.key; before = a; before_dimension = n; later = later }

    more : List Place
    more = places_after b D x (shared b D a.key x.key) later

    words : (n : ℕ) → words_of b D free y (Some (here n)) ≡ words_by b D x.value x.live false x.owes (here n)
    words n = standing_by b D (here n) ∙ ap (λ t. words_by b D x.value x.live t x.owes (here n)) h

    at : Dec (x.cell ≡ y) → words_of b D free y (place_of y (here e ∷ more)) ≡ words_of b D free y (place_of y (here f ∷ more))
    at (yes q) = ap (words_of b D free y) (place_here y (here e) more q) ∙ words e ∙ sym (words f) ∙ ap (words_of b D free y) (sym (place_here y (here f) more q))
    at (no ne) = ap (words_of b D free y) (place_past y (here e) more ne ∙ sym (place_past y (here f) more ne))

-- the places of what comes after x, in a row with a front
places_past : (b D y : ℕ) (a : Node) (e : ℕ) (front : List Node) (x : Node) (later : List Node) → All (λ c. y ≡ c → ⊥) (map (λ z. z.cell) front) →
    (y ≡ x.cell → ⊥) →
    place_of y (places_after b D a e (front ++ x ∷ later)) ≡ place_of y (places_after b D x (dimension_after b D a front x.key) later)
unfolding places_after last_from
places_past b D y a e [] x later o ne =
    place_past y (record { node = x; dimension = shared b D a.key x.key; before = a; before_dimension = e; later = later })
    (places_after b D x (shared b D a.key x.key) later) (λ q. ne (sym q))
places_past b D y a e (z ∷ front) x later o ne =
    place_past y (record { node = z; dimension = shared b D a.key z.key; before = a; before_dimension = e; later = front ++ x ∷ later })
    (places_after b D z (shared b D a.key z.key) (front ++ x ∷ later)) (λ q. o.0 (sym q))
    ∙ places_past b D y z (shared b D a.key z.key) front x later o.1 ne

-- cells that are put in front of the free chain do not show in the words of others
words_behind : (b D y : ℕ) (xs free : List ℕ) → All (λ c. y ≡ c → ⊥) xs → (o : Option Place) → words_of b D free y o ≡ words_of b D (reverse_aux xs free) y o
unfolding words_of
words_behind b D y xs free a None = ap (free_words D) (sym (next_free-behind y xs free a))
words_behind b D y xs free a (Some p) = refl

-- the words of the settings
header_settings : (s t : State) → s.settings ≡ t.settings → (i : ℕ) → i < 4 → get_or (picture s) i 0 ≡ get_or (picture t) i 0
unfolding picture
header_settings s t e zero h = ap (λ r. r.dimensions) e
header_settings s t e (suc zero) h = ap (λ r. r.largest) e
header_settings s t e (suc (suc zero)) h = ap (λ r. r.cells) e
header_settings s t e (suc (suc (suc zero))) h = ap (λ r. r.base) e
header_settings s t e (suc (suc (suc (suc i)))) h = absurd (omega arith)

-- The front dropped

-- the row with a front before x
abbrev pub fronted : State → List Node → Node → List Node → State
fronted s front x later = with_row s (front ++ x ∷ later)

-- x the position, the cells of the front put in front of the free chain
abbrev pub dropped : State → List Node → Node → List Node → State
dropped s front x later = record { settings = s.settings; row = x ∷ later; free = reverse_aux (map (λ y. y.cell) front) s.free; position = x.cell }

-- how many coordinates x shares with the head, and the number of the link by which it was reached
abbrev pub zeros : State → Node → ℕ
zeros s x = shared s.settings.base s.settings.dimensions 0 x.key

abbrev pub reached : State → List Node → Node → ℕ
reached s front x = dimension_after s.settings.base s.settings.dimensions head_node front x.key

-- x's place before and after
abbrev place_before : State → List Node → Node → List Node → Place
place_before s front x later =
    record {
      node = x;
      dimension = reached s front x;
      before = last_from head_node front;
      before_dimension = dimension_from s.settings.base s.settings.dimensions head_node 0 front;
      later = later;
    }

abbrev place_after : State → Node → List Node → Place
place_after s x later = record { node = x; dimension = zeros s x; before = head_node; before_dimension = 0; later = later }

-- the words after the front is dropped
abbrev pub written : State → List Node → Node → List Node → List ℕ
written s front x later =
    drop_front s.settings.dimensions (picture (fronted s front x later)) x.cell (reached s front x)
    (path_for s.settings.base s.settings.dimensions (front ++ x ∷ later) x.key) (zeros s x) (map (λ y. y.cell) front)

module _ (s : State) (front : List Node) (x : Node) (later : List Node) (v : Sound (fronted s front x later)) (w : Sound (dropped s front x later))
    (unowing : All (λ y. y.owes ≡ false) (front ++ x ∷ later)) where
  pos : 0 < s.settings.base
  pos = base_positive (fronted s front x later) v

  deep : 0 < s.settings.dimensions
  deep = dimensions_positive (fronted s front x later) v

  key_positive : 0 < x.key
  key_positive = let less = (asc_last head_node front (x ∷ later) v.ascends).0 in omega arith

  pub dropping : Dropping s.settings.dimensions s.settings.cells x.cell (reached s front x) (zeros s x) (map (λ y. y.cell) front)
  dropping =
      let b = s.settings.base in
      let D = s.settings.dimensions in
      let standing = row_range (fronted s front x later) v in
      let own = all_at (λ y. (0 < y.cell) × (y.cell < s.settings.cells)) front x later standing in
      let fronts = all_left (λ y. (0 < y.cell) × (y.cell < s.settings.cells)) front (x ∷ later) standing in
      record {
        cell = own.1;
        standing = own.0;
        inside = shared_less b D 0 x.key deep (let h = key_positive in omega arith);
        falls = dimension_falls b D pos front x later v.ascends;
        least = shared_le b D (last_from head_node front).key x.key;
        distinct =
            distinct_left (map (λ y. y.cell) front) (map (λ y. y.cell) (x ∷ later))
            (subst Distinct (map-append (λ y. y.cell) front (x ∷ later)) (row_distinct (fronted s front x later) v));
        range = all_mapped (λ c. (0 < c) × (c < s.settings.cells)) (λ y. y.cell) front fronts;
        apart = occurrences_none x.cell (map (λ y. y.cell) front) (cell_alone (fronted s front x later) v front x later refl).not_front;
      }

  others : Without x.cell (head_node ∷ front)
  others = apart_before (head_node ∷ front) x later (sound_apart (fronted s front x later) v)

  placed_before : Placed (fronted s front x later) x.cell (place_before s front x later)
  unfolding places
  placed_before = record { found = place_at s.settings.base s.settings.dimensions head_node 0 head_node 0 front x later others }

  placed_after : Placed (dropped s front x later) x.cell (place_after s x later)
  unfolding places last_from dimension_from
  placed_after = record { found = place_at s.settings.base s.settings.dimensions head_node 0 head_node 0 [] x later (others.0, tt) }

  exact : Exact s.settings.dimensions s.settings.cells (picture (fronted s front x later))
  exact = picture_exact (fronted s front x later)

  abbrev path_before : List ℕ
  path_before = path_for s.settings.base s.settings.dimensions (front ++ x ∷ later) x.key

  -- Header and path

  header_dropped : (i : ℕ) → i < header_words → get_or (picture (dropped s front x later)) i 0 ≡ get_or (written s front x later) i 0
  header_dropped i h = at (ℕ_discrete i 4)
    where
      at : Dec (i ≡ 4) → get_or (picture (dropped s front x later)) i 0 ≡ get_or (written s front x later) i 0
      at (yes e) =
          subst (λ n. get_or (picture (dropped s front x later)) n 0 ≡ get_or (written s front x later) n 0) (sym e)
          (picture_free (dropped s front x later) ∙ sym (drop_front-first exact path_before dropping s.free (picture_free (fronted s front x later))))
      at (no ne) = let l : i < 4 = lt_of_le-ne (omega arith) ne in header_settings (dropped s front x later) (fronted s front x later) refl i l
          ∙ sym (drop_front-header exact path_before dropping i l)

  position_key_lem : position_key (dropped s front x later) ≡ x.key
  position_key_lem = key_of_other x.cell head_node (x ∷ later) others.0 ∙ key_of_same x.cell x later refl

  path_dropped : (d : ℕ) → d < s.settings.dimensions → get_or (picture (dropped s front x later)) (header_words + d) 0
      ≡ get_or (written s front x later) (header_words + d) 0
  path_dropped d h =
      picture_path (dropped s front x later) d h
      ∙ ap (λ k. first_with s.settings.base s.settings.dimensions k (suc d) (head_node ∷ x ∷ later)) position_key_lem
      ∙ at (dec_lt d (zeros s x))
    where
      at : Dec (d < zeros s x) → first_with s.settings.base s.settings.dimensions x.key (suc d) (head_node ∷ x ∷ later)
          ≡ get_or (written s front x later) (header_words + d) 0
      at (yes l) = first_hits s.settings.base s.settings.dimensions x.key (suc d) head_node (x ∷ later) l
          ∙ sym (drop_front-path_head exact path_before dropping d l)
      at (no l) =
          first_skips s.settings.base s.settings.dimensions x.key (suc d) head_node (x ∷ later) (omega arith)
          ∙ first_hits s.settings.base s.settings.dimensions x.key (suc d) x later
          (omega (arith, shared_same s.settings.base s.settings.dimensions x.key))
          ∙ sym (drop_front-path_position exact path_before dropping d (omega arith) h)

  -- A cell that is neither the head nor the new position, and is not freed

  found_before : (y : ℕ) → (y ≡ 0 → ⊥) → (y ≡ x.cell → ⊥) → All (λ c. y ≡ c → ⊥) (map (λ z. z.cell) front) →
      place_of y (places_of (fronted s front x later) (fronted s front x later).row)
      ≡ place_of y (places_after s.settings.base s.settings.dimensions x (reached s front x) later)
  unfolding places
  found_before y not_head not-x a =
      let b = s.settings.base in
      let D = s.settings.dimensions in
      place_past y (head_place (front ++ x ∷ later)) (places_after b D head_node 0 (front ++ x ∷ later)) (λ q. not_head (sym q))
      ∙ places_past b D y head_node 0 front x later a not-x

  found_after : (y : ℕ) → (y ≡ 0 → ⊥) → (y ≡ x.cell → ⊥) →
      place_of y (places_of (dropped s front x later) (dropped s front x later).row)
      ≡ place_of y (places_after s.settings.base s.settings.dimensions x (zeros s x) later)
  unfolding places last_from
  found_after y not_head not-x =
      let b = s.settings.base in
      let D = s.settings.dimensions in
      place_past y (head_place (x ∷ later)) (places_after b D head_node 0 (x ∷ later)) (λ q. not_head (sym q))
      ∙ places_past b D y head_node 0 [] x later tt not-x

  abbrev Dropped : ℕ → ℕ → Type 0
  Dropped y j = word_in s.settings.dimensions (picture (dropped s front x later)) y j ≡ word_in s.settings.dimensions (written s front x later) y j

  other_dropped : (y j : ℕ) → y < s.settings.cells → j < cell_words s.settings.dimensions → (y ≡ 0 → ⊥) → (y ≡ x.cell → ⊥) →
      All (λ c. y ≡ c → ⊥) (map (λ z. z.cell) front) → Dropped y j
  other_dropped y j h k not_head not-x a =
      let b = s.settings.base in
      let D = s.settings.dimensions in
      let freed = map (λ z. z.cell) front in
      picture_place (dropped s front x later) y j h k
      ∙ ap (λ ws. get_or ws j 0)
      (ap (words_of b D (reverse_aux freed s.free) y) (found_after y not_head not-x)
      ∙ sym (words_behind b D y freed s.free a (place_of y (places_after b D x (zeros s x) later)))
      ∙ later_words b D s.free y x (zeros s x) (reached s front x) later (all_at (λ z. z.owes ≡ false) front x later unowing)
      ∙ ap (words_of b D s.free y) (sym (found_before y not_head not-x a)))
      ∙ sym (picture_place (fronted s front x later) y j h k)
      ∙ sym (drop_front-other exact path_before dropping y j k not_head not-x a)

  -- The freed cells

  freed_dropped : (y j : ℕ) → y < s.settings.cells → j < cell_words s.settings.dimensions → 0 < occurrences y (map (λ z. z.cell) front) → Dropped y j
  unfolding words_of
  freed_dropped y j h k within =
      let b = s.settings.base in
      let D = s.settings.dimensions in
      let freed = map (λ z. z.cell) front in
      let chain = reverse_aux freed s.free in
      let met : 0 < occurrences y chain = omega (arith, within, occurrences_reverse_aux y freed s.free) in
      let unfound = occurs_has (λ c. place_of c (places_of (dropped s front x later) (dropped s front x later).row) ≡ None) y chain met
      (free_found (dropped s front x later) w) in
      picture_place (dropped s front x later) y j h k
      ∙ ap (λ o. get_or (words_of b D chain y o) j 0) unfound
      ∙ sym (occurs_has (λ c. (i : ℕ) → i < cell_words D → word_in D (written s front x later) c i ≡ get_or (free_words D (next_free c chain)) i 0) y freed within
      (drop_front-freed exact path_before dropping s.free (picture_free (fronted s front x later))) j k)

  -- The new position

  unowing_later : All (λ y. y.owes ≡ false) (x ∷ later)
  unowing_later = all_right (λ y. y.owes ≡ false) front (x ∷ later) unowing

  position_before : (j : ℕ) → j < fields_before_links → Dropped x.cell j
  position_before j h =
      unowing_word (dropped s front x later) w unowing_later placed_after j (omega arith)
      ∙ before_links s.settings.base s.settings.dimensions x.value x.live (place_after s x later) (place_before s front x later) refl j h
      ∙ sym (unowing_word (fronted s front x later) v unowing placed_before j (omega arith))
      ∙ sym (drop_front-position exact path_before dropping j (omega arith) (λ d l u e. omega arith))

  position_link : (d : ℕ) → d < s.settings.dimensions → Dropped x.cell (link_field d)
  position_link d h =
      unowing_link (dropped s front x later) w unowing_later placed_after d h ∙ at (dec_lt d (zeros s x)) (dec_lt d (reached s front x))
    where
      kept : ((i : ℕ) → zeros s x ≤ i → i < reached s front x → d ≡ i → ⊥) →
          settled_link s.settings.base s.settings.dimensions (place_before s front x later) d
          ≡ word_in s.settings.dimensions (written s front x later) x.cell (link_field d)
      kept other =
          sym (unowing_link (fronted s front x later) v unowing placed_before d h)
          ∙ sym (drop_front-position exact path_before dropping (link_field d) (omega arith) (λ i l u e. other i l u (omega arith)))

      at : Dec (d < zeros s x) → Dec (d < reached s front x) → settled_link s.settings.base s.settings.dimensions (place_after s x later) d
          ≡ word_in s.settings.dimensions (written s front x later) x.cell (link_field d)
      at (yes l) more =
          let falls = dropping.falls in
          settled_below s.settings.base s.settings.dimensions (place_after s x later) d l
          ∙ sym (settled_below s.settings.base s.settings.dimensions (place_before s front x later) d (omega arith))
          ∙ kept (λ i g u e. omega arith)
      at (no l) (yes m) =
          let link = path_shifts s.settings.base s.settings.dimensions pos deep front x later d v.ascends
          (sound_apart (fronted s front x later) v) h in
          settled_above s.settings.base s.settings.dimensions (place_after s x later) d (omega arith)
          ∙ sym link.leads
          ∙ sym (unowing_link (fronted s front x later) v unowing (record { found = link.found }) d h)
          ∙ sym (drop_front-taken exact path_before dropping d (omega arith) m)
      at (no l) (no m) =
          settled_above s.settings.base s.settings.dimensions (place_after s x later) d (omega arith)
          ∙ sym (settled_above s.settings.base s.settings.dimensions (place_before s front x later) d (omega arith))
          ∙ kept (λ i g u e. omega arith)

  -- The head

  head_before : (j : ℕ) → j < fields_before_links → Dropped 0 j
  head_before j h =
      unowing_word (dropped s front x later) w unowing_later (head_placed (dropped s front x later)) j (omega arith)
      ∙ before_links s.settings.base s.settings.dimensions 0 false (head_place (x ∷ later)) (head_place (front ++ x ∷ later)) refl j h
      ∙ sym (unowing_word (fronted s front x later) v unowing (head_placed (fronted s front x later)) j (omega arith))
      ∙ sym (drop_front-head exact path_before dropping j (omega arith))

  head_link : (d : ℕ) → d < s.settings.dimensions → Dropped 0 (link_field d)
  head_link d h =
      unowing_link (dropped s front x later) w unowing_later (head_placed (dropped s front x later)) d h
      ∙ settled_above b D (head_place (x ∷ later)) d (omega arith)
      ∙ at (dec_lt d (zeros s x)) (ℕ_discrete d (zeros s x))
    where
      b : ℕ
      b = s.settings.base

      D : ℕ
      D = s.settings.dimensions

      at : Dec (d < zeros s x) → Dec (d ≡ zeros s x) → first_sharing b D 0 d (x ∷ later) ≡ word_in D (written s front x later) 0 (link_field d)
      at (yes l) more =
          head_link_below b D pos front x later v.ascends d l
          ∙ sym (settled_above b D (head_place (front ++ x ∷ later)) d (omega arith))
          ∙ sym (unowing_link (fronted s front x later) v unowing (head_placed (fronted s front x later)) d h)
          ∙ sym (drop_front-head exact path_before dropping (link_field d) (omega arith))
      at (no l) (yes e) =
          subst (λ i. first_sharing b D 0 i (x ∷ later) ≡ word_in D (written s front x later) 0 (link_field i)) (sym e)
          (head_link_at b D pos front x later v.ascends ∙ sym (drop_front-head_at exact path_before dropping))
      at (no l) (no ne) =
          let above : zeros s x < d = lt_of_le-ne (omega arith) (λ e. ne (sym e)) in
          head_link_above b D pos front x later v.ascends d above ∙ sym (drop_front-head_above exact path_before dropping d above h)

  -- Every cell

  cell_dropped : (y j : ℕ) → y < s.settings.cells → j < cell_words s.settings.dimensions → Dropped y j
  cell_dropped y j h k = at (ℕ_discrete y 0) (ℕ_discrete y x.cell) (dec_lt 0 (occurrences y (map (λ z. z.cell) front)))
    where
      at : Dec (y ≡ 0) → Dec (y ≡ x.cell) → Dec (0 < occurrences y (map (λ z. z.cell) front)) → Dropped y j
      at (yes e) other freed = subst (λ c. Dropped c j) (sym e) (field_cases (Dropped 0) s.settings.dimensions head_before head_link j k)
      at (no ne) (yes e) freed = subst (λ c. Dropped c j) (sym e) (field_cases (Dropped x.cell) s.settings.dimensions position_before position_link j k)
      at (no ne) (no other) (yes freed) = freed_dropped y j h k freed
      at (no ne) (no other) (no kept) = other_dropped y j h k ne other (occurrences_none y (map (λ z. z.cell) front) (omega arith))

  -- The operations 6: the picture of the state with the front dropped
  pub dropped_words : picture (dropped s front x later) ≡ written s front x later
  dropped_words = words_equal (picture_exact (dropped s front x later)) (exact_dropped exact path_before dropping) header_dropped path_dropped cell_dropped
