-- What the stores of a sweep leave in each word of words of the exact length: links taken from a path's cells, the head's links, and cells
-- that become free. Each changes the words of one cell, and the word of the first free cell; so all others are as before.
use mathlib.Core.Path.{◌≡◌, refl, sym, ap, ◌∙◌, subst}
use mathlib.Core.List.{List, [], ◌∷◌, reverse_aux}
use Prim.Native.Nat.{ℕ, zero, suc, ◌+◌, ◌-◌, ◌≤◌, ◌<◌}
use native.Mathlib.Nat.{add-zero}
use native.Mathlib.Decide.{ℕ_discrete}
use native.Mathlib.Omega.{arith}
use lib.Arith.{lt_of_le-ne}
use lib.ListN.{length, get_or, replicate, length-replicate, get_or-replicate}
use lib.Seq.{sets, get_or-set_other}
use borrow.Author.Tests.{eq-eqb, ne_eqb}
use Rattle.settings.specs.Numbers.{header_words, cell_words}
use Rattle.lists.specs.Lists.{first_number}
use Rattle.lists.proofs.Occurrences.{Distinct}
use Rattle.lists.proofs.All.{All, all_map}
use Rattle.meaning.specs.Picture.{next_free, free_words}
use Rattle.meaning.specs.Words.{word_index, first_free_at, link_field}
use Rattle.meaning.specs.Layer.Paths.{onward}
use Rattle.meaning.specs.Layer.Stores.{store}
use Rattle.meaning.specs.Layer.SweepStores.{take_links, relink_head, free_cell, free_all, drop_front}
use Rattle.meaning.proofs.Cells.Stores.{Exact, word_in, exact_set, exact_sets, header_set_same, header_set_word, store_same, store_other, store_below}
use Rattle.meaning.proofs.Cells.Stores.{cell_sets_inside, cell_sets_before, cell_sets_other, cell_sets_below, path_sets_header, path_sets_path}
use Rattle.meaning.proofs.Cells.Stores.{path_sets_word}
use Rattle.meaning.proofs.Paths.Path.{onward_length, onward_front, onward_back}

-- Links taken from a path's cells

-- the words after one link is taken
abbrev taken_link : ℕ → List ℕ → ℕ → List ℕ → ℕ → List ℕ
taken_link D ws x path d = store D ws x (link_field d) (word_in D ws (get_or path d 0) (link_field d))

pub exact_taken : {D C : ℕ} {ws : List ℕ} → Exact D C ws → (x : ℕ) (path : List ℕ) (d k : ℕ) → Exact D C (take_links D ws x path d k)
unfolding take_links
exact_taken exact x path d zero = exact
exact_taken {D} {C} {ws} exact x path d (suc k) =
    exact_taken {ws = taken_link D ws x path d} (exact_set exact (word_index D x (link_field d)) (word_in D ws (get_or path d 0) (link_field d))) x path (suc d) k

pub take_links-below : (D : ℕ) (ws : List ℕ) (x : ℕ) (path : List ℕ) (d k i : ℕ) → i < header_words + D → get_or (take_links D ws x path d k) i 0 ≡ get_or ws i 0
unfolding take_links
take_links-below D ws x path d zero i h = refl
take_links-below D ws x path d (suc k) i h =
    take_links-below D (taken_link D ws x path d) x path (suc d) k i h ∙ store_below D ws x (link_field d) (word_in D ws (get_or path d 0) (link_field d)) i h

-- every word that is none of those links
pub take_links-other : (D : ℕ) (ws : List ℕ) (x : ℕ) (path : List ℕ) (d k : ℕ) → d + k ≤ D → (y j : ℕ) → j < cell_words D →
    (y ≡ x → (i : ℕ) → d ≤ i → i < d + k → j ≡ link_field i → ⊥) → word_in D (take_links D ws x path d k) y j ≡ word_in D ws y j
unfolding take_links
take_links-other D ws x path d zero fit y j h other = refl
take_links-other D ws x path d (suc k) fit y j h other =
    take_links-other D (taken_link D ws x path d) x path (suc d) k (omega arith) y j h (λ e i l u. other e i (omega arith) (omega arith))
    ∙ store_other D ws x (link_field d) (word_in D ws (get_or path d 0) (link_field d)) y j (omega arith) h (λ e. other e d (omega arith) (omega arith))

-- link i of x is what link i of the path's cell i was: when it is read, only lower links have changed
pub take_links-taken : {D C : ℕ} {ws : List ℕ} → Exact D C ws → (x : ℕ) (path : List ℕ) (d k : ℕ) → x < C → d + k ≤ D → (i : ℕ) → d ≤ i → i < d + k →
    word_in D (take_links D ws x path d k) x (link_field i) ≡ word_in D ws (get_or path i 0) (link_field i)
unfolding take_links
take_links-taken exact x path d zero here fit i h l = absurd (omega arith)
take_links-taken {D} {C} {ws} exact x path d (suc k) here fit i h l =
    at (ℕ_discrete d i) (take_links-taken {ws = taken_link D ws x path d} (exact_set exact (word_index D x (link_field d)) value) x path (suc d) k here (omega arith) i)
  where
    value : ℕ
    value = word_in D ws (get_or path d 0) (link_field d)

    taken : List ℕ
    taken = taken_link D ws x path d

    at : Dec (d ≡ i) → (suc d ≤ i → i < suc d + k → word_in D (take_links D taken x path (suc d) k) x (link_field i)
        ≡ word_in D taken (get_or path i 0) (link_field i)) →
        word_in D (take_links D taken x path (suc d) k) x (link_field i) ≡ word_in D ws (get_or path i 0) (link_field i)
    at (yes e) more =
        subst (λ m. word_in D (take_links D taken x path (suc d) k) x (link_field m) ≡ word_in D ws (get_or path m 0) (link_field m)) e
        (take_links-other D taken x path (suc d) k (omega arith) x (link_field d) (omega arith) (λ q m u v f. omega arith)
        ∙ store_same exact x (link_field d) value here (omega arith))
    at (no ne) more =
        more (lt_of_le-ne h ne) (omega arith)
        ∙ store_other D ws x (link_field d) value (get_or path i 0) (link_field i) (omega arith) (omega arith) (λ q f. ne (omega arith))

-- The head's links

pub exact_relinked : {D C : ℕ} {ws : List ℕ} → Exact D C ws → (x z : ℕ) → Exact D C (relink_head D ws x z)
unfolding relink_head
exact_relinked {D} exact x z = exact_sets exact (word_index D 0 (link_field z)) (x ∷ replicate (D - suc z) 0)

pub relink_head-below : (D : ℕ) (ws : List ℕ) (x z i : ℕ) → i < header_words + D → get_or (relink_head D ws x z) i 0 ≡ get_or ws i 0
unfolding relink_head
relink_head-below D ws x z i h = cell_sets_below D ws 0 (link_field z) (x ∷ replicate (D - suc z) 0) i h

pub relink_head-cell : (D : ℕ) (ws : List ℕ) (x z : ℕ) → z < D → (y j : ℕ) → j < cell_words D → (y ≡ 0 → ⊥) → word_in D (relink_head D ws x z) y j ≡ word_in D ws y j
unfolding relink_head
relink_head-cell D ws x z h y j k ne =
    cell_sets_other D ws 0 (link_field z) (x ∷ replicate (D - suc z) 0) (omega (arith, length-replicate {A = ℕ} (D - suc z) 0)) y j k ne

pub relink_head-before : (D : ℕ) (ws : List ℕ) (x z j : ℕ) → j < link_field z → word_in D (relink_head D ws x z) 0 j ≡ word_in D ws 0 j
unfolding relink_head
relink_head-before D ws x z j h = cell_sets_before D ws 0 (link_field z) (x ∷ replicate (D - suc z) 0) j h

module _ {D C : ℕ} {ws : List ℕ} (exact : Exact D C ws) (some : 0 < C) (x z : ℕ) (inside : z < D) where
  relinked : (k : ℕ) → k < D - z → word_in D (relink_head D ws x z) 0 (link_field z + k) ≡ get_or (x ∷ replicate (D - suc z) 0) k 0
  unfolding relink_head
  relinked k h =
      let size = length-replicate {A = ℕ} (D - suc z) 0 in
      cell_sets_inside exact 0 (link_field z) (x ∷ replicate (D - suc z) 0) some (omega arith) k (omega arith)

  pub relink_head-at : word_in D (relink_head D ws x z) 0 (link_field z) ≡ x
  relink_head-at = ap (λ j. word_in D (relink_head D ws x z) 0 j) (sym (add-zero (link_field z))) ∙ relinked 0 (omega arith)

  pub relink_head-above : (d : ℕ) → z < d → d < D → word_in D (relink_head D ws x z) 0 (link_field d) ≡ 0
  relink_head-above d h k =
      let there : link_field d ≡ link_field z + suc (d - suc z) = omega arith in
      ap (λ j. word_in D (relink_head D ws x z) 0 j) there ∙ relinked (suc (d - suc z)) (omega arith)
      ∙ get_or-replicate {A = ℕ} (D - suc z) (d - suc z) 0 0 (omega arith)

-- A cell that becomes free

pub free_words-length : (D next : ℕ) → length (free_words D next) ≡ cell_words D
unfolding free_words
free_words-length D next = omega (arith, length-replicate {A = ℕ} (cell_words D - 1) 0)

pub exact_freed : {D C : ℕ} {ws : List ℕ} → Exact D C ws → (x : ℕ) → Exact D C (free_cell D ws x)
unfolding free_cell
exact_freed {D} {C} {ws} exact x = exact_set (exact_sets exact (word_index D x 0) (free_words D (first_free_at ws))) 4 x

-- the header's words but that of the first free cell, and the path
pub free_cell-below : (D : ℕ) (ws : List ℕ) (x i : ℕ) → i < header_words + D → (i ≡ 4 → ⊥) → get_or (free_cell D ws x) i 0 ≡ get_or ws i 0
unfolding free_cell
free_cell-below D ws x i h ne =
    get_or-set_other (sets ws (word_index D x 0) (free_words D (first_free_at ws))) 4 i x 0 ne ∙ cell_sets_below D ws x 0 (free_words D (first_free_at ws)) i h

pub free_cell-first : {D C : ℕ} {ws : List ℕ} → Exact D C ws → (x : ℕ) → get_or (free_cell D ws x) 4 0 ≡ x
unfolding free_cell
free_cell-first {D} {C} {ws} exact x = header_set_same (exact_sets exact (word_index D x 0) (free_words D (first_free_at ws))) 4 x (omega arith)

-- The words 4: the words of a cell that became free
pub free_cell-own : {D C : ℕ} {ws : List ℕ} → Exact D C ws → (x : ℕ) → x < C → (j : ℕ) → j < cell_words D →
    word_in D (free_cell D ws x) x j ≡ get_or (free_words D (first_free_at ws)) j 0
unfolding free_cell
free_cell-own {D} {C} {ws} exact x h j k =
    let words = free_words D (first_free_at ws) in
    let size = free_words-length D (first_free_at ws) in
    header_set_word D (sets ws (word_index D x 0) words) 4 x x j (omega arith)
    ∙ ap (λ i. word_in D (sets ws (word_index D x 0) words) x i) (omega arith)
    ∙ cell_sets_inside exact x 0 words h (omega arith) j (omega arith)

pub free_cell-cell : (D : ℕ) (ws : List ℕ) (x y j : ℕ) → j < cell_words D → (y ≡ x → ⊥) → word_in D (free_cell D ws x) y j ≡ word_in D ws y j
unfolding free_cell
free_cell-cell D ws x y j h ne =
    let words = free_words D (first_free_at ws) in
    let size = free_words-length D (first_free_at ws) in
    header_set_word D (sets ws (word_index D x 0) words) 4 x y j (omega arith) ∙ cell_sets_other D ws x 0 words (omega arith) y j h ne

-- Cells that become free, one after the other

pub exact_freed_all : {D C : ℕ} {ws : List ℕ} → Exact D C ws → (xs : List ℕ) → Exact D C (free_all D ws xs)
unfolding free_all
exact_freed_all exact [] = exact
exact_freed_all {D} {C} {ws} exact (x ∷ xs) = exact_freed_all {ws = free_cell D ws x} (exact_freed exact x) xs

pub free_all-below : (D : ℕ) (ws xs : List ℕ) (i : ℕ) → i < header_words + D → (i ≡ 4 → ⊥) → get_or (free_all D ws xs) i 0 ≡ get_or ws i 0
unfolding free_all
free_all-below D ws [] i h ne = refl
free_all-below D ws (x ∷ xs) i h ne = free_all-below D (free_cell D ws x) xs i h ne ∙ free_cell-below D ws x i h ne

pub free_all-cell : (D : ℕ) (ws xs : List ℕ) (y j : ℕ) → j < cell_words D → All (λ x. y ≡ x → ⊥) xs → word_in D (free_all D ws xs) y j ≡ word_in D ws y j
unfolding free_all
free_all-cell D ws [] y j h a = refl
free_all-cell D ws (x ∷ xs) y j h a = free_all-cell D (free_cell D ws x) xs y j h a.1 ∙ free_cell-cell D ws x y j h a.0

-- the last cell that becomes free is the first free cell
pub free_all-first : {D C : ℕ} {ws : List ℕ} → Exact D C ws → (xs free : List ℕ) → first_free_at ws ≡ first_number free →
    get_or (free_all D ws xs) 4 0 ≡ first_number (reverse_aux xs free)
unfolding free_all
free_all-first exact [] free e = e
free_all-first {D} {C} {ws} exact (x ∷ xs) free e = free_all-first {ws = free_cell D ws x} (exact_freed exact x) xs (x ∷ free) (free_cell-first exact x)

-- the cell that follows one in a chain: what is put in front of it does not matter
next_free-here : (c : ℕ) (free : List ℕ) → next_free c (c ∷ free) ≡ first_number free
unfolding next_free
next_free-here c free = rw (eq-eqb c c refl) refl

next_free-past : (c x : ℕ) (free : List ℕ) → (c ≡ x → ⊥) → next_free c (x ∷ free) ≡ next_free c free
unfolding next_free
next_free-past c x free ne = rw (ne_eqb x c (λ e. ne (sym e))) refl

pub next_free-behind : (c : ℕ) (xs free : List ℕ) → All (λ x. c ≡ x → ⊥) xs → next_free c (reverse_aux xs free) ≡ next_free c free
next_free-behind c [] free a = refl
next_free-behind c (x ∷ xs) free a = next_free-behind c xs (x ∷ free) a.1 ∙ next_free-past c x free a.0

-- each holds the next one of the chain, and its other words are 0
pub free_all-own : {D C : ℕ} {ws : List ℕ} → Exact D C ws → (xs free : List ℕ) → Distinct xs → All (λ x. x < C) xs → first_free_at ws ≡ first_number free →
    All (λ x. (j : ℕ) → j < cell_words D → word_in D (free_all D ws xs) x j ≡ get_or (free_words D (next_free x (reverse_aux xs free))) j 0) xs
unfolding free_all
free_all-own exact [] free apart below e = tt
free_all-own {D} {C} {ws} exact (x ∷ xs) free apart below e = (
  λ j h.
      free_all-cell D (free_cell D ws x) xs x j h apart.0
      ∙ free_cell-own exact x below.0 j h
      ∙ ap (λ next. get_or (free_words D next) j 0) (e ∙ sym (next_free-here x free) ∙ sym (next_free-behind x xs (x ∷ free) apart.0)),
  free_all-own {ws = free_cell D ws x} (exact_freed exact x) xs (x ∷ free) apart.1 below.1 (free_cell-first exact x),
)

-- All of it

-- The new position x is no head, is reached by link `number`, and shares z coordinates with the head; the cells to free are distinct, and
-- neither the head nor x.
pub record Dropping (D C x number z : ℕ) (between : List ℕ) : Type 0 where
  pub cell : x < C
  pub standing : 0 < x
  pub inside : z < D
  pub falls : z ≤ number
  pub least : number ≤ D
  pub distinct : Distinct between
  pub range : All (λ y. (0 < y) × (y < C)) between
  pub apart : All (λ y. x ≡ y → ⊥) between

module _ {D C : ℕ} {ws : List ℕ} (exact : Exact D C ws) {x number z : ℕ} {between : List ℕ} (path : List ℕ) (drop : Dropping D C x number z between) where
  abbrev taken : List ℕ
  taken = take_links D ws x path z (number - z)

  abbrev relinked_words : List ℕ
  relinked_words = relink_head D taken x z

  exact_links : Exact D C taken
  exact_links = exact_taken exact x path z (number - z)

  exact_head : Exact D C relinked_words
  exact_head = exact_relinked exact_links x z

  exact_all : Exact D C (free_all D relinked_words between)
  exact_all = exact_freed_all exact_head between

  head_path : length (onward D (replicate D 0) z x) ≡ D
  head_path = onward_length D (replicate D 0) z x (length-replicate {A = ℕ} D 0) (let h = drop.inside in omega arith)

  pub exact_dropped : Exact D C (drop_front D ws x number path z between)
  unfolding drop_front
  exact_dropped = exact_sets exact_all header_words (onward D (replicate D 0) z x)

  pub drop_front-header : (i : ℕ) → i < 4 → get_or (drop_front D ws x number path z between) i 0 ≡ get_or ws i 0
  unfolding drop_front
  drop_front-header i h =
      path_sets_header (free_all D relinked_words between) (onward D (replicate D 0) z x) i (omega arith)
      ∙ free_all-below D relinked_words between i (omega arith) (λ e. omega arith)
      ∙ relink_head-below D taken x z i (omega arith)
      ∙ take_links-below D ws x path z (number - z) i (omega arith)

  pub drop_front-first : (free : List ℕ) → first_free_at ws ≡ first_number free →
      get_or (drop_front D ws x number path z between) 4 0 ≡ first_number (reverse_aux between free)
  unfolding drop_front
  drop_front-first free e =
      path_sets_header (free_all D relinked_words between) (onward D (replicate D 0) z x) 4 (omega arith)
      ∙ free_all-first exact_head between free (relink_head-below D taken x z 4 (omega arith) ∙ take_links-below D ws x path z (number - z) 4 (omega arith) ∙ e)

  -- the path: the head below z, the new position from there on
  pub drop_front-path_head : (d : ℕ) → d < z → get_or (drop_front D ws x number path z between) (header_words + d) 0 ≡ 0
  unfolding drop_front
  drop_front-path_head d h =
      let inside = drop.inside in
      path_sets_path exact_all (onward D (replicate D 0) z x) head_path d (omega arith)
      ∙ onward_front D (replicate D 0) z x d (length-replicate {A = ℕ} D 0) (omega arith) h
      ∙ get_or-replicate {A = ℕ} D d 0 0 (omega arith)

  pub drop_front-path_position : (d : ℕ) → z ≤ d → d < D → get_or (drop_front D ws x number path z between) (header_words + d) 0 ≡ x
  unfolding drop_front
  drop_front-path_position d h k =
      path_sets_path exact_all (onward D (replicate D 0) z x) head_path d k
      ∙ onward_back D (replicate D 0) z x d (length-replicate {A = ℕ} D 0) h k

  -- a cell's words after all, if it is not freed
  dropped_word : (y j : ℕ) → j < cell_words D → All (λ c. y ≡ c → ⊥) between → word_in D (drop_front D ws x number path z between) y j ≡ word_in D relinked_words y j
  unfolding drop_front
  dropped_word y j h a = path_sets_word D (free_all D relinked_words between) (onward D (replicate D 0) z x) head_path y j
      ∙ free_all-cell D relinked_words between y j h a

  -- every cell but the head, the new position and those freed
  pub drop_front-other : (y j : ℕ) → j < cell_words D → (y ≡ 0 → ⊥) → (y ≡ x → ⊥) → All (λ c. y ≡ c → ⊥) between →
      word_in D (drop_front D ws x number path z between) y j ≡ word_in D ws y j
  drop_front-other y j h not_head not-x a =
      let falls = drop.falls in
      let least = drop.least in
      dropped_word y j h a
      ∙ relink_head-cell D taken x z drop.inside y j h not_head
      ∙ take_links-other D ws x path z (number - z) (omega arith) y j h (λ e. absurd (not-x e))

  -- the new position: links from z up to its old dimension are those of the cells on its path, all else is as before
  position_word : (j : ℕ) → j < cell_words D → word_in D (drop_front D ws x number path z between) x j ≡ word_in D taken x j
  position_word j h =
      let standing = drop.standing in
      dropped_word x j h drop.apart ∙ relink_head-cell D taken x z drop.inside x j h (λ e. omega arith)

  pub drop_front-taken : (d : ℕ) → z ≤ d → d < number → word_in D (drop_front D ws x number path z between) x (link_field d)
      ≡ word_in D ws (get_or path d 0) (link_field d)
  drop_front-taken d h k =
      let least = drop.least in
      position_word (link_field d) (omega arith)
      ∙ take_links-taken exact x path z (number - z) drop.cell (omega arith) d h (omega arith)

  pub drop_front-position : (j : ℕ) → j < cell_words D → ((d : ℕ) → z ≤ d → d < number → j ≡ link_field d → ⊥) →
      word_in D (drop_front D ws x number path z between) x j ≡ word_in D ws x j
  drop_front-position j h other =
      let falls = drop.falls in
      let least = drop.least in
      position_word j h ∙ take_links-other D ws x path z (number - z) (omega arith) x j h (λ e d l u. other d l (omega arith))

  -- the head: link z leads to the new position, the higher ones nowhere, all else is as before
  head_word : (j : ℕ) → j < cell_words D → word_in D (drop_front D ws x number path z between) 0 j ≡ word_in D relinked_words 0 j
  head_word j h = dropped_word 0 j h (all_map (λ c r e. let above = r.0 in omega arith) between drop.range)

  pub drop_front-head : (j : ℕ) → j < link_field z → word_in D (drop_front D ws x number path z between) 0 j ≡ word_in D ws 0 j
  drop_front-head j h =
      let inside = drop.inside in
      let falls = drop.falls in
      let least = drop.least in
      let standing = drop.standing in
      head_word j (omega arith)
      ∙ relink_head-before D taken x z j h
      ∙ take_links-other D ws x path z (number - z) (omega arith) 0 j (omega arith) (λ e. absurd (omega arith))

  pub drop_front-head_at : word_in D (drop_front D ws x number path z between) 0 (link_field z) ≡ x
  drop_front-head_at =
      let inside = drop.inside in
      let cell = drop.cell in
      head_word (link_field z) (omega arith) ∙ relink_head-at exact_links (omega arith) x z inside

  pub drop_front-head_above : (d : ℕ) → z < d → d < D → word_in D (drop_front D ws x number path z between) 0 (link_field d) ≡ 0
  drop_front-head_above d h k =
      let cell = drop.cell in
      head_word (link_field d) (omega arith) ∙ relink_head-above exact_links (omega arith) x z drop.inside d h k

  -- each freed cell
  pub drop_front-freed : (free : List ℕ) → first_free_at ws ≡ first_number free →
      All (λ y. (j : ℕ) → j < cell_words D → word_in D (drop_front D ws x number path z between) y j
      ≡ get_or (free_words D (next_free y (reverse_aux between free))) j 0) between
  unfolding drop_front
  drop_front-freed free e =
      all_map (λ y own j h. path_sets_word D (free_all D relinked_words between) (onward D (replicate D 0) z x) head_path y j ∙ own j h) between
      (free_all-own exact_head between free drop.distinct (all_map (λ y r. r.1) between drop.range)
      (relink_head-below D taken x z 4 (omega arith) ∙ take_links-below D ws x path z (number - z) 4 (omega arith) ∙ e))
