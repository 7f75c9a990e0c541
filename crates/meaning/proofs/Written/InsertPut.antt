-- What a new node writes where neither the parent nor c owes: word 4, its own cell's words, link p of the parent, and the path; no other
-- word changes. A standing cell has its words by its place, which keeps all but links that lead to the new cell; a free cell by the
-- chain, which loses its first cell.
use Rattle.std.specs.Prelude.{Option, None, Some}
use mathlib.Core.Path.{◌≡◌, refl, sym, ◌∙◌, ap, subst, subst₂}
use mathlib.Core.Bool.{Bool, true, false, cond, not}
use mathlib.Core.List.{List, [], ◌∷◌, ◌++◌, map}
use Prim.Native.Nat.{ℕ, zero, suc, ◌<◌}
use native.Mathlib.Nat.{zero-add}
use native.Mathlib.Omega.{arith}
use native.Mathlib.Decide.{ℕ_discrete}
use lib.Dec.{eqb, ltb}
use lib.ListN.{length, get_or, set, drop}
use lib.Seq.{sets, ext_get_or}
use borrow.Author.Tests.{ne_eqb, eqb-false, not-true}
use Rattle.settings.specs.Numbers.{header_words, fields_before_links, cell_words}
use Rattle.lists.specs.Lists.{numbers_from, first_number}
use Rattle.lists.proofs.Numbers.{made_at, made_length}
use Rattle.lists.proofs.All.{All, all_left}
use Rattle.lists.proofs.Tests.{both}
use Rattle.meaning.specs.Keys.{shared}
use Rattle.meaning.specs.Row.{Node, head_node, first_of, Place, places, link, place_of}
use Rattle.meaning.specs.State.{State, places_of}
use Rattle.meaning.specs.Picture.{mark, standing_words, next_free, free_words, words_of, path, picture}
use Rattle.meaning.specs.Words.{word_index, word_at, link_at, link_field}
use Rattle.meaning.specs.Operations.{new_node, slot_owes}
use Rattle.meaning.specs.declared.Slot.{Slot}
use Rattle.meaning.specs.Layer.Stores.{store, write_path, new_words}
use Rattle.meaning.proofs.Pictures.State.{Sound, base_positive}
use Rattle.meaning.proofs.Pictures.Picture.{words_of_length, path_length}
use Rattle.meaning.proofs.Rows.Places.{last_from, dimension_from}
use Rattle.meaning.proofs.Rows.Parent.{dimension_after, Without, Apart, asc_last, place_at}
use Rattle.meaning.proofs.Kept.Slot.{Gap, sound_apart, dimensions_positive, SlotIs}
use Rattle.meaning.proofs.Kept.KeepsInsert.{slot_first}
use Rattle.meaning.proofs.Cells.Placed.{Placed, place_word, place_key, place_value, place_mark, place_owed, place_low, place_high}
use Rattle.meaning.proofs.Cells.Placed.{place_link, free_cell_word}
use Rattle.meaning.proofs.Cells.Stores.{Exact, picture_exact, field_cases, words_equal, exact_set, exact_sets, header_set_word, store_same}
use Rattle.meaning.proofs.Cells.Stores.{store_other, store_below, cell_sets_inside, cell_sets_other, cell_sets_below, path_sets_header}
use Rattle.meaning.proofs.Cells.Stores.{path_sets_path, path_sets_word}
use Rattle.meaning.proofs.Cells.Changed.{picture_path_word}
use Rattle.meaning.proofs.Written.InsertLinks.{place_after, Kept, OnBoth, new_link, Cleared, link_of_new, kept_places, link_of_parent, link_of_other}
use Rattle.meaning.proofs.Written.InsertSlot.{slot_below, slot_next, slot_links, slot_links-length, slot_number_lem, slot_new, slot_parent_placed}
use Rattle.meaning.proofs.Written.InsertSlot.{slot_apart, slot_link, slot_cleared}

-- the state with a new node in the first free cell, between two parts of the row
abbrev pub with_new : State → List Node → Node → List Node → ℕ → State
with_new s pre x post position = record { settings = s.settings; row = pre ++ x ∷ post; free = drop 1 s.free; position = position }

-- the new node in its place
abbrev pub new_place : ℕ → ℕ → List Node → Node → List Node → Place
new_place b D pre x post =
    place_after (last_from head_node pre) (dimension_from b D head_node 0 pre) x (dimension_after b D head_node pre x.key) post

-- the words where nothing is to be finished: the first free cell taken off its chain and written, and link p of the parent set to it
abbrev pub write_new : ℕ → ℕ → List ℕ → ℕ → ℕ → Slot → List ℕ
write_new b D ws key value t =
    store D (sets (set ws 4 (get_or ws (word_index D t.n 0) 0)) (word_index D t.n 0) (new_words D key value t)) t.parent (link_field t.p) t.n

-- the chain without its first cell
next_free_lem : (c : ℕ) (free : List ℕ) → (first_number free ≡ c → ⊥) → next_free c (drop 1 free) ≡ next_free c free
unfolding next_free
next_free_lem c [] other = refl
next_free_lem c (n ∷ free) other = sym (ap (λ t. cond t (first_number free) (next_free c free)) (ne_eqb n c other))

-- Where neither the parent nor c owes

module _ (s : State) (v : Sound s) (key value : ℕ) (positive : 0 < key) (g : Gap key s.row) (f : 0 < length s.free) (t : Slot)
    (i : SlotIs s key g.pre g.post t)
    (parent_paid : All (λ y. y.cell ≡ t.parent → y.owes ≡ false) s.row) (c_paid : All (λ y. y.cell ≡ t.c → y.owes ≡ false) s.row)
    (position : ℕ) (w : Sound (with_new s g.pre (new_node t.n key value (slot_owes t)) g.post position)) where
  abbrev b : ℕ
  b = s.settings.base

  abbrev D : ℕ
  D = s.settings.dimensions

  abbrev x : Node
  x = new_node t.n key value (slot_owes t)

  abbrev now : State
  now = with_new s g.pre x g.post position

  pos : 0 < b
  pos = base_positive s v

  deep : 0 < D
  deep = dimensions_positive s v

  clear : Cleared b D g.pre x g.post
  clear = slot_cleared s v key positive g f t i value parent_paid c_paid

  apart : Apart (head_node ∷ (g.pre ++ x ∷ g.post))
  apart = sound_apart now w

  -- The new cell

  abbrev new : Place
  new = new_place b D g.pre x g.post

  pub put_new :
      Placed (with_new s g.pre (new_node t.n key value (slot_owes t)) g.post position) t.n
      (new_place s.settings.base s.settings.dimensions g.pre (new_node t.n key value (slot_owes t)) g.post)
  unfolding places
  put_new = record {
    found = place_at b D head_node 0 head_node 0 g.pre x g.post
        (all_left (λ z. z.cell ≡ t.n → ⊥) (head_node ∷ g.pre) g.post
        (subst (λ r. Without t.n (head_node ∷ r)) g.splits (slot_new s v key positive g f t i)));
  }

  -- c becomes link q of n, and no other link leads anywhere
  pub put_link :
      (d : ℕ) → d < s.settings.dimensions →
      link s.settings.base s.settings.dimensions (new_place s.settings.base s.settings.dimensions g.pre
      (new_node t.n key value (slot_owes t)) g.post) d
      ≡ get_or (slot_links s.settings.dimensions t) d 0
  put_link d h =
      link_of_new b D pos new d clear.last (asc_last head_node g.pre (x ∷ g.post) w.ascends).1 clear.own
      ∙ sym (slot_link s v key positive g f t i d h ∙ ap (λ p. new_link b D key p g.post d) i.p_is)

  new_links_lem : slot_links D t ≡ map (link b D new) (numbers_from 0 D)
  new_links_lem =
      ext_get_or 0 (slot_links D t) (map (link b D new) (numbers_from 0 D)) (slot_links-length D t ∙ sym (made_length (link b D new) 0 D))
      (λ d h.
      let inside : d < D = omega (arith, slot_links-length D t) in
      sym (made_at (link b D new) 0 D d 0 inside ∙ ap (link b D new) (zero-add d) ∙ put_link d inside))

  pub put_new_words :
      new_words s.settings.dimensions key value t
      ≡ standing_words s.settings.base s.settings.dimensions (new_place s.settings.base s.settings.dimensions g.pre
      (new_node t.n key value (slot_owes t)) g.post)
  unfolding new_words standing_words
  put_new_words = same_words (held (slot_owes t) refl) (ap (λ p. cond (slot_owes t) p 0) i.p_is) (high_is (slot_owes t) refl) new_links_lem
    where
      -- if the new node owes, there is a c, and it is the next larger node
      is_held : slot_owes t ≡ true → t.c ≡ 0 → ⊥
      is_held o = eqb-false t.c 0 (not-true (eqb t.c 0) (both (not (eqb t.c 0)) (ltb t.p t.q) o).0)

      held : (o : Bool) → slot_owes t ≡ o → cond o t.c 0 ≡ cond o (first_of g.post).cell 0
      held true o = i.c_is ∙ (slot_first b D key (dimension_after b D head_node g.pre key) g.post (λ e. is_held o (i.c_is ∙ e))).1
      held false o = refl

      high_is : (o : Bool) → slot_owes t ≡ o → cond o t.q 0 ≡ cond o (shared b D key (first_of g.post).key) 0
      high_is true o = i.q_is (is_held o)
      high_is false o = refl

      same_words :
          {c c' l l' h h' : ℕ} {ls ls' : List ℕ} → c ≡ c' → l ≡ l' → h ≡ h' → ls ≡ ls' →
          ◌≡◌ {A = List ℕ} (key ∷ value ∷ 1 ∷ c ∷ l ∷ h ∷ ls) (key ∷ value ∷ 1 ∷ c' ∷ l' ∷ h' ∷ ls')
      same_words e k m n = cc

  -- Every other cell

  -- a standing cell, but for links that lead to the new one
  word_kept :
      (c : ℕ) (p q : Place) → Placed now c p → Placed s c q → Kept b D t.n p q → (j : ℕ) → j < cell_words D →
      ((d : ℕ) → j ≡ link_field d → link b D p d ≡ link b D q d) → word_at (picture now) c j ≡ word_at (picture s) c j
  unfolding picture
  word_kept c p q here there k = field_cases Same D first
      (λ d h l. place_link w here d h ∙ l d refl ∙ sym (place_link v there d h))
    where
      Same : ℕ → Type 0
      Same j = ((d : ℕ) → j ≡ link_field d → link b D p d ≡ link b D q d) → word_at (picture now) c j ≡ word_at (picture s) c j

      first : (j : ℕ) → j < fields_before_links → Same j
      first zero h l = place_key w here ∙ ap (λ y. y.key) k.node ∙ sym (place_key v there)
      first (suc zero) h l = place_value w here ∙ ap (λ y. y.value) k.node ∙ sym (place_value v there)
      first (suc (suc zero)) h l = place_mark w here ∙ ap (λ y. mark y.live) k.node ∙ sym (place_mark v there)
      first (suc (suc (suc zero))) h l = place_owed w here ∙ k.owed ∙ sym (place_owed v there)
      first (suc (suc (suc (suc zero)))) h l = place_low w here ∙ k.low ∙ sym (place_low v there)
      first (suc (suc (suc (suc (suc zero))))) h l = place_high w here ∙ k.high ∙ sym (place_high v there)
      first (suc (suc (suc (suc (suc (suc j)))))) h l = absurd (omega arith)

  -- every other cell that stands stood
  both_found : (c : ℕ) → (t.n ≡ c → ⊥) → OnBoth (Kept b D t.n) (place_of c (places_of now now.row)) (place_of c (places_of s s.row))
  both_found c other =
      subst (λ r. OnBoth (Kept b D t.n) (place_of c (places_of now now.row)) (place_of c (places b D r))) (sym g.splits)
      (kept_places s g.pre x g.post pos deep w.ascends apart clear c other)

  -- a cell that is not the new one, but for link p of the parent
  pub put_elsewhere :
      (c j : ℕ) → c < s.settings.cells → j < cell_words s.settings.dimensions → (t.n ≡ c → ⊥) →
      (c ≡ t.parent → j ≡ link_field t.p → ⊥) →
      word_at (picture (with_new s g.pre (new_node t.n key value (slot_owes t)) g.post position)) c j ≡ word_at (picture s) c j
  unfolding picture
  put_elsewhere c j below h other elsewhere = at (place_of c (places_of now now.row)) (place_of c (places_of s s.row)) refl refl (both_found c other)
    where
      at : (o q : Option Place) → place_of c (places_of now now.row) ≡ o → place_of c (places_of s s.row) ≡ q → OnBoth (Kept b D t.n) o q →
          word_at (picture now) c j ≡ word_at (picture s) c j
      at None None e u k =
          free_cell_word now c below e j h
          ∙ ap (λ n. get_or (free_words D n) j 0) (next_free_lem c s.free (λ m. other (i.n_is ∙ m)))
          ∙ sym (free_cell_word s c below u j h)
      at None (Some q) e u k = absurd k
      at (Some p) None e u k = absurd k
      at (Some p) (Some q) e u k =
          word_kept c p q (record { found = e }) (record { found = u }) k j h
          (λ d is.
          link_of_other s g.pre x g.post pos deep w.ascends apart clear c d p q e (ap (λ r. place_of c (places b D r)) (sym g.splits) ∙ u) other
          (λ m n. elsewhere (m ∙ sym i.parent_is) (is ∙ ap link_field (n ∙ sym i.p_is))))

  -- link p of the parent
  pub put_parent : link_at (picture (with_new s g.pre (new_node t.n key value (slot_owes t)) g.post position)) t.parent t.p ≡ t.n
  unfolding picture
  put_parent = at (place_of t.parent (places_of now now.row)) refl (both_found t.parent (slot_apart s v key positive g f t i))
    where
      inside : t.p < D
      inside = slot_number_lem s v key positive g f t i

      at : (o : Option Place) → place_of t.parent (places_of now now.row) ≡ o →
          OnBoth (Kept b D t.n) o (place_of t.parent (places_of s s.row)) → word_at (picture now) t.parent (link_field t.p) ≡ t.n
      at None e k = absurd (subst (OnBoth (Kept b D t.n) None) (slot_parent_placed s v key positive g f t i).1.found k)
      at (Some p) e k =
          place_link w (record { found = e }) t.p inside
          ∙ ap (link b D p) i.p_is
          ∙ link_of_parent s g.pre x g.post pos deep w.ascends apart clear p (ap (λ c. place_of c (places_of now now.row)) (sym i.parent_is) ∙ e)

  -- Every word

  abbrev off : List ℕ
  off = set (picture s) 4 (get_or (picture s) (word_index D t.n 0) 0)

  abbrev written : List ℕ
  written = sets off (word_index D t.n 0) (new_words D key value t)

  new_words-length : length (new_words D key value t) ≡ cell_words D
  unfolding words_of
  new_words-length = ap length put_new_words ∙ words_of_length b D 0 [] (Some new)

  off_exact : Exact D s.settings.cells off
  off_exact = exact_set (picture_exact s) 4 (get_or (picture s) (word_index D t.n 0) 0)

  written_exact : Exact D s.settings.cells written
  written_exact = exact_sets off_exact (word_index D t.n 0) (new_words D key value t)

  put_header : (k : ℕ) → k < header_words → get_or (picture now) k 0 ≡ get_or (write_new b D (picture s) key value t) k 0
  unfolding picture
  put_header k h =
      header k h
      ∙ sym (store_below D written t.parent (link_field t.p) t.n k (omega arith)
      ∙ cell_sets_below D off t.n 0 (new_words D key value t) k (omega arith))
    where
      header : (k : ℕ) → k < header_words → get_or (picture now) k 0 ≡ get_or off k 0
      header zero l = refl
      header (suc zero) l = refl
      header (suc (suc zero)) l = refl
      header (suc (suc (suc zero))) l = refl
      header (suc (suc (suc (suc zero)))) l = sym (slot_next s v key positive g f t i)
      header (suc (suc (suc (suc (suc k))))) l = absurd (omega arith)

  put_cell : (c j : ℕ) → c < s.settings.cells → j < cell_words D → get_or (picture now) (word_index D c j) 0
      ≡ get_or (write_new b D (picture s) key value t) (word_index D c j) 0
  unfolding picture
  put_cell c j below h = at (ℕ_discrete t.n c) (ℕ_discrete c t.parent) (ℕ_discrete j (link_field t.p))
    where
      number : link_field t.p < cell_words D
      number = let l = slot_number_lem s v key positive g f t i in omega arith

      elsewhere : (t.n ≡ c → ⊥) → (c ≡ t.parent → j ≡ link_field t.p → ⊥) →
          get_or (picture now) (word_index D c j) 0 ≡ get_or (store D written t.parent (link_field t.p) t.n) (word_index D c j) 0
      elsewhere ne off-link =
          put_elsewhere c j below h ne off-link
          ∙ sym (store_other D written t.parent (link_field t.p) t.n c j number h off-link
          ∙ cell_sets_other D off t.n 0 (new_words D key value t) (omega (arith, new_words-length)) c j h (λ e. ne (sym e))
          ∙ header_set_word D (picture s) 4 (get_or (picture s) (word_index D t.n 0) 0) c j (omega arith))

      at : Dec (t.n ≡ c) → Dec (c ≡ t.parent) → Dec (j ≡ link_field t.p) →
          get_or (picture now) (word_index D c j) 0 ≡ get_or (store D written t.parent (link_field t.p) t.n) (word_index D c j) 0
      at (yes e) m n =
          subst (λ y. get_or (picture now) (word_index D y j) 0 ≡ get_or (store D written t.parent (link_field t.p) t.n) (word_index D y j) 0) e
          (place_word w put_new j h
          ∙ ap (λ ws. get_or ws j 0) (sym put_new_words)
          ∙ sym (store_other D written t.parent (link_field t.p) t.n t.n j number h (λ q r. slot_apart s v key positive g f t i q)
          ∙ ap (λ k. get_or written (word_index D t.n k) 0) (sym (zero-add j))
          ∙ cell_sets_inside off_exact t.n 0 (new_words D key value t) (slot_below s v key positive g f t i) (omega (arith, new_words-length)) j
          (omega (arith, new_words-length))))
      at (no ne) (yes m) (yes n) =
          subst₂ (λ y k. get_or (picture now) (word_index D y k) 0 ≡ get_or (store D written t.parent (link_field t.p) t.n) (word_index D y k) 0)
          (sym m) (sym n)
          (put_parent ∙ sym (store_same written_exact t.parent (link_field t.p) t.n (subst (λ y. y < s.settings.cells) m below) number))
      at (no ne) (yes m) (no n) = elsewhere ne (λ e q. n q)
      at (no ne) (no m) n = elsewhere ne (λ e q. m e)

  pub put_words :
      picture (with_new s g.pre (new_node t.n key value (slot_owes t)) g.post position)
      ≡ write_path (write_new s.settings.base s.settings.dimensions (picture s) key value t)
      (path (with_new s g.pre (new_node t.n key value (slot_owes t)) g.post position))
  put_words =
      let exact = exact_set written_exact (word_index D t.parent (link_field t.p)) t.n in
      let ws = write_new b D (picture s) key value t in
      words_equal (picture_exact now) (exact_sets exact header_words (path now))
      (λ k h. put_header k h ∙ sym (path_sets_header ws (path now) k h))
      (λ d h. picture_path_word now d h ∙ sym (path_sets_path exact (path now) (path_length now) d h))
      (λ c j h k. put_cell c j h k ∙ sym (path_sets_word D ws (path now) (path_length now) c j))
