-- What the slot of a key that does not stand says: where its parent stands, whether the new node owes, which link it has; that
-- finishing debts does not move it; and that, where neither its parent nor c owes, nothing is owed that the new node touches.
use Rattle.std.specs.Prelude.{None}
use mathlib.Core.Path.{◌≡◌, refl, sym, ◌∙◌, ap, ap₂, subst}
use mathlib.Core.Bool.{Bool, true, false, cond, ◌&&◌, not}
use mathlib.Core.List.{List, [], ◌∷◌, ◌++◌, map}
use Prim.Native.Nat.{ℕ, ◌≤◌, ◌<◌}
use native.Mathlib.Omega.{arith}
use native.Mathlib.Decide.{ℕ_discrete, dec_le}
use lib.Dec.{eqb, leb, ltb}
use lib.ListN.{length, get_or, set, drop, replicate, length-set, length-replicate, get_or-replicate}
use lib.Seq.{get_or-set_same, get_or-set_other}
use borrow.Author.Tests.{eq-eqb, ne_eqb, le-leb, lt-leb, le-ltb}
use Rattle.lists.specs.Lists.{occurrences, first_number}
use Rattle.lists.proofs.Occurrences.{occurrences_here}
use Rattle.lists.proofs.All.{All, all_append, all_left, all_right, all_splits}
use Rattle.meaning.specs.Keys.{shared}
use Rattle.meaning.specs.Row.{Node, head_node, first_of, first_sharing, Place, head_place, places, place_of, settled_link}
use Rattle.meaning.specs.State.{State, places_of}
use Rattle.meaning.specs.Picture.{next_free, picture}
use Rattle.meaning.specs.Words.{word_at}
use Rattle.meaning.specs.Sentences.{Settled}
use Rattle.meaning.specs.Layer.Stores.{new_links}
use Rattle.meaning.specs.Operations.{with_row, new_node, slot_owes}
use Rattle.meaning.specs.declared.Slot.{Slot}
use Rattle.meaning.proofs.Rows.AscendingRow.{Asc}
use Rattle.meaning.proofs.Rows.Keys.{shared_less}
use Rattle.meaning.proofs.Pictures.State.{Sound, base_positive}
use Rattle.meaning.proofs.Pictures.StateCells.{free_range}
use Rattle.meaning.proofs.Pictures.Picture.{first_has, free_found}
use Rattle.meaning.proofs.Rows.Places.{asc_left, last_from, Keeping, first_of_changed}
use Rattle.meaning.proofs.Kept.KeepsState.{cells_positive, cell_stands}
use Rattle.meaning.proofs.Rows.Parent.{dimension_after, parent_after, Without, Apart, ParentPlace, all_last, asc_last, apart_left, first_place, settled_leads}
use Rattle.meaning.proofs.Kept.Slot.{Gap, sound_apart, first_free_all, dimensions_positive, cell_after, SlotIs, last_changed, parent_changed}
use Rattle.meaning.proofs.Kept.Slot.{gap_last, first_free_apart}
use Rattle.meaning.proofs.Cells.Placed.{Placed, placed_node, placed_cell, head_placed, occurs_placed, free_cell_first}
use Rattle.meaning.proofs.BothWays.SentencesShape.{placed_ascends, place_settled}
use Rattle.meaning.proofs.Kept.KeepsInsert.{slot_first, owing_parent}
use Rattle.meaning.proofs.Written.InsertLinks.{new_owes, new_link, NextUnowing, Cleared}

-- Finishing debts does not move the slot

module _ (f : Node → Node) (k : Keeping f) (b D key : ℕ) where
  pub dimension_changed : (pre : List Node) → dimension_after b D head_node (map f pre) key ≡ dimension_after b D head_node pre key
  dimension_changed pre = ap (λ i. shared b D i key) (ap (λ y. y.key) (last_changed f k pre) ∙ k.key (last_from head_node pre))

  slot_cell-changed : (p : ℕ) (post : List Node) → cell_after b D key p (map f post) ≡ cell_after b D key p post
  slot_cell-changed p [] = refl
  slot_cell-changed p (z ∷ rest) = ap₂ (λ i c. cond (leb p (shared b D key i)) c 0) (k.key z) (k.cell z)

pub slot_changed :
    (s : State) (f : Node → Node) → Keeping f → (key : ℕ) (pre post : List Node) (t : Slot) → SlotIs s key pre post t →
    (row : List Node) → SlotIs (with_row s row) key (map f pre) (map f post) t
slot_changed s f k key pre post t i row =
    let b = s.settings.base in
    let D = s.settings.dimensions in
    let same = dimension_changed f k b D key pre in
    record {
      n_is = i.n_is;
      p_is = i.p_is ∙ sym same;
      parent_is = i.parent_is ∙ sym (parent_changed f k b D pre key);
      c_is = i.c_is ∙ sym (ap (λ p. cell_after b D key p (map f post)) same ∙ slot_cell-changed f k b D key (dimension_after b D head_node pre key) post);
      q_is = λ held. i.q_is held ∙ sym (ap (shared b D key) (ap (λ y. y.key) (first_of_changed f k post) ∙ k.key (first_of post)));
    }

-- The next larger node by the slot

-- it is c if it shares at least p coordinates with the key; else there is no c
module _ (b D key p : ℕ) (z : Node) (rest : List Node) where
  slot_held : p ≤ shared b D key z.key → cell_after b D key p (z ∷ rest) ≡ z.cell
  slot_held h = ap (λ t. cond t z.cell 0) (le-leb p (shared b D key z.key) h)

  slot_empty : shared b D key z.key < p → cell_after b D key p (z ∷ rest) ≡ 0
  slot_empty h = ap (λ t. cond t z.cell 0) (lt-leb p (shared b D key z.key) h)

-- the links of a new cell, as they are written
abbrev pub slot_links : ℕ → Slot → List ℕ
slot_links D t = new_links D t.q t.c

pub slot_links-length : (D : ℕ) (t : Slot) → length (slot_links D t) ≡ D
slot_links-length D t = at (eqb t.c 0)
  where
    at : (r : Bool) → length (cond r (replicate D 0) (set (replicate D 0) t.q t.c)) ≡ D
    at true = length-replicate {A = ℕ} D 0
    at false = length-set (replicate D 0) t.q t.c ∙ length-replicate {A = ℕ} D 0

-- all 0 but link q, which is c, where there is a c
pub slot_links-none : (D d : ℕ) (t : Slot) → d < D → t.c ≡ 0 → get_or (slot_links D t) d 0 ≡ 0
slot_links-none D d t h e = ap (λ r. get_or (cond r (replicate D 0) (set (replicate D 0) t.q t.c)) d 0) (eq-eqb t.c 0 e)
    ∙ get_or-replicate {A = ℕ} D d 0 0 h

pub slot_links-other : (D d : ℕ) (t : Slot) → d < D → (d ≡ t.q → ⊥) → get_or (slot_links D t) d 0 ≡ 0
slot_links-other D d t h ne = at (eqb t.c 0)
  where
    at : (r : Bool) → get_or (cond r (replicate D 0) (set (replicate D 0) t.q t.c)) d 0 ≡ 0
    at true = get_or-replicate {A = ℕ} D d 0 0 h
    at false = get_or-set_other (replicate D 0) t.q d t.c 0 ne ∙ get_or-replicate {A = ℕ} D d 0 0 h

pub slot_links-here : (D d : ℕ) (t : Slot) → d < D → (t.c ≡ 0 → ⊥) → d ≡ t.q → get_or (slot_links D t) d 0 ≡ t.c
slot_links-here D d t h held e =
    ap (λ r. get_or (cond r (replicate D 0) (set (replicate D 0) t.q t.c)) d 0) (ne_eqb t.c 0 held)
    ∙ subst (λ j. get_or (set (replicate D 0) t.q t.c) j 0 ≡ t.c) (sym e)
    (get_or-set_same (replicate D 0) t.q t.c 0 (omega (arith, length-replicate {A = ℕ} D 0)))

module _ (b D key : ℕ) (t : Slot) where
  owes_at :
      (post : List Node) → All (λ z. 0 < z.cell) post → t.c ≡ cell_after b D key t.p post → ((t.c ≡ 0 → ⊥) → t.q ≡ shared b D key (first_of post).key) →
      slot_owes t ≡ new_owes b D key t.p post
  owes_at [] stands c q = ap (λ r. not r && ltb t.p t.q) (eq-eqb t.c 0 c)
  owes_at (z ∷ rest) stands c q = at (dec_le t.p (shared b D key z.key))
    where
      at : Dec (t.p ≤ shared b D key z.key) → slot_owes t ≡ ltb t.p (shared b D key z.key)
      at (yes h) =
          let is = slot_held b D key t.p z rest h in
          let held : t.c ≡ 0 → ⊥ = λ e. let s = stands.0 in omega arith in
          ap (λ r. not r && ltb t.p t.q) (ne_eqb t.c 0 held) ∙ ap (ltb t.p) (q held)
      at (no h) =
          let is = slot_empty b D key t.p z rest (omega arith) in
          ap (λ r. not r && ltb t.p t.q) (eq-eqb t.c 0 (c ∙ is)) ∙ sym (le-ltb t.p (shared b D key z.key) (omega arith))

  link_at :
      (post : List Node) → All (λ z. 0 < z.cell) post → t.c ≡ cell_after b D key t.p post → ((t.c ≡ 0 → ⊥) → t.q ≡ shared b D key (first_of post).key) →
      (d : ℕ) → d < D → get_or (slot_links D t) d 0 ≡ new_link b D key t.p post d
  link_at [] stands c q d h = slot_links-none D d t h c
  link_at (z ∷ rest) stands c q d h = at (dec_le t.p (shared b D key z.key)) (ℕ_discrete d (shared b D key z.key))
    where
      at : Dec (t.p ≤ shared b D key z.key) → Dec (d ≡ shared b D key z.key) →
          get_or (slot_links D t) d 0 ≡ cond (leb t.p (shared b D key z.key) && eqb d (shared b D key z.key)) z.cell 0
      at (yes l) (yes e) =
          let is = slot_held b D key t.p z rest l in
          let held : t.c ≡ 0 → ⊥ = λ n. let s = stands.0 in omega arith in
          rw (le-leb t.p (shared b D key z.key) l, eq-eqb d (shared b D key z.key) e) (slot_links-here D d t h held (e ∙ sym (q held)) ∙ c ∙ is)
      at (yes l) (no ne) =
          let is = slot_held b D key t.p z rest l in
          let held : t.c ≡ 0 → ⊥ = λ n. let s = stands.0 in omega arith in
          rw (le-leb t.p (shared b D key z.key) l, ne_eqb d (shared b D key z.key) ne) (slot_links-other D d t h (λ e. ne (e ∙ q held)))
      at (no l) e =
          let m : shared b D key z.key < t.p = omega arith in
          rw (lt-leb t.p (shared b D key z.key) m) (slot_links-none D d t h (c ∙ slot_empty b D key t.p z rest m))

-- a cell that has a place is the head or in the row
pub placed_occurs : {s : State} {x : ℕ} {p : Place} → Placed s x p → 0 < occurrences x (0 ∷ map (λ y. y.cell) s.row)
placed_occurs {s} {x} {p} here =
    subst (λ c. 0 < occurrences c (0 ∷ map (λ y. y.cell) s.row)) (placed_cell here)
    (placed_node here (λ y. 0 < occurrences y.cell (0 ∷ map (λ z. z.cell) s.row))
    (omega (arith, occurrences_here 0 0 (map (λ y. y.cell) s.row) refl))
    (all_splits (λ y. 0 < occurrences y.cell (0 ∷ map (λ z. z.cell) s.row)) s.row (cell_stands s)))

-- where the chain leads from its first cell
first_next : (free : List ℕ) → next_free (first_number free) free ≡ first_number (drop 1 free)
unfolding next_free
first_next [] = refl
first_next (n ∷ free) = ap (λ t. cond t (first_number free) (next_free n free)) (eq-eqb n n refl)

-- a settled link leads from a node's parent to it, and the link's number is the node's dimension
pub parent_leads : (s : State) → Sound s → (pre : List Node) (x : Node) (post : List Node) → s.row ≡ pre ++ x ∷ post →
    Settled (picture s) (parent_after s.settings.base s.settings.dimensions head_node pre x.key)
    (dimension_after s.settings.base s.settings.dimensions head_node pre x.key) x.cell
unfolding places
parent_leads s v pre x post split =
    let ascends = subst (Asc 0) split v.ascends in
    let (p, found, is) =
    first_place b D (base_positive s v) (dimensions_positive s v) d head_node 0 head_node 0 pre (x ∷ post) (asc_left 0 pre (x ∷ post) ascends)
    (apart_left (head_node ∷ pre) (x ∷ post) (subst (λ r. Apart (head_node ∷ r)) split (sound_apart s v)))
    (shared_less b D (last_from head_node pre).key x.key (dimensions_positive s v)
    (let h = (asc_last head_node pre (x ∷ post) ascends).0 in omega arith)) (λ q. omega arith) in
    let here : Placed s (parent_after b D head_node pre x.key) p = record
    { found = ap (λ r. place_of (parent_after b D head_node pre x.key) (places b D r)) split ∙ found } in
    subst (Settled (picture s) (parent_after b D head_node pre x.key) d) (leads p is (placed_ascends v here)) (place_settled v here d)
  where
    b : ℕ
    b = s.settings.base

    D : ℕ
    D = s.settings.dimensions

    d : ℕ
    d = dimension_after b D head_node pre x.key

    leads : (p : Place) → ParentPlace b D d (last_from head_node pre) (x ∷ post) p → Asc p.node.key p.later → settled_link b D p d ≡ x.cell
    leads p is up =
        let number : dimension_after b D p.node is.between x.key ≡ d = ap (λ y. shared b D y.key x.key) is.last_is in
        let last = ap (λ y. shared b D p.node.key y.key) is.last_is in
        let low = is.low in
        let more = is.shares in
        ap (λ r. cond (leb p.dimension d) (first_sharing b D p.node.key d r) 0) is.later_is
        ∙ ap (λ n. cond (leb p.dimension n) (first_sharing b D p.node.key n (is.between ++ x ∷ post)) 0) (sym number)
        ∙ settled_leads b D (base_positive s v) (dimensions_positive s v) p.node p.dimension is.between x post
        (subst (Asc p.node.key) is.later_is up) (omega (arith, more, number, last)) (omega (arith, low, number))

-- The slot in a state in order

module _ (s : State) (v : Sound s) (key : ℕ) (positive : 0 < key) (g : Gap key s.row) (f : 0 < length s.free) (t : Slot)
    (i : SlotIs s key g.pre g.post t) where
  abbrev b : ℕ
  b = s.settings.base

  abbrev D : ℕ
  D = s.settings.dimensions

  -- p is the number of a link, and n of a cell
  pub slot_number_lem : t.p < s.settings.dimensions
  slot_number_lem = rw i.p_is (shared_less b D (last_from head_node g.pre).key key (dimensions_positive s v) (omega (arith, gap_last positive g)))

  pub slot_below : t.n < s.settings.cells
  slot_below = rw i.n_is (first_free_all (λ c. (0 < c) × (c < s.settings.cells)) s.free f (free_range s v)).1

  -- the new cell is none that stands
  pub slot_new : Without t.n (head_node ∷ s.row)
  slot_new = subst (λ c. Without c (head_node ∷ s.row)) (sym i.n_is) (first_free_apart s v f)

  pub slot_parent_placed : (p : Place) × Placed s t.parent p
  unfolding places
  slot_parent_placed =
      let found =
      first_place b D (base_positive s v) (dimensions_positive s v) (dimension_after b D head_node g.pre key) head_node 0 head_node 0 g.pre g.post
      (asc_left 0 g.pre g.post (subst (Asc 0) g.splits v.ascends))
      (apart_left (head_node ∷ g.pre) g.post (subst (λ r. Apart (head_node ∷ r)) g.splits (sound_apart s v)))
      (shared_less b D (last_from head_node g.pre).key key (dimensions_positive s v) (omega (arith, gap_last positive g))) (λ q. omega arith) in
      (found.0, record { found = ap₂ (λ c r. place_of c (places b D r)) i.parent_is g.splits ∙ found.1 })

  pub slot_apart : t.n ≡ t.parent → ⊥
  slot_apart e =
      let here = slot_parent_placed.1 in
      placed_node here (λ y. y.cell ≡ t.n → ⊥) slot_new.0 slot_new.1 (placed_cell here ∙ sym e)

  -- the new cell's first word leads on in the chain
  pub slot_next : word_at (picture s) t.n 0 ≡ first_number (drop 1 s.free)
  slot_next =
      free_cell_first s t.n slot_below (subst (λ c. place_of c (places_of s s.row) ≡ None) (sym i.n_is)
      (first_free_all (λ c. place_of c (places_of s s.row) ≡ None) s.free f (free_found s v)))
      ∙ ap (λ c. next_free c s.free) i.n_is ∙ first_next s.free

  -- c stands, or is 0, the head
  pub slot_c_placed : (q : Place) × Placed s t.c q
  slot_c_placed = at g.post refl
    where
      stands : (c : ℕ) → t.c ≡ c → (q : Place) × Placed s c q → (q : Place) × Placed s t.c q
      stands c e found = (found.0, subst (λ y. Placed s y found.0) (sym e) found.1)

      at : (post : List Node) → g.post ≡ post → (q : Place) × Placed s t.c q
      at [] e = stands 0 (i.c_is ∙ ap (cell_after b D key (dimension_after b D head_node g.pre key)) e) (head_place s.row, head_placed s)
      at (z ∷ rest) e = choose (dec_le p (shared b D key z.key))
        where
          p : ℕ
          p = dimension_after b D head_node g.pre key

          is : t.c ≡ cell_after b D key p (z ∷ rest)
          is = i.c_is ∙ ap (cell_after b D key p) e

          choose : Dec (p ≤ shared b D key z.key) → (q : Place) × Placed s t.c q
          choose (yes h) =
              stands z.cell (is ∙ slot_held b D key p z rest h)
              (occurs_placed s z.cell (cell_stands s g.pre z rest (g.splits ∙ ap (λ r. g.pre ++ r) e)))
          choose (no h) = stands 0 (is ∙ slot_empty b D key p z rest (omega arith)) (head_place s.row, head_placed s)

  pub slot_c_apart : t.n ≡ t.c → ⊥
  slot_c_apart e =
      let here = slot_c_placed.1 in
      placed_node here (λ y. y.cell ≡ t.n → ⊥) slot_new.0 slot_new.1 (placed_cell here ∙ sym e)

  -- n and c share less than all coordinates
  pub slot_shares : (t.c ≡ 0 → ⊥) → t.q < s.settings.dimensions
  slot_shares held =
      let first = slot_first b D key (dimension_after b D head_node g.pre key) g.post (λ e. held (i.c_is ∙ e)) in
      let above = first_has (λ y. key < y.key) g.post g.above first.0 in
      rw (i.q_is held) (shared_less b D key (first_of g.post).key (dimensions_positive s v) (omega arith))

  above_stand : All (λ z. 0 < z.cell) g.post
  above_stand = all_right (λ z. 0 < z.cell) g.pre g.post (subst (All (λ z. 0 < z.cell)) g.splits (cells_positive s v))

  held_by : t.c ≡ cell_after b D key t.p g.post
  held_by = i.c_is ∙ ap (λ p. cell_after b D key p g.post) (sym i.p_is)

  pub slot_owes_lem : slot_owes t ≡ new_owes s.settings.base s.settings.dimensions key t.p g.post
  slot_owes_lem = owes_at b D key t g.post above_stand held_by i.q_is

  pub slot_link : (d : ℕ) → d < s.settings.dimensions → get_or (slot_links s.settings.dimensions t) d 0
      ≡ new_link s.settings.base s.settings.dimensions key t.p g.post d
  slot_link = link_at b D key t g.post above_stand held_by i.q_is

  module _ (value : ℕ) (parent_paid : All (λ y. y.cell ≡ t.parent → y.owes ≡ false) s.row)
      (c_paid : All (λ y. y.cell ≡ t.c → y.owes ≡ false) s.row) where
    abbrev Paid : Node → Type 0
    Paid y = y.cell ≡ t.parent → y.owes ≡ false

    -- if the node before the key owed, it would be the parent
    last_unowing : (last_from head_node g.pre).owes ≡ false
    last_unowing = at (last_from head_node g.pre).owes refl
      where
        paid : Paid (last_from head_node g.pre)
        paid = all_last Paid head_node g.pre (λ e. refl) (all_left Paid g.pre g.post (subst (All Paid) g.splits parent_paid))

        at : (o : Bool) → (last_from head_node g.pre).owes ≡ o → (last_from head_node g.pre).owes ≡ false
        at true e = paid (sym (owing_parent s v key positive g e) ∙ sym i.parent_is)
        at false e = e

    next_unowing : (post : List Node) → t.c ≡ cell_after b D key t.p post → All (λ y. y.cell ≡ t.c → y.owes ≡ false) post →
        NextUnowing b D key t.p post
    next_unowing [] is paid = tt
    next_unowing (z ∷ rest) is paid = λ h. paid.0 (sym (is ∙ slot_held b D key t.p z rest h))

    -- nothing is owed that the new node touches
    pub slot_cleared : Cleared s.settings.base s.settings.dimensions g.pre (new_node t.n key value (slot_owes t)) g.post
    slot_cleared =
        let row-paid = subst (All Paid) g.splits parent_paid in
        record {
          last = last_unowing;
          parent =
              subst (λ c. All (λ y. y.cell ≡ c → y.owes ≡ false) (head_node ∷ (g.pre ++ new_node t.n key value (slot_owes t) ∷ g.post))) i.parent_is (
                λ e. refl,
                all_append Paid g.pre (new_node t.n key value (slot_owes t) ∷ g.post) (all_left Paid g.pre g.post row-paid)
                    (λ e. absurd (slot_apart e), all_right Paid g.pre g.post row-paid),
              );
          next =
              subst (λ p. NextUnowing b D key p g.post) i.p_is
              (next_unowing g.post held_by (all_right (λ y. y.cell ≡ t.c → y.owes ≡ false) g.pre g.post
              (subst (All (λ y. y.cell ≡ t.c → y.owes ≡ false)) g.splits c_paid)));
          own = slot_owes_lem ∙ ap (λ p. new_owes b D key p g.post) i.p_is;
        }
