-- Where a key that does not stand goes: between the nodes below it and those above it, as link p of its parent. The parent's link p
-- led, before, past all that share more than p with the parent, to the next larger node, if that shares at least p with the key:
-- else the next larger node, and so all after it, share less than p with the parent.
use Rattle.std.specs.Prelude.{Option, None, Some}
use mathlib.Core.Path.{◌≡◌, refl, ◌∙◌, sym, ap, ap₂, subst}
use mathlib.Core.Bool.{false, cond}
use mathlib.Core.List.{List, [], ◌∷◌, ◌++◌, map, map-append}
use Prim.Native.Nat.{ℕ, suc, ◌≤◌, ◌<◌}
use native.Mathlib.Omega.{arith}
use native.Mathlib.Decide.{ℕ_discrete, dec_lt, dec_le}
use lib.Dec.{eqb, leb}
use lib.ListN.{length, drop}
use borrow.Author.Tests.{eq-eqb, ne_eqb, le-leb, lt-leb}
use Rattle.lists.specs.Lists.{first_number}
use Rattle.lists.proofs.Occurrences.{Distinct, distinct_left, distinct_apart, none_occurs}
use Rattle.lists.proofs.All.{All, all_map, all_append, all_left, all_right, all_of_map, all_mapped}
use Rattle.meaning.specs.Keys.{shared}
use Rattle.meaning.specs.Row.{Node, head_node, first_of, first_sharing, Place, places, settled_link, place_of, node_at, put}
use Rattle.meaning.specs.State.{State, key_of}
use Rattle.meaning.specs.Picture.{first_with}
use Rattle.meaning.specs.Operations.{dimension_at, settled_link_at, parent_in, new_node, slot_for}
use Rattle.meaning.specs.declared.Slot.{Slot}
use Rattle.meaning.proofs.Rows.AscendingRow.{Asc, asc_above}
use Rattle.meaning.proofs.Rows.Keys.{shared_less, ultra}
use Rattle.meaning.proofs.Pictures.State.{Sound, base_positive}
use Rattle.meaning.proofs.Pictures.StateCells.{cells_distinct}
use Rattle.meaning.proofs.Rows.Places.{key_of_first, asc_left, last_from, Keeping}
use Rattle.meaning.proofs.Rows.Put.{put_front, put_past}
use Rattle.meaning.proofs.Rows.Parent.{dimension_after, parent_after, Without, Apart, ParentPlace, all_last, asc_last, last_least, apart_left}
use Rattle.meaning.proofs.Rows.Parent.{apart_before, place_at, sharing_skips, sharing_hits, sharing_none, near, first_place, parent_is, sharing_above}

-- The nodes below a key and those above it, of a row in which the key does not stand

pub record Gap (key : ℕ) (row : List Node) : Type 0 where
  pub pre : List Node
  pub post : List Node
  pub splits : row ≡ pre ++ post
  pub below : All (λ y. y.key < key) pre
  pub above : All (λ y. key < y.key) post

pub gap : (key low : ℕ) (row : List Node) → Asc low row → node_at key row ≡ None → Gap key row
unfolding node_at
gap key low [] a e = record { pre = []; post = []; splits = refl; below = tt; above = tt }
gap key low (y ∷ row) a e = at (dec_lt key y.key) (ℕ_discrete y.key key) e (gap key y.key row a.1)
  where
    at : Dec (key < y.key) → Dec (y.key ≡ key) → cond (eqb y.key key) (Some y) (node_at key row) ≡ None → (node_at key row ≡ None → Gap key row) →
        Gap key (y ∷ row)
    at (yes h) eq q ih = record {
      pre = [];
      post = y ∷ row;
      splits = refl;
      below = tt;
      above = (h, all_map (λ z l. omega arith) row (asc_above y.key row a.1));
    }
    at (no h) (yes eq) q ih = absurd (let r : ◌≡◌ {A = Option Node} (Some y) None = rw (eq-eqb y.key key eq) at q in
        let z : ◌≡◌ {A = ℕ} 0 1 = cc in omega arith)
    at (no h) (no ne) q ih =
        let g = ih (rw (ne_eqb y.key key ne) at q) in
        record { pre = y ∷ g.pre; post = g.post; splits = ap {B = List Node} (λ r. y ∷ r) g.splits; below = (omega arith, g.below); above = g.above }

-- the node before the key, or the head, is below it
pub gap_last : {key : ℕ} {row : List Node} → 0 < key → (g : Gap key row) → (last_from head_node g.pre).key < key
gap_last {key} h g = all_last (λ z. z.key < key) head_node g.pre h g.below

pub gap_above : (key low : ℕ) (post : List Node) → Asc low post → All (λ z. key < z.key) post → Asc key post
gap_above key low [] a g = tt
gap_above key low (x ∷ post) a g = (g.0, a.1)

-- a node put into a row comes between those below and those above its key
pub put_between : (x : Node) (pre post : List Node) → All (λ y. y.key < x.key) pre → All (λ y. x.key < y.key) post → put x (pre ++ post) ≡ pre ++ x ∷ post
put_between x [] post l g = put_front x post g
put_between x (y ∷ pre) post l g = put_past x y (pre ++ post) l.0 ∙ ap {B = List Node} (λ r. y ∷ r) (put_between x pre post l.1 g)

pub put_gap : (x : Node) (row : List Node) (g : Gap x.key row) → put x row ≡ g.pre ++ x ∷ g.post
put_gap x row g = ap (put x) g.splits ∙ put_between x g.pre g.post g.below g.above

-- the row still ascends, and its cells still differ
pub asc_put : (low : ℕ) (x : Node) (pre post : List Node) → low < x.key → Asc low (pre ++ post) → All (λ y. y.key < x.key) pre →
    All (λ y. x.key < y.key) post → Asc low (pre ++ x ∷ post)
asc_put low x [] post h a l g = (h, gap_above x.key low post a g)
asc_put low x (y ∷ pre) post h a l g = (a.0, asc_put y.key x pre post l.0 a.1 l.1 g)

pub apart_put : (y : Node) (x : Node) (pre post : List Node) → Apart (y ∷ (pre ++ post)) → Without x.cell (y ∷ (pre ++ post)) → Apart (y ∷ (pre ++ x ∷ post))
apart_put y x [] post o w = ((λ e. w.0 (sym e), o.0), (w.1, o.1))
apart_put y x (z ∷ pre) post o w = (
  (
    o.0.0,
    all_append (λ t. t.cell ≡ y.cell → ⊥) pre (x ∷ post) (all_left (λ t. t.cell ≡ y.cell → ⊥) pre post o.0.1)
        (λ e. w.0 (sym e), all_right (λ t. t.cell ≡ y.cell → ⊥) pre post o.0.1),
  ),
  apart_put z x pre post o.1 w.1,
)

-- The cells of a state

pub sound_apart : (s : State) → Sound s → Apart (head_node ∷ s.row)
sound_apart s v = apart (head_node ∷ s.row) (distinct_left (0 ∷ map (λ x. x.cell) s.row) s.free (cells_distinct s v))
  where
    apart : (row : List Node) → Distinct (map (λ x. x.cell) row) → Apart row
    apart [] d = tt
    apart (x ∷ row) d = (all_map (λ y n e. n (sym e)) row (all_of_map (λ c. x.cell ≡ c → ⊥) (λ y. y.cell) row d.0), apart row d.1)

-- no standing cell is free
pub free_apart : (s : State) → Sound s → All (λ c. Without c (head_node ∷ s.row)) s.free
free_apart s v =
    all_map (λ c n. all_of_map (λ d. d ≡ c → ⊥) (λ y. y.cell) (head_node ∷ s.row) n) s.free
    (distinct_apart (0 ∷ map (λ x. x.cell) s.row) s.free (cells_distinct s v))

pub first_free : (free : List ℕ) → 0 < length free → free ≡ first_number free ∷ drop 1 free
first_free [] h = absurd (omega arith)
first_free (c ∷ free) h = refl

pub first_free_all : (P : ℕ → Type 0) (free : List ℕ) → 0 < length free → All P free → P (first_number free)
first_free_all P [] h a = absurd (omega arith)
first_free_all P (c ∷ free) h a = a.0

pub first_free_apart : (s : State) → Sound s → 0 < length s.free → Without (first_number s.free) (head_node ∷ s.row)
first_free_apart s v h = first_free_all (λ c. Without c (head_node ∷ s.row)) s.free h (free_apart s v)

pub dimensions_positive : (s : State) → Sound s → 0 < s.settings.dimensions
dimensions_positive s v = let h = v.ranges.dimensions_least in omega arith

-- What has the slot

-- the next larger node's cell, if that node shares at least p coordinates with the key
abbrev pub cell_after : ℕ → ℕ → ℕ → ℕ → List Node → ℕ
cell_after b D key p [] = 0
cell_after b D key p (x ∷ later) = cond (leb p (shared b D key x.key)) x.cell 0

module _ (b D : ℕ) (pos : 0 < b) (deep : 0 < D) where
  -- of what is above the key, the first that shares just p with y, if y shares more than p with the node before the key, whose key is a
  slot_next : (y a key : ℕ) (post : List Node) → y ≤ a → a < key → Asc key post → shared b D a key < shared b D y a →
      first_sharing b D y (shared b D a key) post ≡ cell_after b D key (shared b D a key) post
  slot_next y a key [] k l c h = sharing_none b D y (shared b D a key) [] tt
  slot_next y a key (x ∷ later) k l c h = at (dec_le p (shared b D key x.key))
    where
      p : ℕ
      p = shared b D a key

      at : Dec (p ≤ shared b D key x.key) → first_sharing b D y p (x ∷ later) ≡ cond (leb p (shared b D key x.key)) x.cell 0
      at (yes q) =
          let g = c.0 in
          let u = ultra b D a key x.key pos (omega arith) (omega arith) in
          let w = ultra b D y a x.key pos k (omega arith) in
          rw (le-leb p (shared b D key x.key) q) (sharing_hits b D y p x later (omega arith))
      at (no q) =
          let g = c.0 in
          let u = ultra b D a key x.key pos (omega arith) (omega arith) in
          let w = ultra b D y a x.key pos k (omega arith) in
          let r : shared b D key x.key < p = omega arith in
          rw (lt-leb p (shared b D key x.key) r) (sharing_above b D pos y p x later (omega arith) c.1 (omega arith))

  slot_held :
      (y : Node) (between post : List Node) (key : ℕ) → Asc y.key between → (last_from y between).key < key → Asc key post →
      dimension_after b D y between key < shared b D y.key (last_from y between).key →
      first_sharing b D y.key (dimension_after b D y between key) (between ++ post) ≡ cell_after b D key (dimension_after b D y between key) post
  slot_held y between post key a l g h =
      sharing_skips b D y.key (dimension_after b D y between key) between post (all_map (λ z n. omega arith) between (near b D pos deep y between a))
      ∙ slot_next y.key (last_from y between).key key post (last_least y between a) l g h

  -- link p of the parent's place, before the key stands
  pub slot_of :
      (a : Node) (key : ℕ) (post : List Node) (p : Place) → ParentPlace b D (shared b D a.key key) a post p → a.key < key → Asc key post →
      settled_link b D p (shared b D a.key key) ≡ cell_after b D key (shared b D a.key key) post
  slot_of a key post p h l g =
      rw (le-leb p.dimension (shared b D a.key key) h.low)
      (ap (first_sharing b D p.node.key (shared b D a.key key)) h.later_is
      ∙ subst (λ z. z.key < key → shared b D z.key key < shared b D p.node.key z.key →
      first_sharing b D p.node.key (shared b D z.key key) (h.between ++ post) ≡ cell_after b D key (shared b D z.key key) post)
      h.last_is
      (λ m n. slot_held p.node h.between post key h.ascends m g n) l h.shares)

  pub slot_c :
      (key : ℕ) (pre post : List Node) → 0 < key → Asc 0 pre → Apart (head_node ∷ pre) → All (λ y. y.key < key) pre → Asc key post →
      settled_link_at b D (dimension_after b D head_node pre key) (place_of (parent_after b D head_node pre key) (places b D (pre ++ post)))
      ≡ cell_after b D key (dimension_after b D head_node pre key) post
  unfolding settled_link_at places
  slot_c key pre post h a o l g =
      let A = last_from head_node pre in
      let low : A.key < key = all_last (λ z. z.key < key) head_node pre h l in
      let m : shared b D A.key key < D = shared_less b D A.key key deep (omega arith) in
      let t = first_place b D pos deep (shared b D A.key key) head_node 0 head_node 0 pre post a o m (λ q. omega arith) in
      ap (settled_link_at b D (shared b D A.key key)) t.1 ∙ slot_of A key post t.0 t.2 low g

-- its key is the next larger node's
slot_key : (b D key p : ℕ) (pre post : List Node) → Apart (pre ++ post) → (cell_after b D key p post ≡ 0 → ⊥) →
    key_of (cell_after b D key p post) (pre ++ post) ≡ (first_of post).key
slot_key b D key p pre [] o n = absurd (n refl)
slot_key b D key p pre (x ∷ post) o n = at (dec_le p (shared b D key x.key)) n
  where
    at : Dec (p ≤ shared b D key x.key) → (cond (leb p (shared b D key x.key)) x.cell 0 ≡ 0 → ⊥) →
        key_of (cond (leb p (shared b D key x.key)) x.cell 0) (pre ++ x ∷ post) ≡ x.key
    at (yes h) m =
        let absent = none_occurs x.cell (map (λ z. z.cell) pre) (all_mapped (λ c. x.cell ≡ c → ⊥) (λ z. z.cell) pre
        (all_map (λ z n e. n (sym e)) pre (apart_before pre x post o))) in
        rw (le-leb p (shared b D key x.key) h) (key_of_first x.cell pre x post absent refl)
    at (no h) m = absurd (m (rw (lt-leb p (shared b D key x.key) (omega arith)) refl))

-- The slot of a key between two parts of the row, in a state in order
pub record SlotIs (s : State) (key : ℕ) (pre post : List Node) (t : Slot) : Type 0 where
  pub n_is : t.n ≡ first_number s.free
  pub p_is : t.p ≡ dimension_after s.settings.base s.settings.dimensions head_node pre key
  pub parent_is : t.parent ≡ parent_after s.settings.base s.settings.dimensions head_node pre key
  pub c_is : t.c ≡ cell_after s.settings.base s.settings.dimensions key
      (dimension_after s.settings.base s.settings.dimensions head_node pre key) post
  pub q_is : (t.c ≡ 0 → ⊥) → t.q ≡ shared s.settings.base s.settings.dimensions key (first_of post).key

pub slot_is : (s : State) → Sound s → (key : ℕ) → 0 < key → (g : Gap key s.row) → 0 < length s.free → SlotIs s key g.pre g.post (slot_for s key)
unfolding slot_for dimension_at places
slot_is s v key h g f =
    record {
      n_is = refl;
      p_is = p_is;
      parent_is = parent;
      c_is = c_is;
      q_is = λ ne. ap (shared b D key) (ap₂ key_of c_is g.splits ∙ slot_key b D key p g.pre g.post o.1 (λ e. ne (c_is ∙ e)));
    }
  where
    b : ℕ
    b = s.settings.base

    D : ℕ
    D = s.settings.dimensions

    pos : 0 < b
    pos = base_positive s v

    deep : 0 < D
    deep = dimensions_positive s v

    x : Node
    x = new_node (first_number s.free) key 0 false

    p : ℕ
    p = dimension_after b D head_node g.pre key

    a : Asc 0 (g.pre ++ g.post)
    a = subst (Asc 0) g.splits v.ascends

    o : Apart (head_node ∷ (g.pre ++ g.post))
    o = subst (λ r. Apart (head_node ∷ r)) g.splits (sound_apart s v)

    new : Without x.cell (head_node ∷ (g.pre ++ g.post))
    new = subst (λ r. Without x.cell (head_node ∷ r)) g.splits (first_free_apart s v f)

    p_is : dimension_at (place_of x.cell (places b D (put x s.row))) ≡ p
    p_is =
        ap (λ r. dimension_at (place_of x.cell (places b D r))) (put_gap x s.row g)
        ∙ ap dimension_at (place_at b D head_node 0 head_node 0 g.pre x g.post (all_left (λ z. z.cell ≡ x.cell → ⊥) (head_node ∷ g.pre) g.post new))

    parent : parent_in s x.cell (put x s.row) ≡ parent_after b D head_node g.pre key
    parent =
        ap (parent_in s x.cell) (put_gap x s.row g)
        ∙ parent_is s g.pre x g.post pos deep (asc_put 0 x g.pre g.post h a g.below g.above) (apart_put head_node x g.pre g.post o new)

    c_is : settled_link_at b D (dimension_at (place_of x.cell (places b D (put x s.row))))
        (place_of (parent_in s x.cell (put x s.row)) (places b D s.row)) ≡ cell_after b D key p g.post
    c_is =
        ap₂ (λ d c. settled_link_at b D d (place_of c (places b D s.row))) p_is parent
        ∙ ap (λ r. settled_link_at b D p (place_of (parent_after b D head_node g.pre key) (places b D r))) g.splits
        ∙ slot_c b D pos deep key g.pre g.post h (asc_left 0 g.pre g.post a) (apart_left (head_node ∷ g.pre) g.post o) g.below
        (gap_above key (last_from head_node g.pre).key g.post (asc_last head_node g.pre g.post a) g.above)

-- Changed nodes: a change that keeps cells and keys keeps what is said above

pub without_changed : (f : Node → Node) → Keeping f → (c : ℕ) (row : List Node) → Without c row → Without c (map f row)
without_changed f k c row w = all_mapped (λ z. z.cell ≡ c → ⊥) f row (all_map (λ z n e. n (sym (k.cell z) ∙ e)) row w)

pub apart_changed : (f : Node → Node) → Keeping f → (row : List Node) → Apart row → Apart (map f row)
apart_changed f k [] o = tt
apart_changed f k (x ∷ row) o = (subst (λ c. Without c (map f row)) (sym (k.cell x)) (without_changed f k x.cell row o.0), apart_changed f k row o.1)

unfoldable pub gap_changed : (f : Node → Node) → Keeping f → (key : ℕ) (row : List Node) → Gap key row → Gap key (map f row)
gap_changed f k key row g =
    record {
      pre = map f g.pre;
      post = map f g.post;
      splits = ap (map f) g.splits ∙ map-append f g.pre g.post;
      below = all_mapped (λ y. y.key < key) f g.pre (all_map (λ y h. subst (λ i. i < key) (sym (k.key y)) h) g.pre g.below);
      above = all_mapped (λ y. key < y.key) f g.post (all_map (λ y h. subst (λ i. key < i) (sym (k.key y)) h) g.post g.above);
    }

pub last_changed : (f : Node → Node) → Keeping f → (row : List Node) → last_from head_node (map f row) ≡ f (last_from head_node row)
unfolding last_from
last_changed f k row = ap (λ y. last_from y (map f row)) (sym k.head) ∙ from head_node row
  where
    from : (y : Node) (row : List Node) → last_from (f y) (map f row) ≡ f (last_from y row)
    from y [] = refl
    from y (z ∷ row) = from z row

pub first_changed : (f : Node → Node) → Keeping f → (b D key n : ℕ) (row : List Node) → first_with b D key n (map f row) ≡ first_with b D key n row
unfolding first_with
first_changed f k b D key n [] = refl
first_changed f k b D key n (x ∷ row) = rw (k.key x, k.cell x, first_changed f k b D key n row) refl

pub parent_changed : (f : Node → Node) → Keeping f → (b D : ℕ) (pre : List Node) (key : ℕ) →
    parent_after b D head_node (map f pre) key ≡ parent_after b D head_node pre key
parent_changed f k b D pre key =
    ap (λ i. first_with b D i (suc (shared b D i key)) (head_node ∷ map f pre)) (ap (λ y. y.key) (last_changed f k pre) ∙ k.key (last_from head_node pre))
    ∙ ap (λ y. first_with b D (last_from head_node pre).key (suc (dimension_after b D head_node pre key)) (y ∷ map f pre)) (sym k.head)
    ∙ first_changed f k b D (last_from head_node pre).key (suc (dimension_after b D head_node pre key)) (head_node ∷ pre)
