-- Inserting keeps a state in order. The position stays or becomes the cell of next smaller key; either way its key is then below the
-- inserted one and not above the old position's, and up to there all are dead. Of debts, a new node can touch that of the node
-- before it, which then is its parent, and, by a new dimension, that of the next larger node, which then has the slot: the two that
-- an insert finishes.
use Rattle.std.specs.Prelude.{None, Some}
use mathlib.Core.Path.{◌≡◌, refl, ◌∙◌, sym, ap, ap₂, subst, subst₂}
use mathlib.Core.Bool.{Bool, true, false, cond, not}
use mathlib.Core.List.{List, [], ◌∷◌, ◌++◌, map, map-append}
use Prim.Native.Nat.{ℕ, ◌≤◌, ◌<◌}
use native.Mathlib.Omega.{arith}
use native.Mathlib.Decide.{dec_le}
use lib.Dec.{eqb, leb, ltb}
use lib.ListN.{length, drop, length-append, length-map}
use borrow.Author.Tests.{le-leb, lt-leb, ltb-true, eqb-false, not-true}
use Rattle.lists.specs.Lists.{occurrences}
use Rattle.lists.proofs.Occurrences.{occurrences_here, occurrences_append, occurrences_more, none_occurs}
use Rattle.lists.proofs.All.{All, all_map, all_append, all_left, all_right, all_zip, all_mapped}
use Rattle.lists.proofs.Tests.{both}
use Rattle.meaning.specs.Keys.{shared}
use Rattle.meaning.specs.Row.{Node, head_node, first_of, places_after, places, node_at, smaller_than}
use Rattle.meaning.specs.State.{State, key_of, position_key}
use Rattle.meaning.specs.Operations.{paid, finished, with_row, position_after, revived_node, revived, new_node, slot_for, slot_owes, added}
use Rattle.meaning.specs.declared.Slot.{Slot}
use Rattle.meaning.proofs.Rows.AscendingRow.{Asc}
use Rattle.meaning.proofs.Rows.Keys.{shared_less, ultra}
use Rattle.meaning.proofs.Rows.Nodes.{node_split}
use Rattle.meaning.proofs.Pictures.State.{Sound, Debt, cells_in, base_positive}
use Rattle.meaning.proofs.Pictures.Picture.{first_has}
use Rattle.meaning.proofs.Rows.Places.{asc_left, last_from, dimension_from, Keeping, cells_changed, key_of_head_changed, asc_changed, first_of_changed}
use Rattle.meaning.proofs.Rows.Places.{asc_smaller, asc_larger, on_cell, on_cell-cases, on_cell-keeping, key_of_same, key_of_other, key_of_put}
use Rattle.meaning.proofs.Kept.KeepsState.{changed_sound}
use Rattle.meaning.proofs.Kept.KeepsFinish.{paid_keeping, finished_sound}
use Rattle.meaning.proofs.Rows.Parent.{dimension_after, parent_after, places_from, Without, Apart, all_last, asc_last, apart_at, last_first}
use Rattle.meaning.proofs.Walks.Smaller.{smaller_is}
use Rattle.meaning.proofs.Kept.Slot.{Gap, gap, put_gap, asc_put, apart_put, sound_apart, first_free, dimensions_positive, cell_after, SlotIs}
use Rattle.meaning.proofs.Kept.Slot.{slot_is, without_changed, apart_changed, gap_changed, last_changed, gap_last, first_free_apart}

-- The position

-- a cell that can be the position after a key was inserted: standing, below the key and not above the old position
pub record Lowered (s : State) (key c : ℕ) (row : List Node) : Type 0 where
  pub stands : 0 < occurrences c (0 ∷ map (λ x. x.cell) row)
  pub below : key_of c (head_node ∷ row) < key
  pub least : key_of c (head_node ∷ row) ≤ position_key s

all_stand : (row : List Node) → All (λ z. 0 < occurrences z.cell (map (λ x. x.cell) row)) row
all_stand [] = tt
all_stand (x ∷ row) = (
  omega (arith, occurrences_here x.cell x.cell (map (λ y. y.cell) row) refl),
  all_map (λ z h. let m = occurrences_more z.cell x.cell (map (λ y. y.cell) row) in omega arith) row (all_stand row),
)

-- the last of some nodes is the only one with its cell
pub last_key_of : (y : Node) (pre rest : List Node) → Apart (y ∷ (pre ++ rest)) → key_of (last_from y pre).cell (y ∷ (pre ++ rest)) ≡ (last_from y pre).key
unfolding last_from
last_key_of y [] rest o = key_of_same y.cell y rest refl
last_key_of y (z ∷ pre) rest o =
    let other = all_last (λ w. w.cell ≡ y.cell → ⊥) z pre o.0.0 (all_left (λ w. w.cell ≡ y.cell → ⊥) pre rest o.0.1) in
    key_of_other (last_from z pre).cell y (z ∷ (pre ++ rest)) (λ e. other (sym e)) ∙ last_key_of z pre rest o.1

module _ (s : State) (pre : List Node) (x : Node) (post : List Node) (a : Asc 0 (pre ++ x ∷ post)) (o : Apart (head_node ∷ (pre ++ x ∷ post))) where
  smaller_lowers : x.key ≤ position_key s → Lowered s x.key (last_from head_node pre).cell (pre ++ x ∷ post)
  smaller_lowers h =
      let row = pre ++ x ∷ post in
      let key = last_key_of head_node pre (x ∷ post) o in
      let less = (asc_last head_node pre (x ∷ post) a).0 in
      let all = all_stand (head_node ∷ row) in
      record {
        stands = all_last (λ z. 0 < occurrences z.cell (map (λ y. y.cell) (head_node ∷ row))) head_node pre all.0
            (all_left (λ z. 0 < occurrences z.cell (map (λ y. y.cell) (head_node ∷ row))) pre (x ∷ post) all.1);
        below = omega arith;
        least = omega arith;
      }

  -- the position after the call, where the old one stands, and with its old key
  position_lowers :
      (smaller_than x.key s.row).cell ≡ (last_from head_node pre).cell → 0 < occurrences s.position (0 ∷ map (λ y. y.cell) (pre ++ x ∷ post)) →
      key_of s.position (head_node ∷ (pre ++ x ∷ post)) ≡ position_key s → Lowered s x.key (position_after s x.key) (pre ++ x ∷ post)
  unfolding position_after
  position_lowers is stands same = at (dec_le x.key (position_key s))
    where
      at : Dec (x.key ≤ position_key s) → Lowered s x.key (cond (leb x.key (position_key s)) (smaller_than x.key s.row).cell
          s.position) (pre ++ x ∷ post)
      at (yes h) = rw (le-leb x.key (position_key s) h, is) (smaller_lowers h)
      at (no h) =
          let l : position_key s < x.key = omega arith in
          rw (lt-leb x.key (position_key s) l) (record { stands = stands; below = omega arith; least = omega arith })

-- A dead standing key

module _ (s : State) (x : Node) (value : ℕ) (v : Sound s) (pre post : List Node) (split : s.row ≡ pre ++ x ∷ post) where
  abbrev revive : Node → Node
  revive = on_cell x.cell (revived_node value)

  alone : Without x.cell (head_node ∷ (pre ++ post))
  alone = apart_at head_node pre x post (subst (λ r. Apart (head_node ∷ r)) split (sound_apart s v))

  -- only x has its cell
  same_cell : All (λ y. y.cell ≡ x.cell → y.key ≡ x.key) s.row
  same_cell =
      subst (All (λ y. y.cell ≡ x.cell → y.key ≡ x.key)) (sym split)
      (all_append (λ y. y.cell ≡ x.cell → y.key ≡ x.key) pre (x ∷ post)
      (all_map (λ y n h. absurd (n h)) pre (all_left (λ y. y.cell ≡ x.cell → ⊥) pre post alone.1))
      (λ h. refl, all_map (λ y n h. absurd (n h)) post (all_right (λ y. y.cell ≡ x.cell → ⊥) pre post alone.1)))

  pub revived_keeping : Keeping (on_cell x.cell (revived_node value))
  revived_keeping = on_cell-keeping x.cell (revived_node value) (λ y. refl) (λ y. refl) (λ z. absurd (alone.0 z))

  revived_row : map revive s.row ≡ map revive pre ++ revive x ∷ map revive post
  revived_row = ap (map revive) split ∙ map-append revive pre (x ∷ post)

  revived_ascends : Asc 0 (map revive pre ++ revive x ∷ map revive post)
  revived_ascends = subst (Asc 0) revived_row (asc_changed revive revived_keeping 0 s.row v.ascends)

  revived_apart : Apart (head_node ∷ (map revive pre ++ revive x ∷ map revive post))
  revived_apart =
      let o = sound_apart s v in
      subst (λ r. Apart (head_node ∷ r)) revived_row (
        without_changed revive revived_keeping 0 s.row o.0,
        apart_changed revive revived_keeping
            s.row o.1,
      )

  -- the node of next smaller key, before the call and after it
  revived_smaller : (smaller_than x.key s.row).cell ≡ (last_from head_node (map (on_cell x.cell (revived_node value)) pre)).cell
  revived_smaller =
      let asc = subst (Asc 0) split v.ascends in
      ap (λ r. (smaller_than x.key r).cell) split
      ∙ ap (λ y. y.cell) (smaller_is x.key pre (x ∷ post) (asc_smaller 0 pre x post asc)
      (omega arith, all_map (λ y h. omega arith) post (asc_larger 0 pre x post asc)))
      ∙ sym (ap (λ y. y.cell) (last_changed revive revived_keeping pre) ∙ revived_keeping.cell (last_from head_node pre))

  pub revived_position : x.key ≤ position_key s → (revived s x value).position ≡ (last_from head_node (map (on_cell x.cell (revived_node value)) pre)).cell
  unfolding revived position_after
  revived_position h = rw (le-leb x.key (position_key s) h) revived_smaller

  revived_lowered : Lowered s x.key (position_after s x.key) (map revive s.row)
  revived_lowered =
      subst (Lowered s x.key (position_after s x.key)) (sym revived_row)
      (subst (λ i. Lowered s i (position_after s i) (map revive pre ++ revive x ∷ map revive post)) (revived_keeping.key x)
      (position_lowers s (map revive pre) (revive x) (map revive post) revived_ascends revived_apart
      (ap (λ i. (smaller_than i s.row).cell) (revived_keeping.key x) ∙ revived_smaller)
      (subst (λ r. 0 < occurrences s.position (0 ∷ map (λ y. y.cell) r)) revived_row
      (subst (λ cs. 0 < occurrences s.position (0 ∷ cs)) (sym (cells_changed revive revived_keeping s.row)) v.position))
      (ap (λ r. key_of s.position (head_node ∷ r)) (sym revived_row) ∙ key_of_head_changed revive revived_keeping s.position s.row)))

  revived_sound_at : Sound (revived s x value)
  unfolding revived
  revived_sound_at =
      let p = position_after s x.key in
      let same = key_of_head_changed revive revived_keeping p s.row in
      let below = revived_lowered.below in
      let least = revived_lowered.least in
      changed_sound s revive p v revived_keeping
      (λ y h. on_cell-cases (λ z. z.owes ≡ false) x.cell (revived_node value) y (λ here. h) (λ other. h))
      (all_map (λ y h. on_cell-cases (λ z. z.live ≡ false → z.value ≡ 0) x.cell (revived_node value) y
      (λ here l. absurd (let z : ◌≡◌ {A = ℕ} 0 1 = cc in omega arith)) (λ other. h)) s.row v.values)
      (subst (λ cs. 0 < occurrences p (0 ∷ cs)) (cells_changed revive revived_keeping s.row) revived_lowered.stands)
      (all_zip (λ y only dead l. on_cell-cases (λ z. z.live ≡ false) x.cell (revived_node value) y
      (λ here. absurd (let q = only here in omega arith)) (λ other. dead (omega arith))) s.row same_cell v.dead)

pub revived_sound : (s : State) (x : Node) (value : ℕ) → Sound s → node_at x.key s.row ≡ Some x → x.live ≡ false → Sound (revived s x value)
revived_sound s x value v e dead = let t = node_split x.key x s.row e in revived_sound_at s x value v t.0 t.1 t.2

-- A new node

-- a cell goes from the free ones to the standing ones
moved_all : (P : ℕ → Type 0) (front back : List ℕ) (c : ℕ) (free : List ℕ) → All P ((front ++ back) ++ (c ∷ free)) → All P ((front ++ c ∷ back) ++ free)
moved_all P front back c free a =
    let standing = all_left P (front ++ back) (c ∷ free) a in
    let rest = all_right P (front ++ back) (c ∷ free) a in
    all_append P (front ++ c ∷ back) free (all_append P front (c ∷ back) (all_left P front back standing) (rest.0, all_right P front back standing)) rest.1

moved_occurrences : (n : ℕ) (front back : List ℕ) (c : ℕ) (free : List ℕ) →
    occurrences n ((front ++ c ∷ back) ++ free) ≡ occurrences n ((front ++ back) ++ (c ∷ free))
moved_occurrences n front back c free =
    omega (
      arith,
      occurrences_append n (front ++ c ∷ back) free,
      occurrences_append n front (c ∷ back),
      occurrences_append n (c ∷ [])
          back,
      occurrences_append n (front ++ back) (c ∷ free),
      occurrences_append n front back,
      occurrences_append n (c ∷ []) free,
    )

moved_length : (front back : List ℕ) (c : ℕ) (free : List ℕ) → length ((front ++ c ∷ back) ++ free) ≡ length ((front ++ back) ++ (c ∷ free))
moved_length front back c free =
    omega (arith, length-append (front ++ c ∷ back) free, length-append front (c ∷ back), length-append (front ++ back) (c ∷ free), length-append front back)

module _ (b D : ℕ) where
  abbrev Allowed : List Node → Node → ℕ → Type 0
  Allowed row y e = All (λ n. n.node.owes ≡ true → Debt b D n) (places_after b D y e row)

  -- a debt does not depend on the dimension of the node before
  debts_any : (y : Node) (e f : ℕ) (row : List Node) → Allowed row y e → Allowed row y f
  unfolding places_after
  debts_any y e f [] a = tt
  debts_any y e f (x ∷ row) a = (λ h. let d = a.0 h in record { later = d.later; unowing = d.unowing; lower = d.lower }, a.1)

  -- nor, but for the next larger node's, on what comes before
  debts_behind : (y x : Node) (e f : ℕ) (post : List Node) → ((first_of post).owes ≡ true →
      shared b D y.key (first_of post).key ≡ shared b D x.key (first_of post).key) → Allowed post y e → Allowed post x f
  unfolding places_after
  debts_behind y x e f [] same a = tt
  debts_behind y x e f (z ∷ post) same a = (
    λ h. let d = a.0 h in record {
      later = d.later;
      unowing = d.unowing;
      lower = subst (λ i. i < shared b D z.key (first_of post).key) (same h) d.lower;
    },
    debts_any z (shared b D y.key z.key) (shared b D x.key z.key) post a.1,
  )

  -- Debts stay allowed where a new node x comes after one that does not owe, if the debt of x is allowed and the next larger node,
  -- if it owes, shares as much with x as with the one before.
  debts_put :
      (w : Node) (f : ℕ) (y : Node) (e : ℕ) (pre : List Node) (x : Node) (post : List Node) → (last_from y pre).owes ≡ false →
      (x.owes ≡ true → Debt b D (record {
        node = x;
        dimension = dimension_after b D y pre x.key;
        before = last_from y pre;
        before_dimension = dimension_from b D y e pre;
        later = post;
      })) →
      ((first_of post).owes ≡ true → dimension_after b D y pre (first_of post).key ≡ shared b D x.key (first_of post).key) →
      All (λ n. n.node.owes ≡ true → Debt b D n) (places_from b D w f y e (pre ++ post)) →
      All (λ n. n.node.owes ≡ true → Debt b D n) (places_from b D w f y e (pre ++ x ∷ post))
  unfolding places_after last_from dimension_from
  debts_put w f y e [] x post un own same a = (
    λ h. absurd (let z : ◌≡◌ {A = ℕ} 0 1 = cc in omega arith),
    (own, debts_behind y x e (shared b D y.key x.key) post same a.1),
  )
  debts_put w f y e (z ∷ pre) x post un own same a = (
    λ h. let d = a.0 h in
        record { later = omega arith; unowing = d.unowing; lower = d.lower },
    debts_put y e z (shared b D y.key z.key) pre x post un own same
        a.1,
  )

-- a state in order with a node more, in the first free cell, and another position
pub put_sound :
    (s : State) (x : Node) (free : List ℕ) (p : ℕ) → Sound s → 0 < x.key → x.key ≤ s.settings.largest → (g : Gap x.key s.row) →
    s.free ≡ x.cell ∷ free →
    (x.live ≡ false → x.value ≡ 0) → (last_from head_node g.pre).owes ≡ false →
    (x.owes ≡ true → Debt s.settings.base s.settings.dimensions
    (record {
      node = x;
      dimension = dimension_after s.settings.base s.settings.dimensions head_node g.pre x.key;
      before = last_from head_node g.pre;
      before_dimension = dimension_from s.settings.base s.settings.dimensions head_node 0 g.pre;
      later = g.post;
    })) →
    ((first_of g.post).owes ≡ true → dimension_after s.settings.base s.settings.dimensions head_node g.pre (first_of g.post).key
    ≡ shared s.settings.base s.settings.dimensions x.key (first_of g.post).key) →
    Lowered s x.key p (g.pre ++ x ∷ g.post) → Sound (record { settings = s.settings; row = g.pre ++ x ∷ g.post; free = free; position = p })
unfolding places
put_sound s x free p v h most g first value un own same lowered =
    record {
      ranges = v.ranges;
      base = v.base;
      ascends = asc_put 0 x pre post h (subst (Asc 0) g.splits v.ascends) g.below g.above;
      keys = nodes (λ y. y.key ≤ s.settings.largest) most v.keys;
      count = ap length new ∙ moved_length front back x.cell free ∙ sym (ap length old) ∙ v.count;
      range = subst (All Range) (sym new) (moved_all Range front back x.cell free (subst (All Range) old v.range));
      once =
          subst (λ cs. All (λ c. occurrences c cs ≡ 1) cs) (sym new)
          (all_map (λ c e. moved_occurrences c front back x.cell free ∙ e) ((front ++ x.cell ∷ back) ++ free)
          (moved_all (λ c. occurrences c ((front ++ back) ++ (x.cell ∷ free)) ≡ 1) front back x.cell free
          (subst (λ cs. All (λ c. occurrences c cs ≡ 1) cs) old v.once)));
      values = nodes (λ y. y.live ≡ false → y.value ≡ 0) value v.values;
      debts = debts_put b D head_node 0 head_node 0 pre x post un own same
          (subst (λ r. All (λ n. n.node.owes ≡ true → Debt b D n) (places b D r)) g.splits v.debts);
      position = lowered.stands;
      dead =
          nodes (λ y. y.key ≤ key_of p (head_node ∷ (pre ++ x ∷ post)) → y.live ≡ false) (λ l. absurd (let k = lowered.below in omega arith))
          (all_map (λ y dead l. dead (let k = lowered.least in omega arith)) s.row v.dead);
    }
  where
    b : ℕ
    b = s.settings.base

    D : ℕ
    D = s.settings.dimensions

    pre : List Node
    pre = g.pre

    post : List Node
    post = g.post

    Range : ℕ → Type 0
    Range c = (0 < c) × (c < s.settings.cells)

    front : List ℕ
    front = map (λ y. y.cell) pre

    back : List ℕ
    back = map (λ y. y.cell) post

    old : cells_in s ≡ (front ++ back) ++ (x.cell ∷ free)
    old = ap₂ (λ r cs. map (λ y. y.cell) r ++ cs) g.splits first ∙ ap (λ cs. cs ++ (x.cell ∷ free)) (map-append (λ y. y.cell) pre post)

    new : map (λ y. y.cell) (pre ++ x ∷ post) ++ free ≡ (front ++ x.cell ∷ back) ++ free
    new = ap (λ cs. cs ++ free) (map-append (λ y. y.cell) pre (x ∷ post))

    nodes : (P : Node → Type 0) → P x → All P s.row → All P (pre ++ x ∷ post)
    nodes P q a = let c = subst (All P) g.splits a in all_append P pre (x ∷ post) (all_left P pre post c) (q, all_right P pre post c)

-- What the slot says of the next larger node

first_owes : (post : List Node) → (first_of post).owes ≡ true → 0 < length post
first_owes [] h = absurd (let z : ◌≡◌ {A = ℕ} 0 1 = cc in omega arith)
first_owes (x ∷ post) h = omega arith

-- it has the slot
pub slot_first : (b D key p : ℕ) (post : List Node) → (cell_after b D key p post ≡ 0 → ⊥) → (0 < length post) × (cell_after b D key p post ≡ (first_of post).cell)
slot_first b D key p [] n = absurd (n refl)
slot_first b D key p (x ∷ post) n = at (dec_le p (shared b D key x.key)) n
  where
    at : Dec (p ≤ shared b D key x.key) → (cond (leb p (shared b D key x.key)) x.cell 0 ≡ 0 → ⊥) →
        (0 < length (x ∷ post)) × (cond (leb p (shared b D key x.key)) x.cell 0 ≡ x.cell)
    at (yes h) m = (omega arith, rw (le-leb p (shared b D key x.key) h) refl)
    at (no h) m = absurd (m (rw (lt-leb p (shared b D key x.key) (omega arith)) refl))

-- or it shares less with the key
pub slot_not_first : (b D key p : ℕ) (post : List Node) → 0 < length post → ((first_of post).cell ≡ cell_after b D key p post → ⊥) →
    shared b D key (first_of post).key < p
slot_not_first b D key p [] h n = absurd (omega arith)
slot_not_first b D key p (x ∷ post) h n = at (dec_le p (shared b D key x.key)) n
  where
    at : Dec (p ≤ shared b D key x.key) → (x.cell ≡ cond (leb p (shared b D key x.key)) x.cell 0 → ⊥) → shared b D key x.key < p
    at (yes q) m = absurd (m (rw (le-leb p (shared b D key x.key) q) refl))
    at (no q) m = omega arith

-- The node before a new key

debt_last :
    (b D : ℕ) (w : Node) (f : ℕ) (y : Node) (e : ℕ) (pre post : List Node) →
    All (λ n. n.node.owes ≡ true → Debt b D n) (places_from b D w f y e (pre ++ post)) →
    (last_from y pre).owes ≡ true → (0 < length post) × (dimension_from b D y e pre < dimension_after b D y pre (first_of post).key)
unfolding places_after last_from dimension_from
debt_last b D w f y e [] post a h = let d = a.0 h in (d.later, d.lower)
debt_last b D w f y e (z ∷ pre) post a h = debt_last b D y e z (shared b D y.key z.key) pre post a.1 h

-- If it owes, it is the key's parent: its dimension is below what it shares with the next larger node, and that is no more than what
-- it shares with the key.
pub owing_parent :
    (s : State) → Sound s → (key : ℕ) → 0 < key → (g : Gap key s.row) → (last_from head_node g.pre).owes ≡ true →
    parent_after s.settings.base s.settings.dimensions head_node g.pre key ≡ (last_from head_node g.pre).cell
unfolding places
owing_parent s v key h g owes =
    let b = s.settings.base in
    let D = s.settings.dimensions in
    let A = last_from head_node g.pre in
    let t = debt_last b D head_node 0 head_node 0 g.pre g.post (subst (λ r. All (λ n. n.node.owes ≡ true → Debt b D n) (places b D r))
    g.splits v.debts) owes in
    let low = gap_last h g in
    let high = first_has (λ y. key < y.key) g.post g.above t.0 in
    let u = ultra b D A.key key (first_of g.post).key (base_positive s v) (omega arith) (omega arith) in
    let l = t.1 in
    let m = shared_less b D A.key key (dimensions_positive s v) (omega arith) in
    last_first b D (base_positive s v) (dimensions_positive s v) (shared b D A.key key) head_node 0 g.pre
    (asc_left 0 g.pre g.post (subst (Asc 0) g.splits v.ascends)) m (omega arith)

-- The row with one node more

occurrences_put : (c : ℕ) (x : Node) (pre post : List Node) → occurrences c (map (λ y. y.cell) (pre ++ post)) ≤ occurrences c
    (map (λ y. y.cell) (pre ++ x ∷ post))
occurrences_put c x pre post =
    let front = map (λ y. y.cell) pre in
    let back = map (λ y. y.cell) post in
    let old = ap (occurrences c) (map-append (λ y. y.cell) pre post) ∙ occurrences_append c front back in
    let new = ap (occurrences c) (map-append (λ y. y.cell) pre (x ∷ post)) ∙ occurrences_append c front (x.cell ∷ back) in
    let more = occurrences_more c x.cell back in
    omega arith

-- A key that does not stand

-- what still owes owed before and was not finished
pub paid_owes : (c : ℕ) (x : Node) → (on_cell c paid x).owes ≡ true → (x.owes ≡ true) × (x.cell ≡ c → ⊥)
paid_owes c x = on_cell-cases (λ y. y.owes ≡ true → (x.owes ≡ true) × (x.cell ≡ c → ⊥)) c paid x
    (λ here h. absurd (let z : ◌≡◌ {A = ℕ} 0 1 = cc in omega arith)) (λ other h. (h, other))

-- the state with what the parent owes finished, and then what c owes
abbrev pub parent_paid : State → Slot → State
parent_paid s t = with_row s (finished t.parent s.row)

abbrev pub both_paid : State → Slot → State
both_paid s t = with_row (parent_paid s t) (finished t.c (finished t.parent s.row))

pub both_sound : (s : State) (t : Slot) → Sound s → Sound (both_paid s t)
both_sound s t v = finished_sound (parent_paid s t) t.c (finished_sound s t.parent v)

-- the gap in its row
unfoldable pub both_gap : (s : State) (t : Slot) (key : ℕ) → Gap key s.row → Gap key (both_paid s t).row
unfolding finished
both_gap s t key g =
    gap_changed (on_cell t.c paid) (paid_keeping t.c) key (finished t.parent s.row)
    (gap_changed (on_cell t.parent paid) (paid_keeping t.parent) key s.row g)

pub both_position : (s : State) (t : Slot) → position_key (both_paid s t) ≡ position_key s
unfolding finished
both_position s t =
    key_of_head_changed (on_cell t.c paid) (paid_keeping t.c) s.position (finished t.parent s.row)
    ∙ key_of_head_changed (on_cell t.parent paid) (paid_keeping t.parent) s.position s.row

module _ (s : State) (v : Sound s) (key value : ℕ) (positive : 0 < key) (g : Gap key s.row) (f : 0 < length s.free) (t : Slot)
    (i : SlotIs s key g.pre g.post t) where
  abbrev b : ℕ
  b = s.settings.base

  abbrev D : ℕ
  D = s.settings.dimensions

  abbrev x : Node
  x = new_node t.n key value (slot_owes t)

  -- the state before x is put into it
  abbrev settled : State
  settled = both_paid s t

  settled_sound : Sound settled
  settled_sound = both_sound s t v

  abbrev pay : Node → Node
  pay y = on_cell t.c paid (on_cell t.parent paid y)

  abbrev front : List Node
  front = finished t.c (finished t.parent g.pre)

  abbrev back : List Node
  back = finished t.c (finished t.parent g.post)

  pay_key : (y : Node) → (pay y).key ≡ y.key
  pay_key y = (paid_keeping t.c).key (on_cell t.parent paid y) ∙ (paid_keeping t.parent).key y

  pay_cell : (y : Node) → (pay y).cell ≡ y.cell
  pay_cell y = (paid_keeping t.c).cell (on_cell t.parent paid y) ∙ (paid_keeping t.parent).cell y

  last_paid : last_from head_node front ≡ pay (last_from head_node g.pre)
  unfolding finished
  last_paid = last_changed (on_cell t.c paid) (paid_keeping t.c) (finished t.parent g.pre)
      ∙ ap (on_cell t.c paid) (last_changed (on_cell t.parent paid) (paid_keeping t.parent) g.pre)

  next_paid : first_of back ≡ pay (first_of g.post)
  unfolding finished
  next_paid = first_of_changed (on_cell t.c paid) (paid_keeping t.c) (finished t.parent g.post)
      ∙ ap (on_cell t.c paid) (first_of_changed (on_cell t.parent paid) (paid_keeping t.parent) g.post)

  last_key_lem : (last_from head_node front).key ≡ (last_from head_node g.pre).key
  last_key_lem = ap (λ y. y.key) last_paid ∙ pay_key (last_from head_node g.pre)

  next_key : (first_of back).key ≡ (first_of g.post).key
  next_key = ap (λ y. y.key) next_paid ∙ pay_key (first_of g.post)

  -- if the node before x owed, it is the parent, whose debt is finished
  last_unowing : (last_from head_node front).owes ≡ false
  last_unowing = ap (λ y. y.owes) last_paid ∙ at (pay (last_from head_node g.pre)).owes refl
    where
      at : (o : Bool) → (pay (last_from head_node g.pre)).owes ≡ o → o ≡ false
      at false e = refl
      at true e =
          let p = paid_owes t.parent (last_from head_node g.pre) (paid_owes t.c (on_cell t.parent paid (last_from head_node g.pre)) e).0 in
          absurd (p.1 (sym (i.parent_is ∙ owing_parent s v key positive g p.0)))

  -- x owes to c, whose debt is finished
  new_debt : x.owes ≡ true → Debt b D (record {
    node = x;
    dimension = dimension_after b D head_node front key;
    before = last_from head_node front;
    before_dimension = dimension_from b D head_node 0 front;
    later = back;
  })
  unfolding finished
  new_debt owes =
      let two = both (not (eqb t.c 0)) (ltb t.p t.q) owes in
      let held : t.c ≡ 0 → ⊥ = eqb-false t.c 0 (not-true (eqb t.c 0) two.0) in
      let less = ltb-true t.p t.q two.1 in
      let next = slot_first b D key (dimension_after b D head_node g.pre key) g.post (λ e. held (i.c_is ∙ e)) in
      let here : (on_cell t.parent paid (first_of g.post)).cell ≡ t.c = (paid_keeping t.parent).cell (first_of g.post) ∙ sym (i.c_is ∙ next.1) in
      record {
        later = rw (length-map (map (on_cell t.parent paid) g.post) (on_cell t.c paid), length-map g.post (on_cell t.parent paid)) next.0;
        unowing = ap (λ y. y.owes) next_paid ∙ on_cell-cases (λ y. y.owes ≡ false) t.c paid (on_cell t.parent paid (first_of g.post))
            (λ e. refl) (λ other. absurd (other here));
        lower = subst₂ (λ m n. shared b D m key < shared b D key n) (sym last_key_lem) (sym next_key) (subst₂ (λ m n. m < n) i.p_is (i.q_is held) less);
      }

  -- if the next larger node still owes, it does not have the slot, and its dimension stays
  next_same : (first_of back).owes ≡ true → dimension_after b D head_node front (first_of back).key ≡ shared b D key (first_of back).key
  next_same owes =
      let c = paid_owes t.c (on_cell t.parent paid (first_of g.post)) (sym (ap (λ y. y.owes) next_paid) ∙ owes) in
      let stands = first_owes g.post (paid_owes t.parent (first_of g.post) c.0).0 in
      let less = slot_not_first b D key (dimension_after b D head_node g.pre key) g.post stands
      (λ e. c.1 ((paid_keeping t.parent).cell (first_of g.post) ∙ e ∙ sym i.c_is)) in
      let low = gap_last positive g in
      let high = first_has (λ y. key < y.key) g.post g.above stands in
      let u = ultra b D (last_from head_node g.pre).key key (first_of g.post).key (base_positive s v) (omega arith) (omega arith) in
      let same : shared b D (last_from head_node g.pre).key (first_of g.post).key ≡ shared b D key (first_of g.post).key = omega arith in
      subst₂ (λ m n. shared b D m n ≡ shared b D key n) (sym last_key_lem) (sym next_key) same

  -- The cell of x is new, and the position's is not

  new_cell : Without x.cell (head_node ∷ settled.row)
  new_cell = subst (λ c. Without c (head_node ∷ settled.row)) (sym i.n_is) (first_free_apart settled settled_sound f)

  position_old : x.cell ≡ s.position → ⊥
  position_old e =
      let absent = none_occurs x.cell (map (λ y. y.cell) (head_node ∷ settled.row))
      (all_mapped (λ c. x.cell ≡ c → ⊥) (λ y. y.cell) (head_node ∷ settled.row)
      (all_map (λ y n m. n (sym m)) (head_node ∷ settled.row) new_cell)) in
      let stands = subst (λ c. 0 < occurrences c (map (λ y. y.cell) (head_node ∷ settled.row))) (sym e) settled_sound.position in
      omega arith

  settled_row : settled.row ≡ front ++ back
  unfolding both_gap finished gap_changed
  settled_row = (both_gap s t key g).splits

  new_ascends : Asc 0 (front ++ x ∷ back)
  unfolding both_gap finished gap_changed
  new_ascends = asc_put 0 x front back positive (subst (Asc 0) settled_row settled_sound.ascends) (both_gap s t key g).below (both_gap s t key g).above

  new_apart : Apart (head_node ∷ (front ++ x ∷ back))
  new_apart = apart_put head_node x front back (subst (λ r. Apart (head_node ∷ r)) settled_row (sound_apart settled settled_sound))
      (subst (λ r. Without x.cell (head_node ∷ r)) settled_row new_cell)

  -- the node of next smaller key, before the call and after it
  new_smaller : (smaller_than key s.row).cell ≡ (last_from head_node front).cell
  new_smaller =
      ap (λ r. (smaller_than key r).cell) g.splits
      ∙ ap (λ y. y.cell) (smaller_is key g.pre g.post g.below (all_map (λ y h. omega arith) g.post g.above))
      ∙ sym (ap (λ y. y.cell) last_paid ∙ pay_cell (last_from head_node g.pre))

  -- the old position's cell has the key that it had
  old_key : key_of s.position (head_node ∷ (front ++ x ∷ back)) ≡ position_key s
  old_key =
      key_of_put s.position x (head_node ∷ front) back position_old ∙ ap (λ r. key_of s.position (head_node ∷ r)) (sym settled_row) ∙ both_position s t

  new_lowered : Lowered settled key (position_after s key) (front ++ x ∷ back)
  new_lowered =
      let more = occurrences_put s.position x (head_node ∷ front) back in
      let stands = subst (λ r. 0 < occurrences s.position (0 ∷ map (λ y. y.cell) r)) settled_row settled_sound.position in
      let l = position_lowers s front x back new_ascends new_apart new_smaller (omega arith) old_key in
      record {
        stands = l.stands;
        below = l.below;
        least = subst (λ k. key_of (position_after s key) (head_node ∷ (front ++ x ∷ back)) ≤ k) (sym (both_position s t)) l.least;
      }

  pub added_row :
      (added s key value t).row
      ≡ finished t.c (finished t.parent g.pre) ++ new_node t.n key value (slot_owes t) ∷ finished t.c (finished t.parent g.post)
  unfolding added both_gap finished gap_changed
  added_row = put_gap x settled.row (both_gap s t key g)

  -- The operations 2: where the position goes
  pub added_position_lowered : key ≤ position_key s →
      (added s key value t).position ≡ (last_from head_node (finished t.c (finished t.parent g.pre))).cell
  unfolding added position_after
  added_position_lowered h = rw (le-leb key (position_key s) h) new_smaller

  pub added_position_kept : position_key s < key → (added s key value t).position ≡ s.position
  unfolding added position_after
  added_position_kept h = rw (lt-leb key (position_key s) h) refl

  pub added_key_kept : position_key s < key → position_key (added s key value t) ≡ position_key s
  added_key_kept h = ap₂ (λ c r. key_of c (head_node ∷ r)) (added_position_kept h) added_row ∙ old_key

  pub added_sound_at : key ≤ s.settings.largest → Sound (added s key value t)
  unfolding added both_gap finished gap_changed
  added_sound_at most =
      subst (λ r. Sound (record { settings = s.settings; row = r; free = drop 1 s.free; position = position_after s key })) (sym added_row)
      (put_sound settled x (drop 1 s.free) (position_after s key) settled_sound positive most (both_gap s t key g)
      (first_free s.free f ∙ ap {B = List ℕ} (λ c. c ∷ drop 1 s.free) (sym i.n_is))
      (λ l. absurd (let z : ◌≡◌ {A = ℕ} 0 1 = cc in omega arith)) last_unowing new_debt next_same new_lowered)

pub added_sound : (s : State) (key value : ℕ) → Sound s → 1 ≤ key → key ≤ s.settings.largest → node_at key s.row ≡ None → 0 < length s.free →
    Sound (added s key value (slot_for s key))
added_sound s key value v positive most e f =
    let g = gap key 0 s.row v.ascends e in
    added_sound_at s v key value positive g f (slot_for s key) (slot_is s v key positive g f) most
