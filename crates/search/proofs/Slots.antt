-- What the search answers of a key, for insert, find and finish. Of one that stands: its node's cell. Of one that does not: the slot in which
-- an insert puts it. Either way the cells named are standing ones.
use Rattle.std.specs.Prelude.{Option, None, Some}
use mathlib.Core.Path.{◌≡◌, refl, sym, ap, ◌∙◌, subst}
use mathlib.Core.Bool.{true, false, cond, false≢true}
use mathlib.Core.List.{List, [], ◌∷◌, ◌++◌, map}
use Prim.Native.Nat.{ℕ, suc, ◌≤◌, ◌<◌}
use native.Mathlib.Decide.{ℕ_discrete}
use native.Mathlib.Omega.{arith}
use lib.Dec.{eqb}
use lib.ListN.{length}
use borrow.Author.Tests.{eq-eqb, ne_eqb}
use Rattle.settings.specs.declared.Settings.{Settings}
use Rattle.lists.specs.Lists.{occurrences}
use Rattle.lists.proofs.Occurrences.{occurrences_between}
use Rattle.lists.proofs.All.{All, all_left, all_right, all_of_map, all_splits}
use Rattle.meaning.specs.Row.{Node, head_node, Place, places, place_of, node_at}
use Rattle.meaning.specs.State.{State}
use Rattle.meaning.specs.Picture.{mark, picture}
use Rattle.meaning.specs.Reading.{read}
use Rattle.meaning.specs.Words.{mark_at}
use Rattle.meaning.specs.Operations.{looked, slot_for}
use Rattle.meaning.specs.declared.Slot.{Slot}
use Rattle.meaning.proofs.Rows.Keys.{shared_less}
use Rattle.meaning.proofs.Pictures.State.{Sound}
use Rattle.meaning.proofs.Rows.Places.{last_from}
use Rattle.meaning.proofs.Rows.Parent.{dimension_after, Apart, all_last, apart_before, place_at, first_among}
use Rattle.meaning.proofs.Kept.Slot as slot
use Rattle.meaning.proofs.Rows.Nodes.{node_split}
use Rattle.meaning.proofs.Kept.KeepsInsert.{slot_first}
use Rattle.meaning.proofs.Cells.Placed.{Placed, occurs_placed, placed_below, mark_one, mark_other, place_mark}
use Rattle.meaning.proofs.Rows.Nodes.{node_key, node_has}
use Rattle.words.proofs.Listed.{on_listed}
use Rattle.search.specs.Found.{slot_number, slot_parent, slot_shared, slot_cell, found_at, found_of, Sought}
use Rattle.search.specs.declared.Found.{Found}
use Rattle.search.proofs.Sides.{Sides, sides_absent, sides_present, last_below_lem, SlotAt, slot_at}

-- Standing cells

-- the head or a cell of the row
abbrev pub Stands : State → ℕ → Type 0
Stands s c = 0 < occurrences c (0 ∷ map (λ x. x.cell) s.row)

pub all_stand : (s : State) → Stands s 0 × All (λ x. Stands s x.cell) s.row
all_stand s =
    let cells : List ℕ = 0 ∷ map (λ x. x.cell) s.row in
    let all = all_splits (λ c. 0 < occurrences c cells) cells (λ front c later e. let n = ap (occurrences c) e in
    omega (arith, n, occurrences_between c front later)) in
    (all.0, all_of_map (λ c. 0 < occurrences c cells) (λ x. x.cell) s.row all.1)

pub stands_below : {s : State} → Sound s → (c : ℕ) → Stands s c → c < s.settings.cells
stands_below {s} v c h = placed_below v (occurs_placed s c h).1

-- the place of the node with a key
pub node_placed : {s : State} → Sound s → (k : ℕ) (x : Node) → node_at k s.row ≡ Some x → (p : Place) × (Placed s x.cell p × (p.node ≡ x))
unfolding places
node_placed {s} v k x e =
    let b = s.settings.base in
    let D = s.settings.dimensions in
    let split = node_split k x s.row e in
    let pre = split.0 in
    let post = split.1 in
    let o = apart_before (head_node ∷ pre) x post (subst (λ r. Apart (head_node ∷ r)) split.2 (slot.sound_apart s v)) in
    let found = place_at b D head_node 0 head_node 0 pre x post o in
    (_, (record { found = ap (λ r. place_of x.cell (places b D r)) split.2 ∙ found }, refl))

-- What is answered

-- of a key that stands, with node x
pub record Present (s : State) (k : ℕ) (x : Node) (f : Found) : Type 0 where
  pub node : node_at k s.row ≡ Some x
  pub standing : f.standing ≡ true
  pub c : f.c ≡ x.cell
  pub looked : f.looked ≡ looked s k
  pub parent_stands : Stands s f.parent
  pub c_stands : Stands s f.c
  pub parent_below : f.parent < s.settings.cells
  pub c_below : f.c < s.settings.cells
  pub p_below : f.p < s.settings.dimensions

-- of a key that does not; c is 0, and with it q, where no cell has the slot
pub record Absent (s : State) (k : ℕ) (f : Found) : Type 0 where
  pub node : node_at k s.row ≡ None
  pub standing : f.standing ≡ false
  pub looked : f.looked ≡ looked s k
  pub parent_stands : Stands s f.parent
  pub c_stands : Stands s f.c
  pub parent_below : f.parent < s.settings.cells
  pub c_below : f.c < s.settings.cells
  pub p_below : f.p < s.settings.dimensions
  pub q_below : f.q < s.settings.dimensions
  pub q_none : f.c ≡ 0 → f.q ≡ 0

-- the answer f is the slot t
pub record SlotFound (f : Found) (t : Slot) : Type 0 where
  pub parent : f.parent ≡ t.parent
  pub p : f.p ≡ t.p
  pub c : f.c ≡ t.c
  pub q : (f.c ≡ 0 → ⊥) → f.q ≡ t.q

module _ (s : State) (v : Sound s) (k : ℕ) (least : 1 ≤ k) where
  -- parent and number, of either
  parent_stands : {pre middle post : List Node} → Sides k s.row pre middle post → Stands s (slot_parent s k)
  parent_stands {pre} {middle} {post} g =
      let b = s.settings.base in
      let D = s.settings.dimensions in
      let all = all_stand s in
      rw (slot_at s v k least g).parent
      (first_among b D (Stands s) (last_from head_node pre).key (suc (dimension_after b D head_node pre k)) head_node pre
      (last_below_lem b D k pre (slot.dimensions_positive s v) least g.below) all.0
      (all_left (λ x. Stands s x.cell) pre (middle ++ post) (subst (All (λ x. Stands s x.cell)) g.splits all.1)))

  number_below : {pre middle post : List Node} → Sides k s.row pre middle post → slot_number s k < s.settings.dimensions
  number_below {pre} g =
      let b = s.settings.base in
      let D = s.settings.dimensions in
      let low : (last_from head_node pre).key < k = all_last (λ z. z.key < k) head_node pre least g.below in
      omega (arith, (slot_at s v k least g).number, shared_less b D (last_from head_node pre).key k (slot.dimensions_positive s v) (omega arith))

  -- what has the slot, where k does not stand: the node of next larger key, if any
  slot_holds : (pre post : List Node) → SlotAt s k pre post → All (λ y. k < y.key) post → All (λ x. Stands s x.cell) post → Dec (slot_cell s k ≡ 0) →
      Stands s (slot_cell s k) × (cond (eqb (slot_cell s k) 0) 0 (slot_shared s k) < s.settings.dimensions)
  slot_holds pre post t above all (yes e) =
      (subst (Stands s) (sym e) (all_stand s).0, rw (eq-eqb (slot_cell s k) 0 e) (slot.dimensions_positive s v))
  slot_holds pre [] t above all (no ne) = absurd (ne t.cell)
  slot_holds pre (x ∷ post) t above all (no ne) =
      let b = s.settings.base in
      let D = s.settings.dimensions in
      let h = above.0 in
      let less = shared_less b D k x.key (slot.dimensions_positive s v) (omega arith) in (
        subst (Stands s) (sym (t.cell ∙ (slot_first b D k (dimension_after b D head_node pre k) (x ∷ post) (λ e. ne (t.cell ∙ e))).1)) all.0,
        rw (ne_eqb (slot_cell s k) 0 ne, t.shares) less,
      )

  pub present_at : (x : Node) → node_at k s.row ≡ Some x → Present s k x (found_at s k (Some x))
  unfolding found_at
  present_at x e =
      let split = node_split k x s.row e in
      let pre = split.0 in
      let post = split.1 in
      let key = node_key k x s.row e in
      let g = sides_present pre x post v.ascends key split.2 in
      let stands = parent_stands g in
      let c_stands = node_has (λ y. Stands s y.cell) k x s.row e (all_stand s).1 in
      record {
        node = e;
        standing = refl;
        c = refl;
        looked = refl;
        parent_stands = stands;
        c_stands = c_stands;
        parent_below = stands_below v (slot_parent s k) stands;
        c_below = stands_below v x.cell c_stands;
        p_below = number_below g;
      }

  pub absent_at : node_at k s.row ≡ None → Absent s k (found_at s k None)
  unfolding found_at
  absent_at e =
      let gap = slot.gap k 0 s.row v.ascends e in
      let g = sides_absent gap in
      let t = slot_at s v k least g in
      let stands = parent_stands g in
      let all = all_right (λ x. Stands s x.cell) gap.pre gap.post (subst (All (λ x. Stands s x.cell)) gap.splits (all_stand s).1) in
      let held = slot_holds gap.pre gap.post t gap.above all (ℕ_discrete (slot_cell s k) 0) in
      record {
        node = e;
        standing = refl;
        looked = refl;
        parent_stands = stands;
        c_stands = held.0;
        parent_below = stands_below v (slot_parent s k) stands;
        c_below = stands_below v (slot_cell s k) held.0;
        p_below = number_below g;
        q_below = held.1;
        q_none = λ z. rw (eq-eqb (slot_cell s k) 0 z) refl;
      }

  -- the slot in which an insert puts the key
  pub slot_at_absent : node_at k s.row ≡ None → 0 < length s.free → SlotFound (found_at s k None) (slot_for s k)
  unfolding found_at
  slot_at_absent e room =
      let gap = slot.gap k 0 s.row v.ascends e in
      let t = slot_at s v k least (sides_absent gap) in
      let is = slot.slot_is s v k least gap room in
      let c : slot_cell s k ≡ (slot_for s k).c = t.cell ∙ sym is.c_is in
      record {
        parent = t.parent ∙ sym is.parent_is;
        p = t.number ∙ sym is.p_is;
        c = c;
        q = λ ne. rw (ne_eqb (slot_cell s k) 0 ne) (t.shares ∙ sym (is.q_is (λ z. ne (c ∙ z))));
      }

-- the same of an answer of the search, by whether the key stands

module _ {s : State} (v : Sound s) {k : ℕ} (least : 1 ≤ k) {f : Found} (is : f ≡ found_of s k) where
  pub found_standing : f.standing ≡ true → (x : Node) × Present s k x f
  unfolding found_of found_at
  found_standing t = at (node_at k s.row) refl
    where
      at : (o : Option Node) → node_at k s.row ≡ o → (x : Node) × Present s k x f
      at None e = absurd (let q : f ≡ found_at s k None = is ∙ ap (found_at s k) e in let z : false ≡ true = sym (ap (λ g. g.standing) q) ∙ t in false≢true z)
      at (Some x) e = (x, subst (Present s k x) (sym (is ∙ ap (found_at s k) e)) (present_at s v k least x e))

  pub found_missing : f.standing ≡ false → Absent s k f
  unfolding found_of found_at
  found_missing t = at (node_at k s.row) refl
    where
      at : (o : Option Node) → node_at k s.row ≡ o → Absent s k f
      at None e = subst (Absent s k) (sym (is ∙ ap (found_at s k) e)) (absent_at s v k least e)
      at (Some x) e = absurd (let q : f ≡ found_at s k (Some x) = is ∙ ap (found_at s k) e in let z : false ≡ true = sym t ∙ ap (λ g. g.standing) q in
          false≢true z)

  pub found_slot : f.standing ≡ false → 0 < length s.free → SlotFound f (slot_for s k)
  unfolding found_of
  found_slot t room =
      let e = (found_missing t).node in
      subst (λ g. SlotFound g (slot_for s k)) (sym (is ∙ ap (found_at s k) e)) (slot_at_absent s v k least e room)

-- the mark of a standing key's cell, as it is read, says whether the key is live
module _ {s : State} (v : Sound s) {k : ℕ} {x : Node} {f : Found} (found : Present s k x f) {m : ℕ} (reads : m ≡ mark_at (picture s) f.c) where
  mark_is : m ≡ mark x.live
  mark_is =
      let (p, here) = node_placed v k x found.node in
      reads ∙ ap (mark_at (picture s)) found.c ∙ place_mark v here.0 ∙ ap (λ y. mark y.live) here.1

  pub marked_live : m ≡ 1 → x.live ≡ true
  marked_live one = mark_one x.live (sym mark_is ∙ one)

  pub marked_dead : (m ≡ 1 → ⊥) → x.live ≡ false
  marked_dead other = mark_other x.live (λ z. other (mark_is ∙ z))

-- On a list: what holds of each state in order, its picture and its settings, where the search has answered so, holds of the list.
pub on_sought :
    (P : State → List ℕ → Settings → Type 0) {ws : List ℕ} {s : Settings} {key : ℕ} {f : Found} → Sought ws s key f →
    ((t : State) → Sound t → key ≤ t.settings.largest → f ≡ found_of t key → P t (picture t) t.settings) → P (read ws) ws s
on_sought P {key = key} {f = f} k g = on_listed (λ t ws s. key ≤ s.largest → f ≡ found_of t key → P t ws s) g k.list k.most k.is

-- the cell of a key that stands
pub standing_cell : {ws : List ℕ} {s : Settings} {key : ℕ} {f : Found} → Sought ws s key f → f.standing ≡ true → f.c < s.cells
standing_cell {f = f} k stands = on_sought (λ t ws s. f.c < s.cells) k (λ t v m q. (found_standing v k.least q stands).1.c_below)
