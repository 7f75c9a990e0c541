-- What every operation keeps of a state in order. Each cell but the head has one node or one place in the chain, so a node's cell
-- gives its key. A change of nodes that keeps cells and keys and makes no debt leaves the state in order, if values, marks and
-- position agree afterwards. And a row is its dead front and, from the first live node on, the rest.
use mathlib.Core.Path.{◌≡◌, refl, sym, ◌∙◌, ap, ap₂, subst, subst₂}
use mathlib.Core.Bool.{Bool, true, false, cond}
use mathlib.Core.Logic.{◌⊎◌, inl, inr}
use mathlib.Core.List.{List, [], ◌∷◌, ◌++◌, map, drop_last, map-append, append_assoc}
use Prim.Native.Nat.{ℕ, ◌≤◌, ◌<◌}
use native.Mathlib.Decide.{ℕ_discrete}
use native.Mathlib.Omega.{arith}
use lib.ListN.{length, length-map}
use Rattle.lists.specs.Lists.{occurrences}
use Rattle.lists.proofs.Occurrences.{occurrences_past, occurrences_append, occurrences_between, occurrences_more}
use Rattle.lists.proofs.All.{All, all_map, all_right, all_mapped, all_at}
use Rattle.meaning.specs.Keys.{shared}
use Rattle.meaning.specs.Row.{Node, head_node, first_of, Place, head_place, places_after, places, last_of}
use Rattle.meaning.specs.State.{State, key_of, position_key}
use Rattle.meaning.specs.Operations.{dead_front, from_live, last_alone}
use Rattle.meaning.proofs.Pictures.State.{Sound, Debt, cells_in}
use Rattle.meaning.proofs.Pictures.StateCells.{row_range}
use Rattle.meaning.proofs.Rows.Places.{Located, occurs_found, key_of_same, key_of_other, key_of_first, places_nodes, Keeping, changed_place}
use Rattle.meaning.proofs.Rows.Places.{cells_changed, key_of_head_changed, asc_changed, first_of_changed, places_changed}

-- Cells

-- the cells of a state, with one node's between the others
pub cells_split : (s : State) (front : List Node) (x : Node) (later : List Node) → s.row ≡ front ++ (x ∷ later) →
    cells_in s ≡ map (λ y. y.cell) front ++ (x.cell ∷ (map (λ y. y.cell) later ++ s.free))
cells_split s front x later e =
    ap (λ row. map (λ y. y.cell) row ++ s.free) e
    ∙ ap (λ cs. cs ++ s.free) (map-append (λ y. y.cell) front (x ∷ later))
    ∙ append_assoc (map (λ y. y.cell) front) (x.cell ∷ map (λ y. y.cell) later) s.free

-- the cell of a node between two parts of the row is not the head, no other node's, and not free
pub record Alone (c : ℕ) (front later : List Node) (free : List ℕ) : Type 0 where
  pub standing : 0 < c
  pub not_front : occurrences c (map (λ y. y.cell) front) ≡ 0
  pub not_later : occurrences c (map (λ y. y.cell) later) ≡ 0
  pub not_free : occurrences c free ≡ 0

pub cell_alone : (s : State) → Sound s → (front : List Node) (x : Node) (later : List Node) → s.row ≡ front ++ (x ∷ later) →
    Alone x.cell front later s.free
cell_alone s v front x later e =
    let cells = cells_split s front x later e in
    let c = x.cell in
    let before = map (λ y. y.cell) front in
    let after = map (λ y. y.cell) later ++ s.free in
    let range = all_at (λ i. (0 < i) × (i < s.settings.cells)) before c after (rw cells at v.range) in
    let once = all_at (λ i. occurrences i (cells_in s) ≡ 1) before c after (subst (All (λ i. occurrences i (cells_in s) ≡ 1)) cells v.once) in
    let here = sym (ap (occurrences c) cells) ∙ once in
    let sum = occurrences_between c before after in
    let parts = occurrences_append c (map (λ y. y.cell) later) s.free in
    record { standing = range.0; not_front = omega arith; not_later = omega arith; not_free = omega arith }

-- the key of a node's cell is the node's
pub key_of_row : (s : State) → Sound s → (front : List Node) (x : Node) (later : List Node) → s.row ≡ front ++ (x ∷ later) →
    key_of x.cell (head_node ∷ s.row) ≡ x.key
key_of_row s v front x later e =
    let alone = cell_alone s v front x later e in
    key_of_other x.cell head_node s.row (λ z. let h = alone.standing in omega arith)
    ∙ ap (key_of x.cell) e
    ∙ key_of_first x.cell front x later alone.not_front refl

-- no node's cell is the head
pub cells_positive : (s : State) → Sound s → All (λ x. 0 < x.cell) s.row
cells_positive s v = all_map (λ x r. r.0) s.row (row_range s v)

-- a node's cell can be the position
pub cell_stands : (s : State) (front : List Node) (x : Node) (later : List Node) → s.row ≡ front ++ (x ∷ later) →
    0 < occurrences x.cell (0 ∷ map (λ y. y.cell) s.row)
cell_stands s front x later e =
    let cells = ap (λ row. occurrences x.cell (map (λ y. y.cell) row)) e ∙ ap (occurrences x.cell) (map-append (λ y. y.cell) front (x ∷ later)) in
    let between = occurrences_between x.cell (map (λ y. y.cell) front) (map (λ y. y.cell) later) in
    let more = occurrences_more x.cell 0 (map (λ y. y.cell) s.row) in
    omega arith

-- The position is the head or a node's cell, and its key is that node's.
pub position_cases : (s : State) → Sound s → (s.position ≡ 0) ⊎ Located s.position s.row
position_cases s v = at_test (ℕ_discrete 0 s.position)
  where
    at_test : Dec (0 ≡ s.position) → (s.position ≡ 0) ⊎ Located s.position s.row
    at_test (yes e) = inl (sym e)
    at_test (no ne) = inr (occurs_found s.position s.row (rw (occurrences_past s.position 0 (map (λ x. x.cell) s.row) ne) at v.position))

pub position_head : (s : State) → s.position ≡ 0 → position_key s ≡ 0
position_head s e = key_of_same s.position head_node s.row (sym e)

pub position_node : (s : State) → Sound s → (t : Located s.position s.row) → position_key s ≡ t.node.key
position_node s v t = subst (λ c. key_of c (head_node ∷ s.row) ≡ t.node.key) t.cell (key_of_row s v t.front t.node t.later t.split)

-- Changed nodes

-- the state with its nodes changed, and another position
abbrev pub changed_state : State → (Node → Node) → ℕ → State
changed_state s f p = record { settings = s.settings; row = map f s.row; free = s.free; position = p }

-- a debt after a change that makes nobody owe: it was a debt before, to a node that owes no more than before
pub debt_changed : (f : Node → Node) → Keeping f → ((x : Node) → x.owes ≡ false → (f x).owes ≡ false) → (b D : ℕ) (n : Place) →
    (n.node.owes ≡ true → Debt b D n) → (f n.node).owes ≡ true → Debt b D (changed_place f n)
debt_changed f k paying b D n debt h = at_test n.node.owes refl
  where
    at_test : (t : Bool) → n.node.owes ≡ t → Debt b D (changed_place f n)
    at_test false e = absurd (let z : ◌≡◌ {A = ℕ} 0 1 = cc (paying n.node e) in omega arith)
    at_test true e =
        let d = debt e in
        record {
          later = rw (length-map n.later f) d.later;
          unowing = ap (λ x. x.owes) (first_of_changed f k n.later) ∙ paying (first_of n.later) d.unowing;
          lower = subst (λ q. n.dimension < q) (sym (ap₂ (shared b D) (k.key n.node)
              (ap (λ x. x.key) (first_of_changed f k n.later) ∙ k.key (first_of n.later)))) d.lower;
        }

-- A change of nodes that keeps cells and keys and makes nobody owe, with a position: in order, if dead nodes have value 0 and
-- those up to the position are dead.
pub changed_sound :
    (s : State) (f : Node → Node) (p : ℕ) → Sound s → Keeping f → ((x : Node) → x.owes ≡ false → (f x).owes ≡ false) →
    All (λ x. (f x).live ≡ false → (f x).value ≡ 0) s.row → 0 < occurrences p (0 ∷ map (λ x. x.cell) s.row) →
    All (λ x. x.key ≤ key_of p (head_node ∷ s.row) → (f x).live ≡ false) s.row → Sound (changed_state s f p)
changed_sound s f p v k paying values position dead =
    let b = s.settings.base in
    let D = s.settings.dimensions in
    let cells = cells_changed f k s.row in
    record {
      ranges = v.ranges;
      base = v.base;
      ascends = asc_changed f k 0 s.row v.ascends;
      keys = all_mapped (λ x. x.key ≤ s.settings.largest) f s.row
          (all_map (λ x h. subst (λ i. i ≤ s.settings.largest) (sym (k.key x)) h) s.row v.keys);
      count = ap (λ cs. length (cs ++ s.free)) cells ∙ v.count;
      range = subst (λ cs. All (λ c. (0 < c) × (c < s.settings.cells)) (cs ++ s.free)) (sym cells) v.range;
      once = subst (λ cs. All (λ c. occurrences c (cs ++ s.free) ≡ 1) (cs ++ s.free)) (sym cells) v.once;
      values = all_mapped (λ x. x.live ≡ false → x.value ≡ 0) f s.row values;
      debts =
          subst (All (λ n. n.node.owes ≡ true → Debt b D n)) (sym (places_changed f k b D s.row))
          (all_mapped (λ n. n.node.owes ≡ true → Debt b D n) (changed_place f) (places b D s.row)
          (all_map (debt_changed f k paying b D) (places b D s.row) v.debts));
      position = subst (λ cs. 0 < occurrences p (0 ∷ cs)) (sym cells) position;
      dead =
          all_mapped (λ x. x.key ≤ key_of p (head_node ∷ map f s.row) → x.live ≡ false) f s.row
          (all_map (λ x h l. h (subst₂ (λ i j. i ≤ j) (k.key x) (key_of_head_changed f k p s.row) l)) s.row dead);
    }

-- where no node owes, there is no debt
pub unowing_debts : (b D : ℕ) (row : List Node) → All (λ x. x.owes ≡ false) row → All (λ n. n.node.owes ≡ true → Debt b D n) (places b D row)
unfolding places
unowing_debts b D row a = (
  λ e. none head_node (head_place row) refl e,
  all_map (λ n h e. none n.node n h e) (places_after b D head_node 0 row)
      (places_nodes (λ x. x.owes ≡ false) b D head_node 0 row a),
)
  where
    none : (x : Node) (n : Place) → x.owes ≡ false → x.owes ≡ true → Debt b D n
    none x n p q = absurd (let z : ◌≡◌ {A = ℕ} 0 1 = cc in omega arith)

-- The dead front

pub row_split : (row : List Node) → dead_front row ++ from_live row ≡ row
unfolding dead_front from_live
row_split [] = refl
row_split (x ∷ row) = at_test x.live (row_split row)
  where
    at_test : (t : Bool) → dead_front row ++ from_live row ≡ row → cond t [] (x ∷ dead_front row) ++ cond t (x ∷ row) (from_live row) ≡ x ∷ row
    at_test true e = refl
    at_test false e = ap {B = List Node} (λ r. x ∷ r) e

pub dead_front-dead : (row : List Node) → All (λ x. x.live ≡ false) (dead_front row)
unfolding dead_front
dead_front-dead [] = tt
dead_front-dead (x ∷ row) = at_test x.live refl (dead_front-dead row)
  where
    at_test : (t : Bool) → x.live ≡ t → All (λ y. y.live ≡ false) (dead_front row) → All (λ y. y.live ≡ false) (cond t [] (x ∷ dead_front row))
    at_test true e a = tt
    at_test false e a = (e, a)

-- the first node that is not in the dead front is live
pub from_live-live : (row : List Node) (x : Node) (later : List Node) → from_live row ≡ x ∷ later → x.live ≡ true
unfolding from_live
from_live-live [] x later e = absurd (let z : ◌≡◌ {A = ℕ} 0 1 = cc in omega arith)
from_live-live (y ∷ row) x later e = at_test y.live refl e (from_live-live row x later)
  where
    at_test : (t : Bool) → y.live ≡ t → cond t (y ∷ row) (from_live row) ≡ x ∷ later → (from_live row ≡ x ∷ later → x.live ≡ true) → x.live ≡ true
    at_test true l q ih = (let same : y ≡ x = cc in ap (λ z. z.live) (sym same) ∙ l)
    at_test false l q ih = ih q

-- the row where a node is the first live one: the front is dead
pub live_split : (row : List Node) (x : Node) (later : List Node) → from_live row ≡ x ∷ later → row ≡ dead_front row ++ (x ∷ later)
live_split row x later e = sym (row_split row) ∙ ap (λ r. dead_front row ++ r) e

-- some nodes are all but the last, and the last
pub last_split : (row : List Node) → drop_last row ++ last_alone row ≡ row
unfolding last_alone
last_split [] = refl
last_split (x ∷ []) = refl
last_split (x ∷ y ∷ row) = ap {B = List Node} (λ r. x ∷ r) (last_split (y ∷ row))

pub last_alone-is : (x : Node) (row : List Node) → last_alone (x ∷ row) ≡ last_of (x ∷ row) ∷ []
unfolding last_alone last_of
last_alone-is x [] = refl
last_alone-is x (y ∷ row) = last_alone-is y row

-- The last of some nodes with its list: the head and no node, or one of the nodes and it alone.
pub last_cases : (P : Node → List Node → Type 0) (Q : Node → Type 0) (row : List Node) → All Q row → P head_node [] →
    ((x : Node) → Q x → P x (x ∷ [])) → P (last_of row) (last_alone row)
unfolding last_of last_alone
last_cases P Q [] all none one = none
last_cases P Q (x ∷ row) all none one =
    let alone = last_alone-is x row in
    let last = all_right Q (drop_last (x ∷ row)) (last_alone (x ∷ row)) (subst (All Q) (sym (last_split (x ∷ row))) all) in
    subst (P (last_of (x ∷ row))) (sym alone) (one (last_of (x ∷ row)) (subst (All Q) alone last).0)
