-- Laws of rows and of their places under append and map, by induction on the row: members, how often a number occurs, the node with a key,
-- the key of a cell, ascending keys, and places. An operation that changes only values, marks and debts is a map, and keeps cells, keys and
-- dimensions.
use Rattle.std.specs.Prelude.{Some}
use mathlib.Core.Path.{◌≡◌, refl, sym, ◌∙◌, ap, ap₂}
use mathlib.Core.Bool.{Bool, true, false, cond}
use mathlib.Core.List.{List, [], ◌∷◌, ◌++◌, map}
use Prim.Native.Nat.{ℕ, ◌<◌}
use native.Mathlib.Decide.{ℕ_discrete}
use native.Mathlib.Omega.{arith}
use lib.Dec.{eqb}
use borrow.Author.Tests.{eq-eqb, ne_eqb, eqb-true, eqb-false}
use Rattle.lists.specs.Lists.{occurrences}
use Rattle.lists.proofs.Occurrences.{occurrences_past, occurrences_none, none_occurs}
use Rattle.lists.proofs.All.{All, all_zip}
use Rattle.meaning.specs.Keys.{shared}
use Rattle.meaning.specs.Row.{Node, head_node, first_of, last_of, Place, head_place, places_after, places, node_at}
use Rattle.meaning.specs.State.{key_of}
use Rattle.meaning.proofs.Rows.AscendingRow.{Asc, asc_weaken, asc_above}

-- Members

-- How often a number occurs

-- A node with a cell, and the parts of the row before and after it.
pub record Located (c : ℕ) (row : List Node) : Type 0 where
  pub front : List Node
  pub node : Node
  pub later : List Node
  pub split : row ≡ front ++ (node ∷ later)
  pub cell : node.cell ≡ c

-- a cell that occurs in a row is found there
pub occurs_found : (c : ℕ) (row : List Node) → 0 < occurrences c (map (λ x. x.cell) row) → Located c row
unfolding occurrences
occurs_found c [] h = absurd (omega arith)
occurs_found c (x ∷ row) h = at_test (ℕ_discrete x.cell c) (occurs_found c row)
  where
    at_test : Dec (x.cell ≡ c) → (0 < occurrences c (map (λ y. y.cell) row) → Located c row) → Located c (x ∷ row)
    at_test (yes e) ih = record { front = []; node = x; later = row; split = refl; cell = e }
    at_test (no ne) ih =
        let t = ih (rw (occurrences_past c x.cell (map (λ y. y.cell) row) ne) at h) in
        record { front = x ∷ t.front; node = t.node; later = t.later; split = ap {B = List Node} (λ r. x ∷ r) t.split; cell = t.cell }

-- The node with a key

pub node_past : (key : ℕ) (x : Node) (row : List Node) → (x.key ≡ key → ⊥) → node_at key (x ∷ row) ≡ node_at key row
unfolding node_at
node_past key x row n = rw (ne_eqb x.key key n) refl

node_here : (x : Node) (row : List Node) → node_at x.key (x ∷ row) ≡ Some x
unfolding node_at
node_here x row = rw (eq-eqb x.key x.key refl) refl

-- each node of an ascending row is found by its key
pub node_found : (key : ℕ) (row : List Node) → Asc key row → All (λ x. node_at x.key row ≡ Some x) row
node_found key [] asc = tt
node_found key (x ∷ row) asc = (
  node_here x row,
  all_zip (λ y l e. node_past y.key x row (λ q. omega arith) ∙ e) row (asc_above x.key row asc.1) (node_found x.key row asc.1),
)

-- what stands at k stands after each place below k
pub nodes_passed :
    (b D k : ℕ) (all : List Node) (a : Node) (e : ℕ) (row : List Node) → (a.key < k → node_at k all ≡ node_at k row) → Asc a.key row →
    All (λ p. p.node.key < k → node_at k all ≡ node_at k p.later) (places_after b D a e row)
unfolding places_after
nodes_passed b D k all a e [] f asc = tt
nodes_passed b D k all a e (x ∷ row) f asc =
    let l = asc.0 in
    let g : x.key < k → node_at k all ≡ node_at k row = (λ h. f (omega arith) ∙ node_past k x row (λ q. omega arith)) in
    (g, nodes_passed b D k all x (shared b D a.key x.key) row g asc.1)

-- The key of a cell

pub key_of_same : (c : ℕ) (x : Node) (row : List Node) → x.cell ≡ c → key_of c (x ∷ row) ≡ x.key
unfolding key_of
key_of_same c x row e = rw (eq-eqb x.cell c e)

pub key_of_other : (c : ℕ) (x : Node) (row : List Node) → (x.cell ≡ c → ⊥) → key_of c (x ∷ row) ≡ key_of c row
unfolding key_of
key_of_other c x row ne = rw (ne_eqb x.cell c ne)

-- the key of a cell that no earlier node has
pub key_of_first : (c : ℕ) (front : List Node) (x : Node) (later : List Node) → occurrences c (map (λ y. y.cell) front) ≡ 0 → x.cell ≡ c →
    key_of c (front ++ (x ∷ later)) ≡ x.key
key_of_first c [] x later e p = key_of_same c x later p
key_of_first c (y ∷ front) x later e p =
    let n = occurrences_none c (map (λ z. z.cell) (y ∷ front)) e in
    key_of_other c y (front ++ (x ∷ later)) (λ q. n.0 (sym q)) ∙ key_of_first c front x later (none_occurs c (map (λ z. z.cell) front) n.1) p

-- what holds of the keys of the nodes with a cell holds of the key of a cell that occurs
pub key_of_has : (P : ℕ → Type 0) (c : ℕ) (row : List Node) → 0 < occurrences c (map (λ x. x.cell) row) → All (λ x. x.cell ≡ c → P x.key) row →
    P (key_of c row)
unfolding occurrences
key_of_has P c [] h a = absurd (omega arith)
key_of_has P c (x ∷ row) h a = at_test (ℕ_discrete x.cell c) (λ more. key_of_has P c row more a.1)
  where
    at_test : Dec (x.cell ≡ c) → (0 < occurrences c (map (λ y. y.cell) row) → P (key_of c row)) → P (key_of c (x ∷ row))
    at_test (yes e) ih = rw (key_of_same c x row e) (a.0 e)
    at_test (no ne) ih = rw (key_of_other c x row ne) (ih (rw (occurrences_past c x.cell (map (λ y. y.cell) row) ne) at h))

-- a node of another cell does not matter
pub key_of_put : (c : ℕ) (x : Node) (front later : List Node) → (x.cell ≡ c → ⊥) → key_of c (front ++ x ∷ later) ≡ key_of c (front ++ later)
unfolding key_of
key_of_put c x [] later ne = key_of_other c x later ne
key_of_put c x (y ∷ front) later ne = ap (cond (eqb y.cell c) y.key) (key_of_put c x front later ne)

-- Ascending keys

pub asc_right : (key : ℕ) (front later : List Node) → Asc key (front ++ later) → Asc key later
asc_right key [] later a = a
asc_right key (x ∷ front) later a = let h = a.0 in asc_weaken key x.key later (omega arith) (asc_right x.key front later a.1)

pub asc_left : (key : ℕ) (front later : List Node) → Asc key (front ++ later) → Asc key front
asc_left key [] later a = tt
asc_left key (x ∷ front) later a = (a.0, asc_left x.key front later a.1)

-- before a node of an ascending row the keys are smaller, after it larger
pub asc_smaller : (key : ℕ) (front : List Node) (x : Node) (later : List Node) → Asc key (front ++ (x ∷ later)) → All (λ y. y.key < x.key) front
asc_smaller key [] x later a = tt
asc_smaller key (y ∷ front) x later a = ((asc_right y.key front (x ∷ later) a.1).0, asc_smaller y.key front x later a.1)

pub asc_larger : (key : ℕ) (front : List Node) (x : Node) (later : List Node) → Asc key (front ++ (x ∷ later)) → All (λ y. x.key < y.key) later
asc_larger key front x later a = asc_above x.key later (asc_right key front (x ∷ later) a).1

-- Places

-- what holds of the nodes of a row holds of them in their places
pub places_nodes : (P : Node → Type 0) (b D : ℕ) (a : Node) (e : ℕ) (row : List Node) → All P row → All (λ n. P n.node) (places_after b D a e row)
unfolding places_after
places_nodes P b D a e [] h = tt
places_nodes P b D a e (x ∷ row) h = (h.0, places_nodes P b D x (shared b D a.key x.key) row h.1)

-- and what holds of the nodes of the places holds of those of the row
pub row_of_places : (P : Node → Type 0) (b D : ℕ) (a : Node) (e : ℕ) (row : List Node) → All (λ n. P n.node) (places_after b D a e row) → All P row
unfolding places_after
row_of_places P b D a e [] h = tt
row_of_places P b D a e (x ∷ row) h = (h.0, row_of_places P b D x (shared b D a.key x.key) row h.1)

-- the last node of a row that follows a node, and its dimension
unfoldable pub last_from : Node → List Node → Node
last_from a [] = a
last_from a (x ∷ row) = last_from x row

pub last_from_lem : (row : List Node) → last_of row ≡ last_from head_node row
unfolding last_of last_from
last_from_lem [] = refl
last_from_lem (x ∷ []) = refl
last_from_lem (x ∷ y ∷ row) = last_from_lem (y ∷ row)

unfoldable pub dimension_from : ℕ → ℕ → Node → ℕ → List Node → ℕ
dimension_from b D a e [] = e
dimension_from b D a e (x ∷ row) = dimension_from b D x (shared b D a.key x.key) row

-- A change of nodes that keeps each one's cell and key, and the head.
pub record Keeping (f : Node → Node) : Type 0 where
  pub cell : (x : Node) → (f x).cell ≡ x.cell
  pub key : (x : Node) → (f x).key ≡ x.key
  pub head : f head_node ≡ head_node

-- a place with its nodes changed: dimensions stay
abbrev pub changed_place : (Node → Node) → Place → Place
changed_place f n = record {
  node = f n.node;
  dimension = n.dimension;
  before = f n.before;
  before_dimension = n.before_dimension;
  later = map f n.later;
}

pub cells_changed : (f : Node → Node) → Keeping f → (row : List Node) → map (λ x. x.cell) (map f row) ≡ map (λ x. x.cell) row
cells_changed f k [] = refl
cells_changed f k (x ∷ row) = ap₂ {C = List ℕ} (λ c cs. c ∷ cs) (k.cell x) (cells_changed f k row)

pub keys_changed : (f : Node → Node) → Keeping f → (row : List Node) → map (λ x. x.key) (map f row) ≡ map (λ x. x.key) row
keys_changed f k [] = refl
keys_changed f k (x ∷ row) = ap₂ {C = List ℕ} (λ c cs. c ∷ cs) (k.key x) (keys_changed f k row)

pub key_of_changed : (f : Node → Node) → Keeping f → (c : ℕ) (row : List Node) → key_of c (map f row) ≡ key_of c row
unfolding key_of
key_of_changed f k c [] = refl
key_of_changed f k c (x ∷ row) = rw (k.cell x, k.key x, key_of_changed f k c row) refl

-- and so the position's key, which is looked up with the head in front
pub key_of_head_changed : (f : Node → Node) → Keeping f → (c : ℕ) (row : List Node) → key_of c (head_node ∷ map f row) ≡ key_of c (head_node ∷ row)
unfolding key_of
key_of_head_changed f k c row = rw (key_of_changed f k c row) refl

pub asc_changed : (f : Node → Node) → Keeping f → (key : ℕ) (row : List Node) → Asc key row → Asc key (map f row)
asc_changed f k key [] a = tt
asc_changed f k key (x ∷ row) a = rw (k.key x) (a.0, asc_changed f k x.key row a.1)

pub first_of_changed : (f : Node → Node) → Keeping f → (row : List Node) → first_of (map f row) ≡ f (first_of row)
first_of_changed f k [] = sym k.head
first_of_changed f k (x ∷ row) = refl

pub places_after-changed : (f : Node → Node) → Keeping f → (b D : ℕ) (a : Node) (e : ℕ) (row : List Node) →
    places_after b D (f a) e (map f row) ≡ map (changed_place f) (places_after b D a e row)
unfolding places_after
places_after-changed f k b D a e [] = refl
places_after-changed f k b D a e (x ∷ row) =
    ap {B = List Place} (λ d. record { node = f x; dimension = d; before = f a; before_dimension = e; later = map f row } ∷ places_after b D (f x) d
    (map f row)) (ap₂ (shared b D) (k.key a) (k.key x))
    ∙ ap {B = List Place} (λ r. record {
      node = f x;
      dimension = shared b D a.key x.key;
      before = f a;
      before_dimension = e;
      later = map f row;
    } ∷ r) (places_after-changed f k b D x (shared b D a.key x.key) row)

pub places_changed : (f : Node → Node) → Keeping f → (b D : ℕ) (row : List Node) → places b D (map f row) ≡ map (changed_place f) (places b D row)
unfolding places
places_changed f k b D row =
    ap {B = List Place} (λ h. record { node = h; dimension = 0; before = h; before_dimension = 0; later = map f row } ∷ places_after b D h 0
    (map f row)) (sym k.head)
    ∙ ap {B = List Place} (λ r. changed_place f (head_place row) ∷ r) (places_after-changed f k b D head_node 0 row)

-- a change of the node of one cell
abbrev pub on_cell : ℕ → (Node → Node) → Node → Node
on_cell c f x = cond (eqb x.cell c) (f x) x

-- it holds of the node after the change if it holds of the changed one, where the cell is that one, and else of the node as it was
pub on_cell-cases : (P : Node → Type 0) (c : ℕ) (f : Node → Node) (x : Node) → (x.cell ≡ c → P (f x)) → ((x.cell ≡ c → ⊥) → P x) → P (on_cell c f x)
on_cell-cases P c f x here other = at_test (eqb x.cell c) refl
  where
    at_test : (t : Bool) → eqb x.cell c ≡ t → P (cond t (f x) x)
    at_test true e = here (eqb-true x.cell c e)
    at_test false e = other (eqb-false x.cell c e)

pub on_cell-keeping : (c : ℕ) (f : Node → Node) → ((x : Node) → (f x).cell ≡ x.cell) → ((x : Node) → (f x).key ≡ x.key) →
    (0 ≡ c → f head_node ≡ head_node) → Keeping (on_cell c f)
on_cell-keeping c f cell key head =
    record {
      cell = λ x. on_cell-cases (λ y. y.cell ≡ x.cell) c f x (λ e. cell x) (λ ne. refl);
      key = λ x. on_cell-cases (λ y. y.key ≡ x.key) c f x (λ e. key x) (λ ne. refl);
      head = on_cell-cases (λ y. y ≡ head_node) c f head_node head (λ ne. refl);
    }
