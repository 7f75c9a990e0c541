-- The standing cells in the order of their keys, their dimensions, their settled links and their debts: How cells hang together, Debts.
use Rattle.std.specs.Prelude.{Bool, false, cond, ◌&&◌, List, [], ◌∷◌, ℕ, eqb, leb, ltb, Option, None, Some}
use Rattle.lists.specs.Lists.{those}
use Rattle.meaning.specs.Keys.{shared}

-- A node is a standing cell as the row has it: its number, key and value, whether it is live (or dead), whether it owes.
pub record Node : Type 0 where
  pub cell : ℕ
  pub key : ℕ
  pub value : ℕ
  pub live : Bool
  pub owes : Bool

-- The words 2: the head.
abbrev pub head_node : Node
head_node = record { cell = 0; key = 0; value = 0; live = false; owes = false }

-- the first of some nodes; the head if there is none
abbrev pub first_of : List Node → Node
first_of [] = head_node
first_of (x ∷ later) = x

-- .. and the last
unfoldable pub last_of : List Node → Node
last_of [] = head_node
last_of (x ∷ []) = x
last_of (x ∷ y ∷ row) = last_of (y ∷ row)

-- Of the nodes later than x in the order of keys, the first that shares exactly d coordinates with x; 0 if there is none. Being
-- later it is larger at d, being first it has the least key.
unfoldable pub first_sharing : ℕ → ℕ → ℕ → ℕ → List Node → ℕ
first_sharing b D key d [] = 0
first_sharing b D key d (y ∷ later) = cond (eqb (shared b D key y.key) d) y.cell (first_sharing b D key d later)

-- A standing cell in its place: its dimension, the standing cell of next smaller key with its dimension, the later ones.
pub record Place : Type 0 where
  pub node : Node
  pub dimension : ℕ
  pub before : Node
  pub before_dimension : ℕ
  pub later : List Node

-- How cells hang together 2: the dimension is what a cell shares with the one before it.
unfoldable pub places_after : ℕ → ℕ → Node → ℕ → List Node → List Place
places_after b D a e [] = []
places_after b D a e (x ∷ later) =
    record { node = x; dimension = shared b D a.key x.key; before = a; before_dimension = e; later = later }
    ∷ places_after b D x (shared b D a.key x.key) later

-- .. and the head's is 0.
abbrev pub head_place : List Node → Place
head_place row = record { node = head_node; dimension = 0; before = head_node; before_dimension = 0; later = row }

unfoldable pub places : ℕ → ℕ → List Node → List Place
places b D row = head_place row ∷ places_after b D head_node 0 row

-- How cells hang together 3: in the settled shape, link d of a cell whose dimension is at most d leads to the first later cell that shares
-- exactly d coordinates with it. Every other link is 0.
abbrev pub settled_link : ℕ → ℕ → Place → ℕ → ℕ
settled_link b D x d = cond (leb x.dimension d) (first_sharing b D x.node.key d x.later) 0

-- Debts 2 and 4: a cell that owes, owes from the cell after it; low is its dimension and high what the two share. A cell that owes nothing
-- has 0 in all three.
abbrev pub owed : Place → ℕ
owed n = cond n.node.owes (first_of n.later).cell 0

abbrev pub low : Place → ℕ
low n = cond n.node.owes n.dimension 0

abbrev pub high : ℕ → ℕ → Place → ℕ
high b D n = cond n.node.owes (shared b D n.node.key (first_of n.later).key) 0

-- d is at least the first number and below the second
abbrev pub between : ℕ → ℕ → ℕ → Bool
between least above d = leb least d && ltb d above

-- Debts 3: link d of a standing cell as it stands. Links low to high-1 of a cell that owes are 0 and stand in the cell after it; every
-- other link is settled.
unfoldable pub link : ℕ → ℕ → Place → ℕ → ℕ
link b D x d =
    cond (x.before.owes && between x.before_dimension x.dimension d)
    (first_sharing b D x.before.key d (x.node ∷ x.later))
    (cond (x.node.owes && between (low x) (high b D x) d) 0 (settled_link b D x d))

-- the place of the standing cell with number c
unfoldable pub place_of : ℕ → List Place → Option Place
place_of c [] = None
place_of c (p ∷ ps) = cond (eqb p.node.cell c) (Some p) (place_of c ps)

-- the standing cell with a key
unfoldable pub node_at : ℕ → List Node → Option Node
node_at key [] = None
node_at key (x ∷ row) = cond (eqb x.key key) (Some x) (node_at key row)

-- the standing cell of next smaller key than a key; the head if there is no other
abbrev pub smaller_than : ℕ → List Node → Node
smaller_than key row = last_of (those (λ x. ltb x.key key) row)

-- a node put in its place in the order of keys
unfoldable pub put : Node → List Node → List Node
put x [] = x ∷ []
put x (y ∷ row) = cond (leb x.key y.key) (x ∷ y ∷ row) (y ∷ put x row)
