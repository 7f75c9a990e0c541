-- A key between the smaller and the larger nodes of a row, and its parent: the first of the head and the smaller ones that shares more
-- with the last of them than the key does. A place at which a walk rests is that one: what lies between it and the key shares more with
-- it than the key does, what comes before it shares no more than its dimension.
use mathlib.Core.Path.{◌≡◌, refl, sym, ap, ap₂, ◌∙◌, subst}
use mathlib.Core.Bool.{Bool, true, false, cond}
use mathlib.Core.List.{List, [], ◌∷◌, ◌++◌}
use Prim.Native.Nat.{ℕ, suc, ◌≤◌, ◌<◌}
use native.Mathlib.Omega.{arith}
use lib.Dec.{leb, ltb}
use borrow.Author.Tests.{lt-ltb, le-ltb}
use Rattle.lists.specs.Lists.{those}
use Rattle.lists.proofs.Those.{those_all, those_none, those_append}
use Rattle.lists.proofs.All.{All, all_map, all_append, all_left, all_zip}
use Rattle.meaning.specs.Keys.{shared}
use Rattle.meaning.specs.Row.{Node, head_node, first_of, Place, places_after, places, smaller_than}
use Rattle.meaning.specs.State.{State}
use Rattle.meaning.specs.Picture.{first_with}
use Rattle.meaning.proofs.Rows.AscendingRow.{Asc, asc_above}
use Rattle.meaning.proofs.Rows.Keys.{shared_same, shared_less, ultra}
use Rattle.meaning.proofs.Pictures.State.{Sound, base_positive}
use Rattle.meaning.proofs.Rows.Places.{asc_left, asc_smaller, asc_larger, places_nodes, last_from}
use Rattle.meaning.proofs.Rows.Parent.{dimension_least, dimension_after, parent_after, places_from, all_last, last_least, last_greatest, first_skips}
use Rattle.meaning.proofs.Rows.Parent.{first_hits, first_front}
use Rattle.meaning.proofs.Walks.Smaller as smaller
use Rattle.meaning.proofs.Kept.Slot as slot
use Rattle.meaning.proofs.Cells.Placed.{Placed, placed_has}
use Rattle.meaning.proofs.Walks.WalkStop.{Hangs}
use Rattle.search.specs.Found.{larger_than, slot_number, slot_parent, slot_shared, slot_cell}

-- The nodes below k, at k and above it

pub record Sides (k : ℕ) (row pre middle post : List Node) : Type 0 where
  pub splits : row ≡ pre ++ (middle ++ post)
  pub below : All (λ y. y.key < k) pre
  pub here : All (λ y. y.key ≡ k) middle
  pub above : All (λ y. k < y.key) post

-- of a key that does not stand, and of one that does
pub sides_absent : {k : ℕ} {row : List Node} (g : slot.Gap k row) → Sides k row g.pre [] g.post
sides_absent g = record { splits = g.splits; below = g.below; here = tt; above = g.above }

pub sides_present : {k : ℕ} {row : List Node} (pre : List Node) (x : Node) (post : List Node) → Asc 0 row → x.key ≡ k → row ≡ pre ++ x ∷ post →
    Sides k row pre (x ∷ []) post
sides_present pre x post a e split =
    let c = subst (Asc 0) split a in
    record {
      splits = split;
      below = subst (λ n. All (λ y. y.key < n) pre) e (asc_smaller 0 pre x post c);
      here = (e, tt);
      above = subst (λ n. All (λ y. n < y.key) post) e (asc_larger 0 pre x post c);
    }

-- The next smaller and the next larger node

module _ {k : ℕ} {row pre middle post : List Node} (g : Sides k row pre middle post) where
  pub smaller_is : smaller_than k row ≡ last_from head_node pre
  smaller_is =
      ap (smaller_than k) g.splits
      ∙ smaller.smaller_is k pre (middle ++ post) g.below
      (all_append (λ y. k ≤ y.key) middle post (all_map (λ y h. omega arith) middle g.here) (all_map (λ y h. omega arith) post g.above))

  pub larger_is : larger_than k row ≡ first_of post
  larger_is =
      let test : Node → Bool = λ x. ltb k x.key in
      ap (λ r. first_of (those test r)) g.splits
      ∙ ap first_of
      (those_append test pre (middle ++ post)
      ∙ ap₂ ◌++◌ (those_none test pre (all_map (λ y h. le-ltb k y.key (omega arith)) pre g.below))
      (those_append test middle post
      ∙ ap₂ ◌++◌ (those_none test middle (all_map (λ y h. le-ltb k y.key (omega arith)) middle g.here))
      (those_all test post (all_map (λ y h. lt-ltb k y.key h) post g.above))))

-- The slot of k

-- the parts of what the search answers, by the nodes below k and above it
pub record SlotAt (s : State) (k : ℕ) (pre post : List Node) : Type 0 where
  pub number : slot_number s k ≡ dimension_after s.settings.base s.settings.dimensions head_node pre k
  pub parent : slot_parent s k ≡ parent_after s.settings.base s.settings.dimensions head_node pre k
  pub shares : slot_shared s k ≡ shared s.settings.base s.settings.dimensions k (first_of post).key
  pub cell : slot_cell s k ≡ slot.cell_after s.settings.base s.settings.dimensions k
      (dimension_after s.settings.base s.settings.dimensions head_node pre k) post

-- the last node below k shares less with k than with itself
pub last_below_lem : (b D k : ℕ) (pre : List Node) → 0 < D → 0 < k → All (λ y. y.key < k) pre →
    dimension_after b D head_node pre k < shared b D (last_from head_node pre).key (last_from head_node pre).key
last_below_lem b D k pre deep h l =
    let A = last_from head_node pre in
    let low : A.key < k = all_last (λ z. z.key < k) head_node pre h l in
    omega (arith, shared_same b D A.key, shared_less b D A.key k deep (omega arith))

pub slot_at : (s : State) → Sound s → (k : ℕ) → 0 < k → {pre middle post : List Node} → Sides k s.row pre middle post → SlotAt s k pre post
slot_at s v k h {pre} {middle} {post} g =
    record {
      number = number;
      parent =
          ap₂ (λ key n. first_with b D key (suc n) (head_node ∷ s.row)) (ap (λ y. y.key) (smaller_is g)) number
          ∙ ap (λ row. first_with b D (last_from head_node pre).key (suc (dimension_after b D head_node pre k)) (head_node ∷ row)) g.splits
          ∙ first_front b D (last_from head_node pre).key (suc (dimension_after b D head_node pre k)) head_node pre (middle ++ post)
          (last_below_lem b D k pre (slot.dimensions_positive s v) h g.below);
      shares = ap (λ y. shared b D k y.key) (larger_is g);
      cell = ap₂ (λ n y. cond (leb n (shared b D k y.key)) y.cell 0) number (larger_is g) ∙ held (dimension_after b D head_node pre k) post;
    }
  where
    b : ℕ
    b = s.settings.base

    D : ℕ
    D = s.settings.dimensions

    number : slot_number s k ≡ dimension_after b D head_node pre k
    number = ap (λ y. shared b D y.key k) (smaller_is g)

    none-held : (t : Bool) → ◌≡◌ {A = ℕ} (cond t 0 0) 0
    none-held true = refl
    none-held false = refl

    held : (p : ℕ) (post : List Node) → cond (leb p (shared b D k (first_of post).key)) (first_of post).cell 0 ≡ slot.cell_after b D k p post
    held p [] = none-held (leb p (shared b D k 0))
    held p (x ∷ post) = refl

-- Where k hangs

module _ (b D : ℕ) (pos : 0 < b) (deep : 0 < D) where
  -- where y and the nodes `pre` are below k and the `rest` is not, each place from which k would hang is the parent
  hung :
      (k : ℕ) (w : Node) (f : ℕ) (y : Node) (e : ℕ) (pre rest : List Node) → y.key < k → Asc y.key (pre ++ rest) → All (λ z. z.key < k) pre →
      All (λ z. k ≤ z.key) rest →
      All (λ p. Hangs b D k p → (dimension_after b D y pre k ≡ shared b D p.node.key k) × (parent_after b D y pre k ≡ p.node.cell))
      (places_from b D w f y e (pre ++ rest))
  unfolding places_after last_from
  hung k w f y e [] rest h a l g = (
    λ t. (
      refl,
      first_hits b D y.key (suc (shared b D y.key k)) y []
          (omega (arith, shared_same b D y.key, shared_less b D y.key k deep (omega arith))),
    ),
    all_map (λ p m t. absurd (let low = t.below in omega arith)) (places_after b D y e rest) (places_nodes (λ z. k ≤ z.key) b D y e rest g),
  )
  hung k w f y e (z ∷ pre) rest h a l g = (
    λ t.
        let more : shared b D y.key k < shared b D y.key A.key =
        all_last Nearer z pre t.between.0 (all_left Nearer pre rest t.between.1) low in
        let u = ultra b D y.key A.key k pos (last_least y (z ∷ pre) ascends) (omega (arith, low)) in
        (omega arith, first_hits b D A.key (suc (shared b D A.key k)) y (z ∷ pre) (omega arith)),
    all_zip {P = Known} {Q = λ p. Hangs b D k p → Is (z ∷ pre) p} {R = λ p. Hangs b D k p → Is (y ∷ z ∷ pre) p}
        (λ p m ih t. past p m t (ih t)) (places_after b D y e later) known (hung k y e z (shared b D y.key z.key) pre rest l.0 a.1 l.1 g),
  )
    where
      A : Node
      A = last_from z pre

      later : List Node
      later = (z ∷ pre) ++ rest

      low : A.key < k
      low = all_last (λ x. x.key < k) z pre l.0 l.1

      ascends : Asc y.key (z ∷ pre)
      ascends = asc_left y.key (z ∷ pre) rest a

      Nearer : Node → Type 0
      Nearer x = x.key < k → shared b D y.key k < shared b D y.key x.key

      Is : List Node → Place → Type 0
      Is row p = (shared b D A.key k ≡ shared b D p.node.key k) × (first_with b D A.key (suc (shared b D A.key k)) row ≡ p.node.cell)

      Known : Place → Type 0
      Known p = (y.key < p.node.key) × ((p.node.key < k → p.node.key ≤ A.key) × (shared b D y.key p.node.key ≤ p.dimension))

      reach : All (λ x. x.key < k → x.key ≤ A.key) later
      reach =
          all_append (λ x. x.key < k → x.key ≤ A.key) (z ∷ pre) rest
          (all_map (λ x m n. m) (z ∷ pre) (last_greatest y (z ∷ pre) ascends)) (all_map (λ x m n. absurd (omega arith)) rest g)

      known : All Known (places_after b D y e later)
      known =
          all_zip (λ p m n. (m, n)) (places_after b D y e later) (places_nodes (λ x. y.key < x.key) b D y e later (asc_above y.key later a))
          (all_zip (λ p m n. (m, n)) (places_after b D y e later) (places_nodes (λ x. x.key < k → x.key ≤ A.key) b D y e later reach)
          (dimension_least b D pos y e later a))

      -- y comes before the place p, and so shares too little
      past : (p : Place) → Known p → Hangs b D k p → Is (z ∷ pre) p → Is (y ∷ z ∷ pre) p
      past p m t is =
          let after = m.0 in
          let u = ultra b D y.key p.node.key A.key pos (omega arith) (m.1.0 t.below) in
          (is.0, first_skips b D A.key (suc (shared b D A.key k)) y (z ∷ pre) (omega (arith, u, is.0, m.1.1, t.dimension)) ∙ is.1)

-- In a state in order, a place from which k would hang is the parent of k's slot, and its link that is wanted has the slot's number.
pub hung_at : {s : State} → Sound s → {k : ℕ} → 0 < k → {pre middle post : List Node} → Sides k s.row pre middle post → {x : ℕ} {p : Place} →
    Placed s x p → Hangs s.settings.base s.settings.dimensions k p →
    (dimension_after s.settings.base s.settings.dimensions head_node pre k ≡ shared s.settings.base s.settings.dimensions p.node.key k)
    × (parent_after s.settings.base s.settings.dimensions head_node pre k ≡ p.node.cell)
unfolding places
hung_at {s} v {k} h {pre} {middle} {post} g here = placed_has here Is (subst (λ row. All Is (places b D row)) (sym g.splits) all)
  where
    b : ℕ
    b = s.settings.base

    D : ℕ
    D = s.settings.dimensions

    Is : Place → Type 0
    Is q = Hangs b D k q → (dimension_after b D head_node pre k ≡ shared b D q.node.key k) × (parent_after b D head_node pre k ≡ q.node.cell)

    all : All Is (places b D (pre ++ (middle ++ post)))
    all =
        hung b D (base_positive s v) (slot.dimensions_positive s v) k head_node 0 head_node 0 pre (middle ++ post) h
        (subst (Asc 0) g.splits v.ascends) g.below
        (all_append (λ z. k ≤ z.key) middle post (all_map (λ z m. omega arith) middle g.here) (all_map (λ z m. omega arith) post g.above))
