-- The path words and the way down: from a cell's dimension on, the way down to it is that cell, and a path word is that cell exactly if
-- the cell shares more coordinates with the position than the word's number. So the path words agree with the way down to a cell in
-- as many leading ones as the cell shares coordinates with the position.
use mathlib.Core.Path.{◌≡◌, refl, sym, ◌∙◌, ap}
use mathlib.Core.Bool.{cond}
use mathlib.Core.List.{List, [], ◌∷◌, map}
use mathlib.Core.Logic.{◌⊎◌, inl, inr}
use Prim.Native.Nat.{ℕ, zero, suc, ◌+◌, ◌-◌, ◌≤◌, ◌<◌}
use native.Mathlib.Decide.{dec_lt, ℕ_discrete}
use native.Mathlib.Omega.{arith}
use lib.Dec.{eqb, ltb}
use lib.ListN.{get_or}
use borrow.Author.Tests.{lt-ltb, le-ltb, eq-eqb, ne_eqb}
use Rattle.settings.specs.Numbers.{header_words}
use Rattle.lists.proofs.Occurrences.{Distinct}
use Rattle.lists.proofs.All.{All, all_map, all_zip, all_of_map}
use Rattle.meaning.specs.Keys.{shared}
use Rattle.meaning.specs.Row.{Node, head_node, Place, head_place, places_after, places}
use Rattle.meaning.specs.Picture.{first_with}
use Rattle.meaning.specs.Words.{dimensions_at, position_at}
use Rattle.meaning.proofs.Rows.AscendingRow.{Asc}
use Rattle.meaning.proofs.Rows.Keys.{shared_same, shared_sym, shared_le, shared_less, ultra, triangle}
use Rattle.meaning.proofs.Rows.Parent.{first_skips, first_hits}
use Rattle.meaning.proofs.Paths.Path.{first_alike}
use Rattle.account.specs.Tree.{path_run, agreed_at}

-- a key that a node has
abbrev pub Stands : ℕ → List Node → Type 0
Stands key [] = ⊥
Stands key (x ∷ row) = (x.key ≡ key) ⊎ Stands key row

-- The first node that shares n coordinates with a key

module _ (b D : ℕ) where
  -- it is not a cell c if what has that cell shares less
  first_other : (key n c : ℕ) → n ≤ D → (row : List Node) → Stands key row → All (λ x. x.cell ≡ c → shared b D x.key key < n) row →
      first_with b D key n row ≡ c → ⊥
  first_other key n c h [] stands less is = stands
  first_other key n c h (x ∷ row) stands less is = at (dec_lt (shared b D x.key key) n) stands (first_other key n c h row)
    where
      at : Dec (shared b D x.key key < n) → Stands key (x ∷ row) →
          (Stands key row → All (λ y. y.cell ≡ c → shared b D y.key key < n) row → first_with b D key n row ≡ c → ⊥) → ⊥
      at (yes l) (inl e) more = omega (arith, l, h, ap (λ k. shared b D k key) e, shared_same b D key)
      at (yes l) (inr later) more = more later less.1 (sym (first_skips b D key n x row l) ∙ is)
      at (no l) any more = l (less.0 (sym (first_hits b D key n x row (omega (arith, l))) ∙ is))

-- Cells and their keys

-- nodes of the same cell have the same key
distinct_keys : (row : List Node) → Distinct (map (λ x. x.cell) row) → All (λ y. All (λ x. x.cell ≡ y.cell → x.key ≡ y.key) row) row
distinct_keys [] d = tt
distinct_keys (x ∷ row) d = (
  ((λ e. refl), all_map (λ y ne e. absurd (ne (sym e))) row apart),
  all_zip (λ y ne own. ((λ e. absurd (ne e)), own)) row apart (distinct_keys row d.1),
)
  where
    apart : All (λ y. x.cell ≡ y.cell → ⊥) row
    apart = all_of_map (λ c. x.cell ≡ c → ⊥) (λ y. y.cell) row d.0

-- A cell and the path words

-- Path words, from the cell's dimension on, are the cell up to what it shares with the position, whose key this is, and then not.
pub record PlaceOnPath (ws : List ℕ) (b key : ℕ) (p : Place) : Type 0 where
  pub here : (d : ℕ) → p.dimension ≤ d → d < shared b (dimensions_at ws) p.node.key key → get_or ws (header_words + d) 0 ≡ p.node.cell
  pub apart : (d : ℕ) → shared b (dimensions_at ws) p.node.key key ≤ d → d < dimensions_at ws → get_or ws (header_words + d) 0 ≡ p.node.cell → ⊥

module _ (ws : List ℕ) (b key : ℕ) (all : List Node) (pos : 0 < b) (stands : Stands key all)
    (words : (d : ℕ) → d < dimensions_at ws → get_or ws (header_words + d) 0 ≡ first_with b (dimensions_at ws) key (suc d) all) where
  -- the way down to a place is, from its dimension on, its cell
  abbrev WayDown : Place → Type 0
  WayDown p = (d : ℕ) → p.dimension ≤ d → d < dimensions_at ws → first_with b (dimensions_at ws) p.node.key (suc d) all ≡ p.node.cell

  -- nothing up to x shares n coordinates with a larger key with which x does not
  abbrev Past : Node → List Node → Type 0
  Past x later =
      (k n : ℕ) → x.key ≤ k → shared b (dimensions_at ws) x.key k < n → first_with b (dimensions_at ws) k n all ≡ first_with b (dimensions_at ws) k n later

  -- what has y's cell has y's key
  abbrev Own : Node → Type 0
  Own y = All (λ x. x.cell ≡ y.cell → x.key ≡ y.key) all

  on_path : (p : Place) → WayDown p → Own p.node → PlaceOnPath ws b key p
  on_path p way own =
      let D = dimensions_at ws in
      record {
        here = λ d h l.
            let le = shared_le b D p.node.key key in
            words d (omega arith)
            ∙ sym (first_alike b D pos p.node.key key (suc d) l all)
            ∙ way d h (omega arith);
        apart = λ d h l is.
            first_other b D key (suc d) p.node.cell l all stands
            (all_map (λ x f e. let q = ap (λ k. shared b D k key) (f e) in omega arith) all own)
            (sym (words d l) ∙ is);
      }

  past_next : (x y : Node) (later : List Node) → x.key < y.key → Past x (y ∷ later) → Past y later
  past_next x y later h past k n le less =
      let D = dimensions_at ws in
      let u = ultra b D x.key y.key k pos (omega arith) le in
      past k n (omega arith) (omega arith) ∙ first_skips b D k n y later less

  way_next : (x y : Node) (e : ℕ) (later : List Node) → x.key < y.key → Past x (y ∷ later) →
      WayDown (record { node = y; dimension = shared b (dimensions_at ws) x.key y.key; before = x; before_dimension = e; later = later })
  way_next x y e later h past d le less =
      let D = dimensions_at ws in
      past y.key (suc d) (omega arith) (omega arith) ∙ first_hits b D y.key (suc d) y later (omega (arith, shared_same b D y.key))

  after_on_path : (x : Node) (e : ℕ) (later : List Node) → Asc x.key later → Past x later → All Own later →
      All (PlaceOnPath ws b key) (places_after b (dimensions_at ws) x e later)
  unfolding places_after
  after_on_path x e [] asc past own = tt
  after_on_path x e (y ∷ later) asc past own = (
    on_path _ (way_next x y e later asc.0 past) own.0,
    after_on_path y (shared b (dimensions_at ws) x.key y.key) later asc.1 (past_next x y later asc.0 past) own.1,
  )

pub places_on_path : (ws : List ℕ) (b key : ℕ) (row : List Node) → 0 < b → Asc 0 row → Distinct (0 ∷ map (λ x. x.cell) row) →
    Stands key (head_node ∷ row) →
    ((d : ℕ) → d < dimensions_at ws → get_or ws (header_words + d) 0 ≡ first_with b (dimensions_at ws) key (suc d) (head_node ∷ row)) →
    All (PlaceOnPath ws b key) (places b (dimensions_at ws) row)
unfolding places
places_on_path ws b key row pos asc distinct stands words =
    let D = dimensions_at ws in
    let all : List Node = head_node ∷ row in
    let own = distinct_keys all distinct in (
      on_path ws b key all pos stands words (head_place row)
          (λ d h l. first_hits b D 0 (suc d) head_node row (omega (arith, shared_same b D 0))) own.0,
      after_on_path ws b key all pos stands words head_node 0 row asc (λ k n le less. first_skips b D k n head_node row less) own.1,
    )

-- How many path words agree

run_is : (ws : List ℕ) (y d n m : ℕ) → d ≤ m → m ≤ d + n → ((i : ℕ) → d ≤ i → i < m → get_or ws (header_words + i) 0 ≡ y) →
    (m < d + n → get_or ws (header_words + m) 0 ≡ y → ⊥) → path_run ws y d n ≡ m
unfolding path_run
run_is ws y d zero m low high same other = omega arith
run_is ws y d (suc n) m low high same other = at (ℕ_discrete d m) (run_is ws y (suc d) n m)
  where
    at : Dec (d ≡ m) → (suc d ≤ m → m ≤ suc d + n → ((i : ℕ) → suc d ≤ i → i < m → get_or ws (header_words + i) 0 ≡ y) →
        (m < suc d + n → get_or ws (header_words + m) 0 ≡ y → ⊥) → path_run ws y (suc d) n ≡ m) →
        cond (eqb (get_or ws (header_words + d) 0) y) (path_run ws y (suc d) n) d ≡ m
    at (yes e) more =
        ap (λ t. cond t (path_run ws y (suc d) n) d)
        (ne_eqb (get_or ws (header_words + d) 0) y (λ q. other (omega (arith, e)) (ap (λ i. get_or ws (header_words + i) 0) (sym e) ∙ q)))
        ∙ e
    at (no ne) more =
        ap (λ t. cond t (path_run ws y (suc d) n) d) (eq-eqb (get_or ws (header_words + d) 0) y (same d (omega arith) (omega (arith, ne, low))))
        ∙ more (omega (arith, ne, low)) (omega (arith, high)) (λ i k l. same i (omega (arith, k)) l) (λ k. other (omega (arith, k)))

module _ (ws : List ℕ) (b key : ℕ) (p : Place) (on : PlaceOnPath ws b key p) where
  -- from p's dimension on, the words that are p's cell run up to what it shares with the position
  pub run_agreed : (d : ℕ) → p.dimension ≤ d → d ≤ shared b (dimensions_at ws) p.node.key key →
      path_run ws p.node.cell d (dimensions_at ws - d) ≡ shared b (dimensions_at ws) p.node.key key
  run_agreed d h l =
      let D = dimensions_at ws in
      let le = shared_le b D p.node.key key in
      run_is ws p.node.cell d (D - d) (shared b D p.node.key key) l (omega arith)
      (λ i k m. on.here i (omega arith) m) (λ k. on.apart (shared b D p.node.key key) (omega arith) (omega arith))

  -- how many path words agree once p is met, after a key x with which it shares as many coordinates as its dimension
  pub agreed_is : 0 < b → (x : ℕ) → p.dimension ≡ shared b (dimensions_at ws) x p.node.key →
      agreed_at ws p.node.cell p.dimension (shared b (dimensions_at ws) x key) ≡ shared b (dimensions_at ws) p.node.key key
  unfolding agreed_at
  agreed_is pos x is = at (dec_lt (shared b D x key) p.dimension)
    where
      D : ℕ
      D = dimensions_at ws

      y : ℕ
      y = p.node.key

      at : Dec (shared b D x key < p.dimension) →
          cond (ltb (shared b D x key) p.dimension) (shared b D x key) (path_run ws p.node.cell p.dimension (D - p.dimension))
          ≡ shared b D y key
      at (yes l) =
          rw (lt-ltb (shared b D x key) p.dimension l)
          (omega (arith, l, is, triangle b D x y key pos, triangle b D y x key pos, shared_sym b D x y))
      at (no l) =
          rw (le-ltb (shared b D x key) p.dimension (omega (arith, l)))
          (run_agreed p.dimension (omega arith) (omega (arith, l, is, triangle b D y x key pos, shared_sym b D x y)))

  -- p is the position exactly if its key is the position's
  pub position_here : 0 < dimensions_at ws → p.dimension < dimensions_at ws → p.node.key ≡ key → p.node.cell ≡ position_at ws
  position_here some h e =
      let D = dimensions_at ws in
      let last : header_words + D - 1 ≡ header_words + (D - 1) = omega arith in
      sym (ap (λ i. get_or ws i 0) last
      ∙ on.here (D - 1) (omega arith) (omega (arith, ap (λ k. shared b D p.node.key k) (sym e), shared_same b D p.node.key)))

  pub position_apart : 0 < dimensions_at ws → (p.node.key ≡ key → ⊥) → p.node.cell ≡ position_at ws → ⊥
  position_apart some ne e =
      let D = dimensions_at ws in
      let last : header_words + D - 1 ≡ header_words + (D - 1) = omega arith in
      on.apart (D - 1) (omega (arith, shared_less b D p.node.key key some ne)) (omega arith) (sym (e ∙ ap (λ i. get_or ws i 0) last))
