-- The tests that the check makes, read as facts: those of a cell that is met, of the head, of the header and of a free cell.
use mathlib.Core.Path.{◌≡◌, refl, sym, ◌∙◌, ap, ap₂}
use mathlib.Core.Bool.{Bool, true, false, cond, ◌&&◌, ◌||◌, not}
use mathlib.Core.Logic.{◌⊎◌, inl, inr}
use mathlib.Core.List.{List, [], ◌∷◌}
use Prim.Native.Nat.{ℕ, zero, suc, ◌+◌, ◌-◌, ◌^◌, ◌≤◌, ◌<◌}
use native.Mathlib.Decide.{ℕ_discrete}
use native.Mathlib.Omega.{arith}
use lib.Dec.{eqb, leb, ltb}
use lib.ListN.{length}
use borrow.Author.Tests.{ltb-true, ltb-false, leb-true, eqb-true, eq-eqb, ne_eqb, not-true}
use Rattle.settings.specs.Numbers.{cell_words, length_of, in_range}
use Rattle.settings.specs.Base.{IsBase}
use Rattle.settings.proofs.Numbers.{Ranges, ranges, is_base_lem}
use Rattle.lists.proofs.All.{All}
use Rattle.lists.proofs.Tests.{both}
use Rattle.meaning.specs.Keys.{block_start}
use Rattle.meaning.specs.Words.{word_at, key_at, value_at, mark_at, owed_at, low_at, high_at, link_at, dimensions_at, largest_at, cells_at, base_at, position_at}
use Rattle.account.specs.declared.Seen.{Seen}
use Rattle.account.specs.Tree.{all_from, follows, node_right, due_to, links_below, debt_right, agreed_at, cell_alone_right, cell_right}
use Rattle.account.specs.Tree.{path_right, head_right, free_right, header_right}

-- Tests of several parts

-- tests that hold together
abbrev pub joined : List Bool → Bool
joined [] = true
joined (t ∷ []) = t
joined (t ∷ u ∷ ts) = t && joined (u ∷ ts)

pub joined_all : (ts : List Bool) → joined ts ≡ true → All (λ t. t ≡ true) ts
joined_all [] e = tt
joined_all (t ∷ []) e = (e, tt)
joined_all (t ∷ u ∷ ts) e = let h = both t (joined (u ∷ ts)) e in (h.0, joined_all (u ∷ ts) h.1)

pub either : (t u : Bool) → (t || u) ≡ true → (t ≡ true) ⊎ (u ≡ true)
either true u e = inl refl
either false u e = inr e

-- a test that holds at each of n numbers from i on
pub all_true : (test : ℕ → Bool) (i n : ℕ) → ((d : ℕ) → i ≤ d → d < i + n → test d ≡ true) → all_from test i n ≡ true
unfolding all_from
all_true test i zero same = refl
all_true test i (suc n) same =
    ap₂ ◌&&◌ (same i (omega arith) (omega arith)) (all_true test (suc i) n (λ d h l. same d (omega arith) (omega arith)))

pub all_from_lem : (test : ℕ → Bool) (i n d : ℕ) → all_from test i n ≡ true → i ≤ d → d < i + n → test d ≡ true
unfolding all_from
all_from_lem test i zero d e h l = absurd (omega arith)
all_from_lem test i (suc n) d e h l = at (ℕ_discrete i d) (both (test i) (all_from test (suc i) n) e) (all_from_lem test (suc i) n d)
  where
    at : Dec (i ≡ d) → (test i ≡ true) × (all_from test (suc i) n ≡ true) →
        (all_from test (suc i) n ≡ true → suc i ≤ d → d < suc i + n → test d ≡ true) → test d ≡ true
    at (yes q) t more = ap test (sym q) ∙ t.0
    at (no ne) t more = more t.1 (omega arith) (omega arith)

-- A cell that is met

-- of a cell y that owes, of dimension e, read after x
pub record DebtTested (ws : List ℕ) (x y e : ℕ) : Type 0 where
  pub before : owed_at ws x ≡ 0
  pub low : low_at ws y ≡ e
  pub high : e < high_at ws y
  pub inside : high_at ws y < dimensions_at ws
  pub cell : owed_at ws y < cells_at ws
  pub links : (d : ℕ) → d < dimensions_at ws → link_at ws y d ≡ cond (eqb d (high_at ws y)) (owed_at ws y) 0

-- of a cell y, met by link e, when `s` has been seen
pub record Right (ws : List ℕ) (s : Seen) (y e : ℕ) : Type 0 where
  pub left : 0 < s.left
  pub inside : y < cells_at ws
  -- the cell read before is not before y's block of level e, but before that of level e + 1
  pub from : block_start (base_at ws) (dimensions_at ws) (key_at ws y) e ≤ key_at ws s.last
  pub to : key_at ws s.last < block_start (base_at ws) (dimensions_at ws) (key_at ws y) (suc e)
  pub key : key_at ws y ≤ largest_at ws
  pub node : ((mark_at ws y ≡ 2) × (value_at ws y ≡ 0)) ⊎ ((mark_at ws y ≡ 1) × (s.reached ≡ true))
  pub below : (d : ℕ) → d < e → (link_at ws y d ≡ 0) ⊎ (due_to ws s.last d ≡ true)
  pub unowing : owed_at ws y ≡ 0 → (low_at ws y ≡ 0) × (high_at ws y ≡ 0)
  pub owing : (owed_at ws y ≡ 0 → ⊥) → DebtTested ws s.last y e
  pub path : s.reached ≡ false → y ≡ position_at ws → agreed_at ws y e s.agreed ≡ dimensions_at ws

pub owing_right : (ws : List ℕ) (x y e : ℕ) → debt_right ws x y e ≡ true → (owed_at ws y ≡ 0 → ⊥) → DebtTested ws x y e
unfolding debt_right
owing_right ws x y e h ne =
    let links : ℕ → Bool = λ d. eqb (link_at ws y d) (cond (eqb d (high_at ws y)) (owed_at ws y) 0) in
    let t = joined_all (eqb (owed_at ws x) 0 ∷ eqb (low_at ws y) e ∷ ltb e (high_at ws y) ∷ ltb (high_at ws y) (dimensions_at ws) ∷
    ltb (owed_at ws y) (cells_at ws) ∷ all_from links 0 (dimensions_at ws) ∷ [])
    (rw (ne_eqb (owed_at ws y) 0 ne) at h) in
    record {
      before = eqb-true (owed_at ws x) 0 t.0;
      low = eqb-true (low_at ws y) e t.1.0;
      high = ltb-true e (high_at ws y) t.1.1.0;
      inside = ltb-true (high_at ws y) (dimensions_at ws) t.1.1.1.0;
      cell = ltb-true (owed_at ws y) (cells_at ws) t.1.1.1.1.0;
      links = λ d l. eqb-true (link_at ws y d) (cond (eqb d (high_at ws y)) (owed_at ws y) 0)
          (all_from_lem links 0 (dimensions_at ws) d t.1.1.1.1.1.0 (omega arith) (omega arith));
    }

unowing_right : (ws : List ℕ) (x y e : ℕ) → debt_right ws x y e ≡ true → owed_at ws y ≡ 0 → (low_at ws y ≡ 0) × (high_at ws y ≡ 0)
unfolding debt_right
unowing_right ws x y e h q =
    let t = both (eqb (low_at ws y) 0) (eqb (high_at ws y) 0) (rw (eq-eqb (owed_at ws y) 0 q) at h) in
    (eqb-true (low_at ws y) 0 t.0, eqb-true (high_at ws y) 0 t.1)

node_right_lem : (ws : List ℕ) (y : ℕ) (reached : Bool) → node_right ws y reached ≡ true →
    (key_at ws y ≤ largest_at ws) × (((mark_at ws y ≡ 2) × (value_at ws y ≡ 0)) ⊎ ((mark_at ws y ≡ 1) × (reached ≡ true)))
unfolding node_right
node_right_lem ws y reached h =
    let dead = eqb (mark_at ws y) 2 && eqb (value_at ws y) 0 in
    let live = eqb (mark_at ws y) 1 && reached in
    let t = both (leb (key_at ws y) (largest_at ws)) (dead || live) h in
    (leb-true (key_at ws y) (largest_at ws) t.0, at (either dead live t.1))
  where
    at : ((eqb (mark_at ws y) 2 && eqb (value_at ws y) 0) ≡ true) ⊎ ((eqb (mark_at ws y) 1 && reached) ≡ true) →
        ((mark_at ws y ≡ 2) × (value_at ws y ≡ 0)) ⊎ ((mark_at ws y ≡ 1) × (reached ≡ true))
    at (inl d) = let u = both (eqb (mark_at ws y) 2) (eqb (value_at ws y) 0) d in inl (eqb-true (mark_at ws y) 2 u.0, eqb-true (value_at ws y) 0 u.1)
    at (inr l) = let u = both (eqb (mark_at ws y) 1) reached l in inr (eqb-true (mark_at ws y) 1 u.0, u.1)

below_right : (ws : List ℕ) (x y e : ℕ) → links_below ws x y e ≡ true → (d : ℕ) → d < e → (link_at ws y d ≡ 0) ⊎ (due_to ws x d ≡ true)
unfolding links_below
below_right ws x y e h d l = at (either (eqb (link_at ws y d) 0) (due_to ws x d)
    (all_from_lem (λ i. eqb (link_at ws y i) 0 || due_to ws x i) 0 e d h (omega arith) (omega arith)))
  where
    at : (eqb (link_at ws y d) 0 ≡ true) ⊎ (due_to ws x d ≡ true) → (link_at ws y d ≡ 0) ⊎ (due_to ws x d ≡ true)
    at (inl q) = inl (eqb-true (link_at ws y d) 0 q)
    at (inr q) = inr q

pub cell_right_lem : (ws : List ℕ) (y e : ℕ) (s : Seen) → cell_right ws y e s ≡ true → Right ws s y e
unfolding cell_right follows
cell_right_lem ws y e s h =
    let x = s.last in
    let k = key_at ws x in
    let start : ℕ → ℕ = λ d. block_start (base_at ws) (dimensions_at ws) (key_at ws y) d in
    let p = both (cell_alone_right ws y e s) (path_right ws y e s) h in
    let t = joined_all (ltb 0 s.left ∷ ltb y (cells_at ws) ∷ follows ws x y e ∷ node_right ws y s.reached ∷
    links_below ws x y e ∷ debt_right ws x y e ∷ []) p.0 in
    let f = both (leb (start e) k) (ltb k (start (suc e))) t.1.1.0 in
    let node = node_right_lem ws y s.reached t.1.1.1.0 in
    record {
      left = ltb-true 0 s.left t.0;
      inside = ltb-true y (cells_at ws) t.1.0;
      from = leb-true (start e) k f.0;
      to = ltb-true k (start (suc e)) f.1;
      key = node.0;
      node = node.1;
      below = below_right ws x y e t.1.1.1.1.0;
      unowing = unowing_right ws x y e t.1.1.1.1.1.0;
      owing = owing_right ws x y e t.1.1.1.1.1.0;
      path = λ u q. eqb-true (agreed_at ws y e s.agreed) (dimensions_at ws) (rw (u, eq-eqb y (position_at ws) q) at p.1);
    }

-- The header and the head

pub record Header (ws : List ℕ) : Type 0 where
  pub in_range : Ranges (dimensions_at ws) (largest_at ws) (cells_at ws)
  pub positive : 0 < base_at ws
  pub size : length ws ≡ length_of (dimensions_at ws) (cells_at ws)
  pub base : IsBase (dimensions_at ws) (largest_at ws) (base_at ws)

pub header_right_lem : (ws : List ℕ) → header_right ws ≡ true → Header ws
unfolding header_right
header_right_lem ws h =
    let D = dimensions_at ws in
    let K = largest_at ws in
    let C = cells_at ws in
    let b = base_at ws in
    let t = joined_all (in_range D K C ∷ eqb (length ws) (length_of D C) ∷ ltb 0 b ∷ ltb K (b ^ D) ∷ not (ltb K ((b - 1) ^ D)) ∷ []) h in
    record {
      in_range = ranges D K C t.0;
      positive = ltb-true 0 b t.1.1.0;
      size = eqb-true (length ws) (length_of D C) t.1.0;
      base = is_base_lem D (ltb-true K (b ^ D) t.1.1.1.0) (ltb-false K ((b - 1) ^ D) (not-true (ltb K ((b - 1) ^ D)) t.1.1.1.1.0));
    }

pub record Head (ws : List ℕ) : Type 0 where
  pub key : key_at ws 0 ≡ 0
  pub value : value_at ws 0 ≡ 0
  pub mark : mark_at ws 0 ≡ 2
  pub owed : owed_at ws 0 ≡ 0
  pub low : low_at ws 0 ≡ 0
  pub high : high_at ws 0 ≡ 0

pub head_right_lem : (ws : List ℕ) → head_right ws ≡ true → Head ws
unfolding head_right
head_right_lem ws h =
    let t = joined_all (eqb (key_at ws 0) 0 ∷ eqb (value_at ws 0) 0 ∷ eqb (mark_at ws 0) 2 ∷ eqb (owed_at ws 0) 0 ∷ eqb (low_at ws 0) 0 ∷
    eqb (high_at ws 0) 0 ∷ []) h in
    record {
      key = eqb-true (key_at ws 0) 0 t.0;
      value = eqb-true (value_at ws 0) 0 t.1.0;
      mark = eqb-true (mark_at ws 0) 2 t.1.1.0;
      owed = eqb-true (owed_at ws 0) 0 t.1.1.1.0;
      low = eqb-true (low_at ws 0) 0 t.1.1.1.1.0;
      high = eqb-true (high_at ws 0) 0 t.1.1.1.1.1.0;
    }

-- A free cell

pub record FreeTested (ws : List ℕ) (c : ℕ) : Type 0 where
  pub inside : c < cells_at ws
  pub blank : (j : ℕ) → 0 < j → j < cell_words (dimensions_at ws) → word_at ws c j ≡ 0

pub free_right_lem : (ws : List ℕ) (c : ℕ) → free_right ws c ≡ true → FreeTested ws c
unfolding free_right
free_right_lem ws c h =
    let D = dimensions_at ws in
    let blank : ℕ → Bool = λ j. eqb (word_at ws c j) 0 in
    let t = both (ltb c (cells_at ws)) (all_from blank 1 (cell_words D - 1)) h in
    record {
      inside = ltb-true c (cells_at ws) t.0;
      blank = λ j pos l. eqb-true (word_at ws c j) 0 (all_from_lem blank 1 (cell_words D - 1) j t.1 pos (omega arith));
    }
