-- The row, read off the cells in memory order. A row of standing cells is made of its cells from the last to the first, each put in its place; so what is
-- told of a row, and takes a node put in by a step, is told cell by cell with no regard to the order of keys.
use mathlib.Core.Path.{◌≡◌, refl, sym, ap, ◌∙◌}
use mathlib.Core.Bool.{Bool, true, false, cond, not}
use mathlib.Core.List.{List, [], ◌∷◌}
use Prim.Native.Nat.{ℕ, zero, suc, ◌+◌, ◌-◌, ◌<◌}
use native.Mathlib.Nat.{suc-mul}
use native.Mathlib.Omega.{arith}
use lib.Dec.{eqb, leb}
use lib.ListN.{get_or, take, drop}
use lib.Seq.{get_or-take, get_or-drop, drop-drop}
use borrow.Author.Tests.{eqb-true}
use Rattle.settings.specs.Numbers.{header_words, cell_words}
use Rattle.lists.specs.Lists.{blocks}
use Rattle.meaning.specs.Row.{Node, put}
use Rattle.meaning.specs.Reading.{standing, read}
use Rattle.meaning.specs.Words.{dimensions_at, cells_at, word_index, key_at, value_at, mark_at, owed_at, key_field, value_field, mark_field, owed_field}
use Rattle.meaning.specs.Words.{free_mark, live_mark}

-- a standing cell by its words where they stand
abbrev pub node_in : List ℕ → ℕ → Node
node_in ws x =
    record {
      cell = x;
      key = key_at ws x;
      value = value_at ws x;
      live = eqb (mark_at ws x) live_mark;
      owes = not (eqb (owed_at ws x) 0);
    }

-- the row of the standing ones of n cells from x on
unfoldable pub row_from : List ℕ → ℕ → ℕ → List Node
row_from ws x n = standing x (blocks (cell_words (dimensions_at ws)) n (drop (word_index (dimensions_at ws) x 0) ws))

pub no_cells : (ws : List ℕ) (x : ℕ) → row_from ws x 0 ≡ []
unfolding row_from blocks standing
no_cells ws x = refl

module _ (ws : List ℕ) (x : ℕ) where
  -- word j of the block of cell x
  block_word : (j : ℕ) → j < cell_words (dimensions_at ws) →
      get_or (take (cell_words (dimensions_at ws)) (drop (word_index (dimensions_at ws) x 0) ws)) j 0 ≡ get_or ws (word_index (dimensions_at ws) x j) 0
  block_word j h =
      let D = dimensions_at ws in
      get_or-take (cell_words D) (drop (word_index D x 0) ws) j 0 h ∙ get_or-drop (word_index D x 0) ws j 0 ∙ ap (λ k. get_or ws k 0) (omega arith)

  -- one cell more in front
  pub one_cell : (n : ℕ) → row_from ws x (suc n) ≡ cond (eqb (mark_at ws x) free_mark) (row_from ws (suc x) n) (put (node_in ws x) (row_from ws (suc x) n))
  unfolding row_from blocks standing
  one_cell n =
      let D = dimensions_at ws in
      let w = cell_words D in
      let i = word_index D x 0 in
      let next : i + w ≡ word_index D (suc x) 0 = omega (arith, suc-mul x w) in
      rw (block_word key_field (omega arith), block_word value_field (omega arith), block_word mark_field (omega arith), block_word owed_field (omega arith), drop-drop w i ws, next) refl

blocks_rest : (w n : ℕ) (ws : List ℕ) → drop 1 (blocks w n ws) ≡ blocks w (n - 1) (drop w ws)
unfolding blocks
blocks_rest w zero ws = refl
blocks_rest w (suc n) ws = let k : n ≡ suc n - 1 = omega arith in ap (λ m. blocks w m (drop w ws)) k

-- the row of a buffer is that of its cells but the head
pub row_from_lem : (ws : List ℕ) → (read ws).row ≡ row_from ws 1 (cells_at ws - 1)
unfolding read row_from
row_from_lem ws =
    let D = dimensions_at ws in
    let w = cell_words D in
    let start : header_words + D + w ≡ word_index D 1 0 = omega arith in
    ap (standing 1) (blocks_rest w (cells_at ws) (drop (header_words + D) ws))
    ∙ ap (λ l. standing 1 (blocks w (cells_at ws - 1) l)) (drop-drop w (header_words + D) ws ∙ ap (λ k. drop k ws) start)

module _ {A : Type 0} (F : List Node → A) (step : Node → A → A) where
  -- What is told of a row by a step for its first node is told so of a node put in anywhere, if it does not matter which of two steps is made first.
  pub put_folded :
      ((x : Node) (row : List Node) → F (x ∷ row) ≡ step x (F row)) → ((x y : Node) (a : A) → step x (step y a) ≡ step y (step x a)) →
      (x : Node) (row : List Node) → F (put x row) ≡ step x (F row)
  unfolding put
  put_folded first swap x [] = first x []
  put_folded first swap x (y ∷ row) = at (leb x.key y.key) (put_folded first swap x row)
    where
      at : (t : Bool) → F (put x row) ≡ step x (F row) → F (cond t (x ∷ y ∷ row) (y ∷ put x row)) ≡ step x (F (y ∷ row))
      at true more = first x (y ∷ row)
      at false more = first y (put x row) ∙ ap (step y) more ∙ swap y x (F row) ∙ ap (step x) (sym (first y row))

  module _ (on-put : (x : Node) (row : List Node) → F (put x row) ≡ step x (F row)) (ws : List ℕ) (x n : ℕ) where
    -- So it is told of the cells, one more at a time, in memory order.
    pub row_folded : F (row_from ws x (suc n)) ≡ cond (eqb (mark_at ws x) free_mark) (F (row_from ws (suc x) n)) (step (node_in ws x) (F (row_from ws (suc x) n)))
    row_folded = ap F (one_cell ws x n) ∙ at (eqb (mark_at ws x) free_mark)
      where
        rest : List Node
        rest = row_from ws (suc x) n

        at : (t : Bool) → F (cond t rest (put (node_in ws x) rest)) ≡ cond t (F rest) (step (node_in ws x) (F rest))
        at true = refl
        at false = on-put (node_in ws x) rest

module _ {A : Type 0} (F : List Node → A) (more : Node → A → A) (on-put : (x : Node) (row : List Node) → F (put x row) ≡ cond x.live (more x (F row)) (F row)) where
  -- .. and where only live nodes count, by the mark alone
  pub live_folded :
      (ws : List ℕ) (x n : ℕ) →
      F (row_from ws x (suc n)) ≡ cond (eqb (mark_at ws x) live_mark) (more (node_in ws x) (F (row_from ws (suc x) n))) (F (row_from ws (suc x) n))
  live_folded ws x n =
      row_folded F (λ y a. cond y.live (more y a) a) on-put ws x n ∙ at (eqb (mark_at ws x) free_mark) (eqb (mark_at ws x) live_mark) refl refl
    where
      rest : A
      rest = F (row_from ws (suc x) n)

      at : (t u : Bool) → eqb (mark_at ws x) free_mark ≡ t → eqb (mark_at ws x) live_mark ≡ u →
          cond t rest (cond u (more (node_in ws x) rest) rest) ≡ cond u (more (node_in ws x) rest) rest
      at true true e f = absurd (omega (arith, eqb-true (mark_at ws x) free_mark e, eqb-true (mark_at ws x) live_mark f))
      at true false e f = refl
      at false u e f = refl
