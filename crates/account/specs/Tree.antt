-- The check for refusal 3 as a reading of the words, cell by cell, each child's own children in turn. The children of a cell are met by its
-- links from D-1 down, so the cells are read in ascending order of keys, and each is compared with the one read before it.
use Rattle.std.specs.Prelude.{Bool, true, false, cond, ◌&&◌, ◌||◌, not, List, ℕ, zero, suc, ◌-◌, ◌^◌, eqb, leb, ltb, length}
use Rattle.settings.specs.Numbers.{cell_words, length_of, in_range}
use Rattle.meaning.specs.Keys.{block_start}
use Rattle.meaning.specs.Row.{between}
use Rattle.meaning.specs.Words.{word_at, key_at, value_at, mark_at, owed_at, low_at, high_at, link_at, dimensions_at, largest_at}
use Rattle.meaning.specs.Words.{cells_at, base_at, first_free_at, live_mark, dead_mark, path_at, position_at}
use Rattle.meaning.specs.Walk.{link_read}
use Rattle.account.specs.declared.Seen.{Seen}

-- a test holds at each of n numbers from i on
unfoldable pub all_from : (ℕ → Bool) → ℕ → ℕ → Bool
all_from test i zero = true
all_from test i (suc n) = test i && all_from test (suc i) n

-- Cell y comes after cell x in key order and shares exactly e coordinates with it: x is before y's block of level e + 1, but not before that of
-- level e.
unfoldable pub follows : List ℕ → ℕ → ℕ → ℕ → Bool
follows ws x y e =
    leb (block_start (base_at ws) (dimensions_at ws) (key_at ws y) e) (key_at ws x)
    && ltb (key_at ws x) (block_start (base_at ws) (dimensions_at ws) (key_at ws y) (suc e))

-- key at most K; live or dead, dead as long as the position has not been read; a dead cell's value is 0
unfoldable pub node_right : List ℕ → ℕ → Bool → Bool
node_right ws y reached =
    leb (key_at ws y) (largest_at ws) && ((eqb (mark_at ws y) dead_mark && eqb (value_at ws y) 0) || (eqb (mark_at ws y) live_mark && reached))

-- link d of y is one that x, read before y, owes
abbrev pub due_to : List ℕ → ℕ → ℕ → Bool
due_to ws x d = not (eqb (owed_at ws x) 0) && between (low_at ws x) (high_at ws x) d

-- links below the dimension e are 0, but for those that the cell read before owes
unfoldable pub links_below : List ℕ → ℕ → ℕ → ℕ → Bool
links_below ws x y e = all_from (λ d. eqb (link_at ws y d) 0 || due_to ws x d) 0 e

-- y owes nothing, and its low and high are 0; or y owes, the cell x read before does not, low is y's dimension e, below high, and y's
-- only link is link high, to the owed cell
unfoldable pub debt_right : List ℕ → ℕ → ℕ → ℕ → Bool
debt_right ws x y e =
    cond (eqb (owed_at ws y) 0)
    (eqb (low_at ws y) 0 && eqb (high_at ws y) 0)
    (eqb (owed_at ws x) 0
    && (eqb (low_at ws y) e
    && (ltb e (high_at ws y)
    && (ltb (high_at ws y) (dimensions_at ws)
    && (ltb (owed_at ws y) (cells_at ws)
    && all_from (λ d. eqb (link_at ws y d) (cond (eqb d (high_at ws y)) (owed_at ws y) 0)) 0 (dimensions_at ws))))))

-- how many path words from number d on, of n, are cell y
unfoldable pub path_run : List ℕ → ℕ → ℕ → ℕ → ℕ
path_run ws y d zero = d
path_run ws y d (suc n) = cond (eqb (path_at ws d) y) (path_run ws y (suc d) n) d

-- how many leading path words agree with the way down, once y is met by link e: from number e on the way down is y
unfoldable pub agreed_at : List ℕ → ℕ → ℕ → ℕ → ℕ
agreed_at ws y e agreed = cond (ltb agreed e) agreed (path_run ws y e (dimensions_at ws - e))

-- .. no longer counted once the position has been read
abbrev pub agreed_after : List ℕ → ℕ → ℕ → Seen → ℕ
agreed_after ws y e s = cond s.reached s.agreed (agreed_at ws y e s.agreed)

-- where cell y, met by link e, is the position, all path words agree
abbrev pub path_right : List ℕ → ℕ → ℕ → Seen → Bool
path_right ws y e s = s.reached || (not (eqb y (position_at ws)) || eqb (agreed_at ws y e s.agreed) (dimensions_at ws))

-- cell y, met by link e, is right after what has been seen, but for the path
abbrev pub cell_alone_right : List ℕ → ℕ → ℕ → Seen → Bool
cell_alone_right ws y e s =
    ltb 0 s.left
    && (ltb y (cells_at ws)
    && (follows ws s.last y e
    && (node_right ws y s.reached
    && (links_below ws s.last y e
    && debt_right ws s.last y e))))

unfoldable pub cell_right : List ℕ → ℕ → ℕ → Seen → Bool
cell_right ws y e s = cell_alone_right ws y e s && path_right ws y e s

abbrev pub wrong : Seen → Seen
wrong s = record { right = false; left = s.left; last = s.last; agreed = s.agreed; reached = s.reached }

-- what has been seen once cell y is read, met by link e
unfoldable pub entered : List ℕ → ℕ → ℕ → Seen → Seen
entered ws y e s =
    cond (cell_right ws y e s)
    (record { right = true; left = s.left - 1; last = y; agreed = agreed_after ws y e s; reached = s.reached || eqb y (position_at ws) })
    (wrong s)

-- The cells that hang from x by links of number e, one from the other, each after the children by higher links (`higher`) of the one
-- before; at most `fuel` of them.
unfoldable pub along : (ℕ → Seen → Seen) → List ℕ → ℕ → ℕ → ℕ → Seen → Seen
along higher ws e zero x s = wrong s
along higher ws e (suc fuel) x s =
    let t = higher x s in
    let y = link_read ws x e in
    let u = entered ws y e t in
    cond t.right (cond (eqb y 0) t (cond u.right (along higher ws e fuel y u) u)) t

-- the children of x by links D-1 down to D-n, each child's own children in turn
unfoldable pub children : ℕ → List ℕ → ℕ → ℕ → Seen → Seen
children fuel ws zero x s = s
children fuel ws (suc n) x s = along (children fuel ws n) ws (dimensions_at ws - suc n) fuel x s

-- The words 2: the head, owing nothing
unfoldable pub head_right : List ℕ → Bool
head_right ws =
    eqb (key_at ws 0) 0
    && (eqb (value_at ws 0) 0
    && (eqb (mark_at ws 0) dead_mark
    && (eqb (owed_at ws 0) 0
    && (eqb (low_at ws 0) 0
    && eqb (high_at ws 0) 0))))

-- what has been seen at the head: where it is the position, all path words are 0
unfoldable pub at_head : List ℕ → Seen
at_head ws =
    let agreed = path_run ws 0 0 (dimensions_at ws) in
    record {
      right = not (eqb (position_at ws) 0) || eqb agreed (dimensions_at ws);
      left = cells_at ws - 1;
      last = 0;
      agreed = agreed;
      reached = eqb (position_at ws) 0;
    }

-- a free cell's words after the first are 0
unfoldable pub free_right : List ℕ → ℕ → Bool
free_right ws c = ltb c (cells_at ws) && all_from (λ j. eqb (word_at ws c j) 0) 1 (cell_words (dimensions_at ws) - 1)

-- the chain from c has n cells, each free, and then ends in 0
unfoldable pub chain_right : List ℕ → ℕ → ℕ → Bool
chain_right ws zero c = eqb c 0
chain_right ws (suc n) c = cond (free_right ws c) (chain_right ws n (word_at ws c 0)) false

-- D, K and C in range, the exact length, and b the least number whose power D is above K
unfoldable pub header_right : List ℕ → Bool
header_right ws =
    in_range (dimensions_at ws) (largest_at ws) (cells_at ws)
    && (eqb (length ws) (length_of (dimensions_at ws) (cells_at ws))
    && (ltb 0 (base_at ws)
    && (ltb (largest_at ws) (base_at ws ^ dimensions_at ws)
    && not (ltb (largest_at ws) ((base_at ws - 1) ^ dimensions_at ws)))))

-- what has been seen when all children of the head have been read
abbrev pub seen_all : List ℕ → Seen
seen_all ws = children (cells_at ws) ws (dimensions_at ws) 0 (at_head ws)

-- The check: header, head, the tree of standing cells, the position among them, and the free chain over all cells left.
unfoldable pub accepts : List ℕ → Bool
accepts ws =
    elim (header_right ws) [
      | true ↦ head_right ws && (((at_head ws).right && (seen_all ws).right) && ((seen_all ws).reached && chain_right ws (seen_all ws).left (first_free_at ws)))
      | false ↦ false
    ]
