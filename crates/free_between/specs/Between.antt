-- What freeing the cells between the head and a new position asks and answers. No list of those cells is at hand: they are chained through
-- their value words before links change. What is left is said as if there were one.
use Rattle.std.specs.Prelude.{◌≡◌, List, [], ◌∷◌, ◌++◌, map, ℕ, zero, suc, ◌^◌, ◌<◌, length, get_or}
use Rattle.settings.specs.declared.Settings.{Settings}
use Rattle.meaning.specs.Keys.{shared}
use Rattle.meaning.specs.Row.{Node, last_of}
use Rattle.meaning.specs.Reading.{read}
use Rattle.meaning.specs.Words.{word_index, key_at}
use Rattle.meaning.specs.Operations.{paid, dead_front, from_live, freed_by}
use Rattle.meaning.specs.Layer.Listed.{Listed}
use Rattle.meaning.specs.Layer.Paths.{PathOf, dimension_in}
use Rattle.meaning.specs.Layer.Stores.{store}
use Rattle.meaning.specs.Layer.SweepStores.{free_cell}
use Rattle.words.specs.Shaped.{Shaped}
use Rattle.paths.specs.declared.path.Path.{Path}
use Rattle.paths.specs.Paths.{path_of, PathIn}
use Rattle.free_between.specs.declared.Target.{Target}

-- The new position

-- Where a sweep moves the position: to the last of the dead nodes before the first live one, or to the head; its cell, its dimension and
-- its path.
pub record SweptTo (ws : List ℕ) (s : Settings) (t : Target) : Type 0 where
  pub on_way : PathOf (read ws) (path_of t.path) (dead_front (read ws).row) (from_live (read ws).row)
  pub cell : t.cell ≡ (last_of (dead_front (read ws).row)).cell
  pub number : t.number ≡ dimension_in (read ws) t.cell
  pub path_in : PathIn s t.path

-- a list on which nobody owes: paying changes no node
pub record Paid (ws : List ℕ) (s : Settings) : Type 0 where
  pub listed : Listed ws s
  pub unowing : map paid (read ws).row ≡ (read ws).row

-- The front may be dropped up to target t: nobody owes, and it is where a sweep moves the position, other than the head.
pub record Droppable (ws : List ℕ) (s : Settings) (t : Target) : Type 0 where
  pub paid : Paid ws s
  pub target : SweptTo ws s t
  pub other : t.cell ≡ 0 → ⊥

-- how many coordinates cell x shares with the head, by its key
abbrev pub zeros_of : List ℕ → Settings → ℕ → ℕ
zeros_of ws s x = shared s.base s.dimensions 0 (key_at ws x)

-- cell x is one of the list's, its key has D coordinates, and the powers of b fit into 64 bits
pub record Keyed (ws : List ℕ) (s : Settings) (x : ℕ) : Type 0 where
  pub cell : x < s.cells
  pub base : 0 < s.base
  pub power : s.base ^ s.dimensions < 2 ^ 64
  pub fits : key_at ws x < s.base ^ s.dimensions

-- The cells between

-- the cells that a sweep frees, in the order of their keys
abbrev pub freed_cells : List ℕ → List ℕ
freed_cells ws = map (λ x. x.cell) (freed_by (read ws).row)

-- the nodes that it keeps: the new position and those after it
abbrev pub kept_nodes : List ℕ → List Node
kept_nodes ws = last_of (dead_front (read ws).row) ∷ from_live (read ws).row

-- cell x, other than the head, is the one that a sweep of this list moves the position to
pub record LastDead (ws : List ℕ) (s : Settings) (x : ℕ) : Type 0 where
  pub listed : Listed ws s
  pub is : x ≡ (last_of (dead_front (read ws).row)).cell
  pub other : x ≡ 0 → ⊥

-- cell `first`, which has this path, is the first to be freed before cell x
pub record FirstFreed (ws : List ℕ) (s : Settings) (x first : ℕ) (start : Path) : Type 0 where
  pub dead : LastDead ws s x
  pub node : Node
  pub others : List Node
  pub freed : freed_by (read ws).row ≡ node ∷ others
  pub cell : first ≡ node.cell
  pub below : first < s.cells
  pub on_way : PathOf (read ws) (path_of start) (node ∷ []) (others ++ kept_nodes ws)
  pub path_in : PathIn s start

-- The chain

-- the value word of each cell but the last becomes the next one
unfoldable pub chain_values : ℕ → List ℕ → List ℕ → List ℕ
chain_values D ws [] = ws
chain_values D ws (x ∷ []) = ws
chain_values D ws (x ∷ y ∷ xs) = chain_values D (store D ws x 1 y) (y ∷ xs)

-- n cells become free: x, and each next one that the value word of the one before holds
unfoldable pub free_chained : ℕ → List ℕ → ℕ → ℕ → List ℕ
free_chained D ws x zero = ws
free_chained D ws x (suc n) = free_chained D (free_cell D ws x) (get_or ws (word_index D x 1) 0) n

-- n cells chained through their value words from x on are the list's, as they become free one after the other
abbrev pub ChainIn : Settings → List ℕ → ℕ → ℕ → Type 0
ChainIn s ws x zero = Unit {0}
ChainIn s ws x (suc n) = (x < s.cells) × ChainIn s (free_cell s.dimensions ws x) (get_or ws (word_index s.dimensions x 1) 0) n

-- the cells that a sweep frees are chained, and they are r
pub record CellsChained (ws : List ℕ) (s : Settings) (r : ℕ) (after : List ℕ) : Type 0 where
  pub words : after ≡ chain_values s.dimensions ws (freed_cells ws)
  pub count : r ≡ length (freed_cells ws)
  pub shaped : Shaped after s
