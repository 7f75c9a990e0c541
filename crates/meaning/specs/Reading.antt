-- The state that a buffer's words hold, and when a buffer is a list: A list 1.
use Rattle.std.specs.Prelude.{Bool, true, false, cond, ◌&&◌, not, List, [], ◌∷◌, map, ℕ, zero, suc, ◌+◌, eqb, length, get_or, drop, None, Option, Some}
use Rattle.settings.specs.Numbers.{in_range, length_of, header_words, cell_words}
use Rattle.settings.specs.declared.Settings.{Settings}
use Rattle.lists.specs.Lists.{blocks, same}
use Rattle.meaning.specs.Row.{Node, put}
use Rattle.meaning.specs.State.{State, valid}
use Rattle.meaning.specs.Picture.{picture}
use Rattle.meaning.specs.Words.{dimensions_at, largest_at, cells_at, base_at, first_free_at, position_at, key_field, value_field, mark_field, owed_field}
use Rattle.meaning.specs.Words.{free_mark, live_mark}

-- The words 1: a standing cell by its words; it owes if its owed word is not 0
abbrev pub node_of : ℕ → List ℕ → Node
node_of c ws =
    record {
      cell = c;
      key = get_or ws key_field 0;
      value = get_or ws value_field 0;
      live = eqb (get_or ws mark_field 0) live_mark;
      owes = not (eqb (get_or ws owed_field 0) 0);
    }

-- The words 3: the standing ones of some cells, numbered from c on, ascending by key
unfoldable pub standing : ℕ → List (List ℕ) → List Node
standing c [] = []
standing c (ws ∷ cells) =
    cond (eqb (get_or ws mark_field 0) free_mark) (standing (suc c) cells) (put (node_of c ws) (standing (suc c) cells))

-- The words 4: the chain of free cells from c on; it ends in 0, and has as many cells as `fuel` at most
unfoldable pub chain : ℕ → List (List ℕ) → ℕ → List ℕ
chain zero cells c = []
chain (suc fuel) cells c = elim (eqb c 0) [ true ↦ [] | false ↦ c ∷ chain fuel cells (get_or (get_or cells c []) 0 0) ]

-- The words 1: the settings are the first four words.
abbrev pub settings_at : List ℕ → Settings
settings_at ws = record { dimensions = dimensions_at ws; largest = largest_at ws; cells = cells_at ws; base = base_at ws }

abbrev pub cell_blocks : List ℕ → List (List ℕ)
cell_blocks ws = blocks (cell_words (dimensions_at ws)) (cells_at ws) (drop (header_words + dimensions_at ws) ws)

-- The state that the words hold: the standing cells but the head, the free chain, and the position, which is the last path word.
unfoldable pub read : List ℕ → State
read ws =
    let cells = cell_blocks ws in
    record {
      settings = settings_at ws;
      row = standing 1 (drop 1 cells);
      free = chain (cells_at ws) cells (first_free_at ws);
      position = position_at ws;
    }

-- the keys of the standing cells but the head, ascending
abbrev pub standing_keys : List ℕ → List ℕ
standing_keys ws = map (λ x. x.key) (read ws).row

-- Numbers 1 and The words 1: D, K and C are in range, and the length is exact.
unfoldable pub sized : List ℕ → Bool
sized ws = in_range (dimensions_at ws) (largest_at ws) (cells_at ws) && eqb (length ws) (length_of (dimensions_at ws) (cells_at ws))

-- A list 1: the state that the words hold is in order, and each word is as the picture of that state has it.
unfoldable pub is_list : List ℕ → Bool
is_list ws = elim (sized ws) [ true ↦ valid (read ws) && same (picture (read ws)) ws | false ↦ false ]

-- what the words are read as: a list with its settings, or no list
unfoldable pub reading_of : List ℕ → Option Settings
reading_of ws = cond (is_list ws) (Some (settings_at ws)) None
