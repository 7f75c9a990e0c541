-- Every word of the buffer of a state: The words, How cells hang together, Debts, The position.
use Rattle.std.specs.Prelude.{Bool, cond, ℕ, suc, ◌-◌, eqb, ltb, replicate, Option, None, Some}
use mathlib.Core.List.{List, [], ◌∷◌, ◌++◌, map, flat_map}
use Rattle.settings.specs.Numbers.{cell_words}
use Rattle.lists.specs.Lists.{numbers_from, first_number}
use Rattle.meaning.specs.Keys.{shared}
use Rattle.meaning.specs.Row.{Node, head_node, Place, places, place_of, owed, low, high, link}
use Rattle.meaning.specs.State.{State, position_key}
use Rattle.meaning.specs.Words.{live_mark, dead_mark}

-- The words 1: mark 1 is live, 2 dead.
abbrev pub mark : Bool → ℕ
mark live = cond live live_mark dead_mark

-- The words 1: a standing cell's words.
unfoldable pub standing_words : ℕ → ℕ → Place → List ℕ
standing_words b D x =
    x.node.key ∷ x.node.value ∷ mark x.node.live ∷ owed x ∷ low x ∷ high b D x
    ∷ map (link b D x) (numbers_from 0 D)

-- the cell that follows c in the chain, or 0
unfoldable pub next_free : ℕ → List ℕ → ℕ
next_free c [] = 0
next_free c (x ∷ free) = cond (eqb x c) (first_number free) (next_free c free)

-- The words 4: a free cell's first word holds the next free cell, its other words are 0.
unfoldable pub free_words : ℕ → ℕ → List ℕ
free_words D next = next ∷ replicate (cell_words D - 1) 0

-- the words of cell c: of a standing cell by its place, else of a free one
unfoldable pub words_of : ℕ → ℕ → List ℕ → ℕ → Option Place → List ℕ
words_of b D free c None = free_words D (next_free c free)
words_of b D free c (Some x) = standing_words b D x

-- the first of some nodes that shares at least n coordinates with a key; 0 if there is none
unfoldable pub first_with : ℕ → ℕ → ℕ → ℕ → List Node → ℕ
first_with b D key n [] = 0
first_with b D key n (x ∷ later) = cond (ltb (shared b D x.key key) n) (first_with b D key n later) x.cell

-- The position 2: path word d is the first standing cell that shares at least d+1 coordinates with the position.
abbrev pub path_word : State → ℕ → ℕ
path_word s d = first_with s.settings.base s.settings.dimensions (position_key s) (suc d) (head_node ∷ s.row)

-- the D words of path
unfoldable pub path : State → List ℕ
path s = map (path_word s) (numbers_from 0 s.settings.dimensions)

-- the words of the C cells, one after the other
unfoldable pub cell_pictures : State → List ℕ
cell_pictures s =
    let b = s.settings.base in
    let D = s.settings.dimensions in
    let standing = places b D s.row in
    flat_map (λ c. words_of b D s.free c (place_of c standing)) (numbers_from 0 s.settings.cells)

-- The words 1: header, path, cells.
unfoldable pub picture : State → List ℕ
picture s =
    s.settings.dimensions ∷ s.settings.largest ∷ s.settings.cells ∷ s.settings.base ∷ first_number s.free
    ∷ (path s ++ cell_pictures s)
