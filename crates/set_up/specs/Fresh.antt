-- The words of a fresh list: The operations 1.
use Rattle.std.specs.Prelude.{cond, ℕ, ◌+◌, ◌-◌, eqb, replicate}
use mathlib.Core.List.{List, [], ◌∷◌, ◌++◌, flat_map}
use Rattle.settings.specs.Numbers.{cell_words}
use Rattle.settings.specs.declared.Settings.{Settings}
use Rattle.lists.specs.Lists.{numbers_from}

-- n words that are 0
abbrev pub zeros : ℕ → List ℕ
zeros n = replicate n 0

-- The first word of cell x of C cells: 0, the key, in the head; the next free cell in a free one, 0 in the last.
unfoldable pub fresh_first : ℕ → ℕ → ℕ
fresh_first C x = cond (eqb x 0) 0 (cond (eqb (x + 1) C) 0 (x + 1))

-- The mark of cell x: the head is dead, every other cell free.
unfoldable pub fresh_mark : ℕ → ℕ
fresh_mark x = cond (eqb x 0) 2 0

-- n words of a cell: its first word and its mark, every other word 0
abbrev pub cell_of : ℕ → ℕ → ℕ → List ℕ
cell_of n first mark = first ∷ 0 ∷ mark ∷ zeros (n - 3)

-- cell x of C cells
unfoldable pub fresh_cell : ℕ → ℕ → ℕ → List ℕ
fresh_cell D C x = cell_of (cell_words D) (fresh_first C x) (fresh_mark x)

-- the first n of C cells
unfoldable pub fresh_cells : ℕ → ℕ → ℕ → List ℕ
fresh_cells D C n = flat_map (fresh_cell D C) (numbers_from 0 n)

-- words 0 to 4: D, K, C, b and the first free cell, which is 1
abbrev pub fresh_header : Settings → List ℕ
fresh_header s = s.dimensions ∷ s.largest ∷ s.cells ∷ s.base ∷ 1 ∷ []

-- header, path and cells
unfoldable pub fresh_list : Settings → List ℕ
fresh_list s = fresh_header s ++ zeros s.dimensions ++ fresh_cells s.dimensions s.cells s.cells
