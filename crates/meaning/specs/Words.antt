-- A list's words where they stand: the header, the path, and the words of each cell. The words 1.
use Rattle.std.specs.Prelude.{List, ℕ, ◌+◌, ◌*◌, ◌-◌, get_or}
use Rattle.settings.specs.Numbers.{header_words, fields_before_links, cell_words}
use Rattle.meaning.specs.Keys.{coordinate}

-- words 0 to 4: D, K, C, b, the first free cell
abbrev pub dimensions_at : List ℕ → ℕ
dimensions_at ws = get_or ws 0 0

abbrev pub largest_at : List ℕ → ℕ
largest_at ws = get_or ws 1 0

abbrev pub cells_at : List ℕ → ℕ
cells_at ws = get_or ws 2 0

abbrev pub base_at : List ℕ → ℕ
base_at ws = get_or ws 3 0

abbrev pub first_free_at : List ℕ → ℕ
first_free_at ws = get_or ws 4 0

-- path word d
abbrev pub path_at : List ℕ → ℕ → ℕ
path_at ws d = get_or ws (header_words + d) 0

-- The position 1: the last word of the path.
abbrev pub position_at : List ℕ → ℕ
position_at ws = get_or ws (header_words + dimensions_at ws - 1) 0

-- where word j of cell x stands
abbrev pub word_index : ℕ → ℕ → ℕ → ℕ
word_index D x j = header_words + D + x * cell_words D + j

-- word j of cell x
abbrev pub word_at : List ℕ → ℕ → ℕ → ℕ
word_at ws x j = get_or ws (word_index (dimensions_at ws) x j) 0

-- the words of a cell, by their numbers
abbrev pub key_field : ℕ
key_field = 0

abbrev pub value_field : ℕ
value_field = 1

abbrev pub mark_field : ℕ
mark_field = 2

abbrev pub owed_field : ℕ
owed_field = 3

abbrev pub low_field : ℕ
low_field = 4

abbrev pub high_field : ℕ
high_field = 5

abbrev pub link_field : ℕ → ℕ
link_field d = fields_before_links + d

abbrev pub key_at : List ℕ → ℕ → ℕ
key_at ws x = word_at ws x key_field

abbrev pub value_at : List ℕ → ℕ → ℕ
value_at ws x = word_at ws x value_field

abbrev pub mark_at : List ℕ → ℕ → ℕ
mark_at ws x = word_at ws x mark_field

abbrev pub owed_at : List ℕ → ℕ → ℕ
owed_at ws x = word_at ws x owed_field

abbrev pub low_at : List ℕ → ℕ → ℕ
low_at ws x = word_at ws x low_field

abbrev pub high_at : List ℕ → ℕ → ℕ
high_at ws x = word_at ws x high_field

-- coordinate d of a cell: its key's
abbrev pub coordinate_at : List ℕ → ℕ → ℕ → ℕ
coordinate_at ws x d = coordinate (base_at ws) (dimensions_at ws) (key_at ws x) d

abbrev pub link_at : List ℕ → ℕ → ℕ → ℕ
link_at ws x d = word_at ws x (link_field d)

-- the marks
abbrev pub free_mark : ℕ
free_mark = 0

abbrev pub live_mark : ℕ
live_mark = 1

abbrev pub dead_mark : ℕ
dead_mark = 2
