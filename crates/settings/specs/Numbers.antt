-- The numbers that a list is set up with, its keys, its base and its length: Numbers 1 to 3, The words 1.
use Rattle.std.specs.Prelude.{Bool, true, false, ◌&&◌, ℕ, zero, suc, ◌+◌, ◌*◌, ◌^◌, leb, ltb}

-- D, the dimensions
abbrev pub least_dimensions : ℕ
least_dimensions = 2

abbrev pub most_dimensions : ℕ
most_dimensions = 16

-- K, the largest key
abbrev pub least_largest : ℕ
least_largest = 1

abbrev pub most_largest : ℕ
most_largest = 4294967295

-- C, the cells, the head included
abbrev pub least_cells : ℕ
least_cells = 3

abbrev pub most_cells : ℕ
most_cells = 262144

abbrev pub within : ℕ → ℕ → ℕ → Bool
within least most n = leb least n && leb n most

-- D, K and C are each in range
unfoldable pub in_range : ℕ → ℕ → ℕ → Bool
in_range D K C = within least_dimensions most_dimensions D && within least_largest most_largest K && within least_cells most_cells C

-- a key of a list whose largest key is K: Numbers 2
abbrev pub is_key : ℕ → ℕ → Bool
is_key K key = within 1 K key

-- the first of b, b + 1, .. whose power D is above K; after `fuel` of them, whichever is then at hand
unfoldable pub first_above : ℕ → ℕ → ℕ → ℕ → ℕ
first_above zero D K b = b
first_above (suc fuel) D K b = elim (ltb K (b ^ D)) [ true ↦ b | false ↦ first_above fuel D K (suc b) ]

-- The base: the least number whose power D is above K. (K + 1 itself is such a number, so the fuel is enough.)
unfoldable pub base_of : ℕ → ℕ → ℕ
base_of D K = first_above (K + 1) D K 0

-- the words of the header
abbrev pub header_words : ℕ
header_words = 5

-- the words of a cell: six fields, D links
abbrev pub fields_before_links : ℕ
fields_before_links = 6

abbrev pub cell_words : ℕ → ℕ
cell_words D = fields_before_links + D

-- the exact length: header, path, cells
abbrev pub length_of : ℕ → ℕ → ℕ
length_of D C = header_words + D + C * cell_words D
