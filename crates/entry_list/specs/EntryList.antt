-- The list of entries that the programs order and logger keep: The order program 1, The program logger.
use Rattle.std.specs.Prelude.{◌≡◌, List, ℕ}
use Rattle.settings.specs.Numbers.{base_of, length_of}
use Rattle.meaning.specs.Picture.{picture}
use Rattle.meaning.specs.Operations.{fresh}

-- D, K, C and the words of the list
abbrev pub list_dimensions : ℕ
list_dimensions = 8

abbrev pub list_largest : ℕ
list_largest = 4294967295

abbrev pub list_cells : ℕ
list_cells = 512

abbrev pub list_words : ℕ
list_words = length_of list_dimensions list_cells

-- .. as it is set up
abbrev pub fresh_words : List ℕ
fresh_words = picture (fresh list_dimensions list_largest list_cells)

-- .. and its base
abbrev pub BaseOfEntries : Type 0
BaseOfEntries = base_of list_dimensions list_largest ≡ 16
