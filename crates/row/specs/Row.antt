-- The plain row: a book in words, searched from the front. Its words, which words are a row, and what each operation answers and leaves: The plain row.
use Rattle.std.specs.Prelude.{Bool, flat_map, true, false, cond, ◌&&◌, ◌||◌, ℕ, ◌+◌, ◌*◌, ◌-◌, eqb, leb, ltb, length, get_or, replicate}
use mathlib.Core.List.{List, [], ◌∷◌, ◌++◌, map}
use Rattle.settings.specs.Numbers.{in_range}
use Rattle.lists.specs.Lists.{every, numbers_from, same}
use Rattle.answers.specs.Refusals.{Outcome, accepted, refused}
use Rattle.answers.specs.declared.Refusal.TheVariants.{OutOfRange, WrongLength, NotAList}
use Rattle.answers.specs.declared.Operation.{Operation}
use Rattle.book.specs.Book.{StandingKey, Book, fresh_book, operation_book}

-- Writing

-- the words before the keys: D, K, C, how many keys stand, the position's key
abbrev pub words_before : ℕ
words_before = 5

-- .. and the words of a row: C-1 places of three
abbrev pub row_length : ℕ → ℕ
row_length C = words_before + 3 * (C - 1)

-- a standing key in three words: key, value, mark 1 (live) or 2 (dead)
abbrev pub key_words : StandingKey → List ℕ
key_words x = x.key ∷ x.value ∷ cond x.live 1 2 ∷ []

-- a book in words, with its D; the words of unused places are 0
unfoldable pub row_words : ℕ → Book → List ℕ
row_words D k =
    D ∷ k.largest ∷ k.cells ∷ length k.row ∷ k.position
    ∷ (flat_map key_words k.row ++ replicate (3 * (k.cells - 1 - length k.row)) 0)

-- Reading

abbrev pub key_in : List ℕ → ℕ → StandingKey
key_in ws i =
    let at = words_before + 3 * i in
    record { key = get_or ws at 0; value = get_or ws (at + 1) 0; live = eqb (get_or ws (at + 2) 0) 1 }

unfoldable pub book_in : List ℕ → Book
book_in ws =
    record { largest = get_or ws 1 0; cells = get_or ws 2 0; row = map (key_in ws) (numbers_from 0 (get_or ws 3 0)); position = get_or ws 4 0 }

-- keys above `low`, each above the one before, up to K
unfoldable pub ascending : ℕ → ℕ → List StandingKey → Bool
ascending low K [] = true
ascending low K (x ∷ row) = ltb low x.key && leb x.key K && ascending x.key K row

-- a position is the head's 0 or a standing key
unfoldable pub stands : ℕ → List StandingKey → Bool
stands key [] = false
stands key (x ∷ row) = eqb x.key key || stands key row

abbrev pub at_position : ℕ → List StandingKey → Bool
at_position position row = eqb position 0 || stands position row

-- a dead key has the value 0, and a live one is above the position
abbrev pub right_mark : ℕ → StandingKey → Bool
right_mark position x = cond x.live (ltb position x.key) (eqb x.value 0)

-- what a row may hold
unfoldable pub holds : ℕ → Book → Bool
holds D k =
    in_range D k.largest k.cells && ltb (length k.row) k.cells && ascending 0 k.largest k.row
    && at_position k.position k.row && every (right_mark k.position) k.row

-- Words are a row if it may hold what is read out of them, and writing that gives the same words.
unfoldable pub is_row : List ℕ → Bool
is_row ws = holds (get_or ws 0 0) (book_in ws) && same (row_words (get_or ws 0 0) (book_in ws)) ws

-- The operations

-- set up: 1, then 2
unfoldable pub row_set_up_out : ℕ → ℕ → ℕ → List ℕ → Outcome (List ℕ)
row_set_up_out D K C ws =
    cond (in_range D K C)
    (cond (eqb (length ws) (row_length C)) (accepted 0 0 0 (row_words D (fresh_book K C))) (refused WrongLength ws))
    (refused OutOfRange ws)

-- an outcome of the book, in words
abbrev pub in_words : ℕ → Outcome Book → Outcome (List ℕ)
in_words D o = record { answered = o.answered; left = row_words D o.left }

-- any of the five: 3, then what it does to the book
unfoldable pub row_out : Operation → List ℕ → Outcome (List ℕ)
row_out operation ws = cond (is_row ws) (in_words (get_or ws 0 0) (operation_book operation (book_in ws))) (refused NotAList ws)
