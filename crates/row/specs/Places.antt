-- What the inner functions of the row are proved against: words of the right shape, the places, the search, and the test of one key.
use Rattle.std.specs.Prelude.{◌≡◌, Bool, true, cond, ◌&&◌, List, [], ◌∷◌, ℕ, zero, suc, ◌+◌, ◌*◌, ◌≤◌, ◌<◌, eqb, leb, ltb, length, get_or, take}
use Rattle.settings.specs.Numbers.{in_range}
use Rattle.book.specs.Book.{StandingKey, with_row, last_in, dead_before}
use Rattle.row.specs.declared.Place.{Place}
use Rattle.row.specs.Row.{words_before, row_length, row_words, book_in}

-- D, K and C in range, as many words as C asks for, and fewer keys than C
pub record Shaped (ws : List ℕ) : Type 0 where
  pub range : in_range (get_or ws 0 0) (get_or ws 1 0) (get_or ws 2 0) ≡ true
  pub long : length ws ≡ row_length (get_or ws 2 0)
  pub room : get_or ws 3 0 < get_or ws 2 0

-- where place i begins
abbrev pub word_of : ℕ → ℕ
word_of i = words_before + 3 * i

-- what stands at place i
abbrev pub place_at : List ℕ → ℕ → Place
place_at ws i = record { key = get_or ws (word_of i) 0; value = get_or ws (word_of i + 1) 0; mark = get_or ws (word_of i + 2) 0 }

-- the place of the first key at or above a key
unfoldable pub place_of : ℕ → List StandingKey → ℕ
place_of key [] = 0
place_of key (x ∷ row) = cond (leb key x.key) 0 (suc (place_of key row))

-- a key stands at place i; or place i is where it would, and another stands there or none
pub record Found (ws : List ℕ) (key i : ℕ) : Type 0 where
  pub place : i ≡ place_of key (book_in ws).row
  pub within : i < get_or ws 3 0
  pub is : (place_at ws i).key ≡ key

pub record Missing (ws : List ℕ) (key i : ℕ) : Type 0 where
  pub place : i ≡ place_of key (book_in ws).row
  pub fits : i ≤ get_or ws 3 0
  pub other : i < get_or ws 3 0 → (place_at ws i).key ≡ key → ⊥

-- how many dead keys stand before the first live one
abbrev pub dead_in_front : List ℕ → ℕ
dead_in_front ws = length (dead_before (book_in ws).row)

-- the position after an insert of a key whose place is i
abbrev pub position_after : List ℕ → ℕ → ℕ → ℕ
position_after ws i key = cond (leb key (get_or ws 4 0)) (last_in (take i (book_in ws).row)) (get_or ws 4 0)

-- the words with other keys
abbrev pub with_keys : List ℕ → List StandingKey → List ℕ
with_keys ws row = row_words (get_or ws 0 0) (with_row (book_in ws) row (book_in ws).position)

-- a place's key is above `low` and at most K; it is live and above the position, or dead with the value 0
unfoldable pub right_key : List ℕ → ℕ → Place → Bool
right_key ws low x =
    ltb low x.key && leb x.key (get_or ws 1 0) && cond (eqb x.mark 1) (ltb (get_or ws 4 0) x.key) (eqb x.mark 2 && eqb x.value 0)

-- .. and so are n keys from place i on, each above the one before
unfoldable pub right_keys : List ℕ → ℕ → ℕ → ℕ → Bool
right_keys ws low i zero = true
right_keys ws low i (suc n) = right_key ws low (place_at ws i) && right_keys ws (place_at ws i).key (suc i) n
