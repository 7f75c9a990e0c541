-- One turn of the loops over the keys: what the key at place i says of the keys from it on.
use mathlib.Core.Path.{◌≡◌, refl, ap, ◌∙◌}
use mathlib.Core.Bool.{Bool, true, ◌&&◌}
use mathlib.Core.List.{List, [], ◌∷◌}
use Prim.Native.Nat.{ℕ, suc, ◌+◌, ◌-◌, ◌≤◌, ◌<◌}
use native.Mathlib.Numerals.{add-one}
use native.Mathlib.Omega.{arith}
use lib.Dec.{ltb}
use lib.ListN.{length, get_or, take, drop, length-append, drop_of_length-le}
use lib.Seq.{take-suc}
use borrow.Author.Tests.{lt-ltb, le-ltb, le-leb, lt-leb, eq-eqb, ne_eqb}
use Rattle.lists.specs.Lists.{those}
use Rattle.lists.proofs.Those.{those_append}
use Rattle.book.specs.Book.{StandingKey, last_in, dead_before, standing_above}
use Rattle.row.specs.Row.{key_in, book_in}
use Rattle.row.specs.Places.{word_of, place_at, place_of, right_key, right_keys}
use Rattle.row.proofs.Searching.{last_before}
use Rattle.row.proofs.Written.{read_length, read_at, read_from_lem}

module _ (ws : List ℕ) (i : ℕ) (h : i < get_or ws 3 0) where
  -- the search for a key's place ends at one that is at or above it, and goes on after one below
  pub place_here : (key : ℕ) → key ≤ get_or ws (word_of i) 0 → place_of key (drop i (book_in ws).row) ≡ 0
  unfolding place_of
  place_here key l = rw (read_from_lem ws i h, le-leb key (get_or ws (word_of i) 0) l) refl

  pub place_on_lem : (key : ℕ) → get_or ws (word_of i) 0 < key → place_of key (drop i (book_in ws).row) ≡ suc (place_of key (drop (i + 1) (book_in ws).row))
  unfolding place_of
  place_on_lem key l = rw (add-one i, read_from_lem ws i h, lt-leb key (get_or ws (word_of i) 0) l) refl

  -- the search for a live key ends at one, and goes on after a dead one
  pub live_here : get_or ws (word_of i + 2) 0 ≡ 1 → length (dead_before (drop i (book_in ws).row)) ≡ 0
  unfolding dead_before
  live_here e = rw (read_from_lem ws i h, eq-eqb (get_or ws (word_of i + 2) 0) 1 e) refl

  pub live_on_lem : (get_or ws (word_of i + 2) 0 ≡ 1 → ⊥) → length (dead_before (drop i (book_in ws).row)) ≡ suc (length (dead_before (drop (i + 1) (book_in ws).row)))
  unfolding dead_before
  live_on_lem ne = rw (add-one i, read_from_lem ws i h, ne_eqb (get_or ws (word_of i + 2) 0) 1 ne) refl

  -- one more key is counted if it is above, and not if it is not
  above_split : (low : ℕ) → standing_above low (take (i + 1) (book_in ws).row) ≡ standing_above low (take i (book_in ws).row) + standing_above low (key_in ws i ∷ [])
  above_split low =
      let within : i < length (book_in ws).row = omega (arith, read_length ws) in
      let test : StandingKey → Bool = λ x. ltb low x.key in
      rw (add-one i, take-suc (book_in ws).row i (key_in ws i) within, read_at ws i (key_in ws i) h, those_append test (take i (book_in ws).row) (key_in ws i ∷ []))
      (length-append (those test (take i (book_in ws).row)) (those test (key_in ws i ∷ [])))

  pub above_one : (low : ℕ) → low < get_or ws (word_of i) 0 → standing_above low (take (i + 1) (book_in ws).row) ≡ standing_above low (take i (book_in ws).row) + 1
  unfolding those
  above_one low l = rw (above_split low, lt-ltb low (get_or ws (word_of i) 0) l) refl

  pub above_none : (low : ℕ) → get_or ws (word_of i) 0 ≤ low → standing_above low (take (i + 1) (book_in ws).row) ≡ standing_above low (take i (book_in ws).row)
  unfolding those
  above_none low l = rw (above_split low, le-ltb low (get_or ws (word_of i) 0) l) (omega arith)

-- behind the last key both end
pub keys_end : (ws : List ℕ) (i : ℕ) → get_or ws 3 0 ≤ i → drop i (book_in ws).row ≡ []
keys_end ws i h = let past : length (book_in ws).row ≤ i = omega (arith, read_length ws) in drop_of_length-le (book_in ws).row past

pub place_end : (ws : List ℕ) (i key : ℕ) → get_or ws 3 0 ≤ i → place_of key (drop i (book_in ws).row) ≡ 0
unfolding place_of
place_end ws i key h = rw (keys_end ws i h) refl

pub live_end : (ws : List ℕ) (i : ℕ) → get_or ws 3 0 ≤ i → length (dead_before (drop i (book_in ws).row)) ≡ 0
unfolding dead_before
live_end ws i h = rw (keys_end ws i h) refl

-- the check of the keys from place i on is that of the key there, and of those after it
pub right_turn :
    (ws : List ℕ) (n low i : ℕ) → i < n →
    right_keys ws low i (n - i) ≡ (right_key ws low (place_at ws i) && right_keys ws (place_at ws i).key (i + 1) (n - (i + 1)))
unfolding right_keys
right_turn ws n low i h =
    let more : n - i ≡ suc (n - (i + 1)) = omega arith in
    rw (more, add-one i) refl

pub right_end : (ws : List ℕ) (n low i : ℕ) → n ≤ i → right_keys ws low i (n - i) ≡ true
unfolding right_keys
right_end ws n low i h = let none : n - i ≡ 0 = omega arith in rw none refl

-- the last of the keys before a place
pub last_at : (ws : List ℕ) (i : ℕ) → 0 < i → i ≤ get_or ws 3 0 → last_in (take i (book_in ws).row) ≡ (place_at ws (i - 1)).key
last_at ws i some h =
    let j = i - 1 in
    let next : i ≡ suc j = omega arith in
    let at = read_at ws j (key_in ws j) (omega arith) in
    ap (λ m. last_in (take m (book_in ws).row)) next ∙ last_before (book_in ws).row j (key_in ws j) (omega (arith, read_length ws)) ∙ ap (λ x. x.key) at
