-- The words of a row: where its places begin, and that what is read out of them is the book that was written.
use mathlib.Core.Path.{◌≡◌, refl, sym, ap, ◌∙◌}
use mathlib.Core.Bool.{Bool, true, false, cond}
use mathlib.Core.List.{List, [], ◌∷◌, ◌++◌}
use Prim.Native.Nat.{ℕ, zero, suc, ◌+◌, ◌*◌, ◌-◌, ◌≤◌, ◌<◌}
use native.Mathlib.Omega.{arith}
use lib.Dec.{eqb}
use lib.ListN.{length, get_or, take, drop, replicate, length-append, length-replicate}
use lib.Seq.{drop-cons, get_or-drop, ext_get_or, take-append-add, drop-append-add}
use Rattle.std.specs.Prelude.{flat_map}
use Rattle.lists.specs.Lists.{same}
use Rattle.lists.proofs.Tests.{both, and_both}
use Rattle.lists.proofs.Numbers.{made_at, made_length}
use Rattle.lists.proofs.Same.{same_refl, same_eq}
use Rattle.book.specs.Book.{StandingKey, standing_key, Book}
use Rattle.row.specs.Row.{row_length, key_words, row_words, key_in, book_in, holds, is_row}
use Rattle.row.specs.Places.{word_of}

-- three words for a key

pub keys_length : (row : List StandingKey) → length (flat_map key_words row) ≡ 3 * length row
keys_length [] = refl
keys_length (x ∷ row) = let more = keys_length row in omega arith

pub keys_append : (a b : List StandingKey) → flat_map key_words (a ++ b) ≡ flat_map key_words a ++ flat_map key_words b
keys_append [] b = refl
keys_append (x ∷ a) b = ap (λ (l : List ℕ). key_words x ++ l) (keys_append a b)

pub keys_take : (row : List StandingKey) (rest : List ℕ) (i : ℕ) → i ≤ length row → take (3 * i) (flat_map key_words row ++ rest) ≡ flat_map key_words (take i row)
keys_take row rest zero h = refl
keys_take [] rest (suc i) h = absurd (omega arith)
keys_take (x ∷ row) rest (suc i) h =
    let three : 3 * suc i ≡ suc (suc (suc (3 * i))) = omega arith in
    rw three (ap (λ (l : List ℕ). key_words x ++ l) (keys_take row rest i (omega arith)))

pub keys_drop :
    (row : List StandingKey) (rest : List ℕ) (i : ℕ) → i ≤ length row → drop (3 * i) (flat_map key_words row ++ rest) ≡ flat_map key_words (drop i row) ++ rest
keys_drop row rest zero h = refl
keys_drop [] rest (suc i) h = absurd (omega arith)
keys_drop (x ∷ row) rest (suc i) h =
    let three : 3 * suc i ≡ suc (suc (suc (3 * i))) = omega arith in
    rw three (keys_drop row rest i (omega arith))

-- the words before the keys, and those of the places that are unused
abbrev pub front : ℕ → Book → List ℕ
front D k = D ∷ k.largest ∷ k.cells ∷ length k.row ∷ k.position ∷ []

abbrev pub unused : Book → List ℕ
unused k = replicate (3 * (k.cells - 1 - length k.row)) 0

pub words_split : (D : ℕ) (k : Book) → row_words D k ≡ front D k ++ (flat_map key_words k.row ++ unused k)
unfolding row_words
words_split D k = refl

module _ (D : ℕ) (k : Book) (i : ℕ) (within : i ≤ length k.row) where
  pub words_take : take (word_of i) (row_words D k) ≡ front D k ++ flat_map key_words (take i k.row)
  words_take =
      rw (words_split D k, take-append-add (front D k) (flat_map key_words k.row ++ unused k) (3 * i), keys_take k.row (unused k) i within) refl

  pub words_drop : drop (word_of i) (row_words D k) ≡ flat_map key_words (drop i k.row) ++ unused k
  words_drop =
      rw (words_split D k, drop-append-add (front D k) (flat_map key_words k.row ++ unused k) (3 * i), keys_drop k.row (unused k) i within) refl

pub words_length : (D : ℕ) (k : Book) → length k.row < k.cells → length (row_words D k) ≡ row_length k.cells
words_length D k room =
    rw (words_split D k)
    (let long = length-append (flat_map key_words k.row) (unused k) in
    let keys = keys_length k.row in
    let zeros = length-replicate {A = ℕ} (3 * (k.cells - 1 - length k.row)) 0 in
    omega arith)

-- a key is read as it was written

mark_read : (live : Bool) → eqb (cond live 1 2) 1 ≡ live
mark_read true = refl
mark_read false = refl

pub word_back :
    (D : ℕ) (k : Book) (i : ℕ) (x : StandingKey) (later : List StandingKey) →
    i < length k.row → drop i k.row ≡ x ∷ later →
    (j : ℕ) → get_or (row_words D k) (word_of i + j) 0 ≡ get_or (key_words x ++ (flat_map key_words later ++ unused k)) j 0
word_back D k i x later h e j =
    let rest = words_drop D k i (omega arith) ∙ ap (λ r. flat_map key_words r ++ unused k) e in
    sym (get_or-drop (word_of i) (row_words D k) j 0) ∙ ap (λ l. get_or l j 0) rest

key_back :
    (D : ℕ) (k : Book) (i : ℕ) (x : StandingKey) (later : List StandingKey) →
    i < length k.row → drop i k.row ≡ x ∷ later → key_in (row_words D k) i ≡ x
key_back D k i x later h e =
    let at = word_back D k i x later h e in
    let none : word_of i + 0 ≡ word_of i = omega arith in
    let key : get_or (row_words D k) (word_of i) 0 ≡ x.key = rw none at (at 0) in
    let live : eqb (get_or (row_words D k) (word_of i + 2) 0) 1 ≡ x.live = ap (λ m. eqb m 1) (at 2) ∙ mark_read x.live in
    λ t. record { key = key t; value = at 1 t; live = live t }

-- the keys that are read

pub read_length : (ws : List ℕ) → length (book_in ws).row ≡ get_or ws 3 0
unfolding book_in
read_length ws = made_length (key_in ws) 0 (get_or ws 3 0)

pub read_at : (ws : List ℕ) (i : ℕ) (z : StandingKey) → i < get_or ws 3 0 → get_or (book_in ws).row i z ≡ key_in ws i
unfolding book_in
read_at ws i z h =
    let none : 0 + i ≡ i = omega arith in
    made_at (key_in ws) 0 (get_or ws 3 0) i z h ∙ ap (key_in ws) none

pub read_from_lem : (ws : List ℕ) (i : ℕ) → i < get_or ws 3 0 → drop i (book_in ws).row ≡ key_in ws i ∷ drop (suc i) (book_in ws).row
read_from_lem ws i h =
    let within : i < length (book_in ws).row = omega (arith, read_length ws) in
    drop-cons (book_in ws).row i (key_in ws i) within ∙ ap (λ x. x ∷ drop (suc i) (book_in ws).row) (read_at ws i (key_in ws i) h)

keys_back : (D : ℕ) (k : Book) → (book_in (row_words D k)).row ≡ k.row
unfolding row_words
keys_back D k =
    let z = standing_key 0 0 true in
    let ws = row_words D k in
    ext_get_or z (book_in ws).row k.row (read_length ws)
    (λ i h.
    let within : i < length k.row = omega (arith, read_length ws) in
    read_at ws i z within ∙ key_back D k i (get_or k.row i z) (drop (suc i) k.row) within (drop-cons k.row i z within))

pub book_back : (D : ℕ) (k : Book) → book_in (row_words D k) ≡ k
unfolding book_in row_words
book_back D k = λ t. record { largest = k.largest; cells = k.cells; row = keys_back D k t; position = k.position }

-- words are a row exactly if they are those of a book that a row may hold

pub row_written : (ws : List ℕ) → is_row ws ≡ true → ws ≡ row_words (get_or ws 0 0) (book_in ws)
unfolding is_row
row_written ws e = sym (same_eq (row_words (get_or ws 0 0) (book_in ws)) ws (both (holds (get_or ws 0 0) (book_in ws)) _ e).1)

pub row_holds : (ws : List ℕ) → is_row ws ≡ true → holds (get_or ws 0 0) (book_in ws) ≡ true
unfolding is_row
row_holds ws e = (both (holds (get_or ws 0 0) (book_in ws)) (same (row_words (get_or ws 0 0) (book_in ws)) ws) e).0

pub written_row : (D : ℕ) (k : Book) → holds D k ≡ true → is_row (row_words D k) ≡ true
unfolding is_row row_words
written_row D k h = rw (book_back D k) (and_both (holds D k) (same (row_words D k) (row_words D k)) h (same_refl (row_words D k)))
