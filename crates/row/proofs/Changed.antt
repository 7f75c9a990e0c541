-- The words after a change are those of the changed book: a key put in a place, a key more, the first keys freed.
use mathlib.Core.Path.{◌≡◌, refl, sym, ap, ◌∙◌}
use mathlib.Core.Bool.{true}
use mathlib.Core.List.{List, [], ◌∷◌, ◌++◌, append_assoc}
use Prim.Native.Nat.{ℕ, suc, ◌+◌, ◌*◌, ◌-◌, ◌≤◌, ◌<◌}
use native.Mathlib.Omega.{arith}
use lib.ListN.{length, get_or, take, drop, set, replicate, length-append, length-drop, length-set, replicate-append-replicate, drop_of_length-le}
use lib.Seq.{drop-drop, take-append-le, take-take, sets, sets-eq, set_split, length-take-le, take_at, drop_at}
use Rattle.std.specs.Prelude.{flat_map}
use Rattle.std.specs.List.{copy_within}
use Rattle.std.proofs.lemmas.Grind.{flat_map-append}
use borrow.Rule.Slice.PartMut.{put_mid}
use Rattle.book.specs.Book.{StandingKey, standing_key, Book, fresh_book, with_row}
use Rattle.row.specs.Row.{row_length, key_words, row_words, book_in, is_row}
use Rattle.row.specs.Places.{word_of, with_keys}
use Rattle.row.proofs.Written.{front, unused, keys_length, words_split, words_length, words_take, words_drop, row_written, row_holds, read_length}
use Rattle.row.proofs.Checking.{held}

module _ (D : ℕ) (k : Book) where
  -- the words of the book with other keys
  built :
      (row : List StandingKey) (w m : ℕ) → w ≡ length row → m ≡ 3 * (k.cells - 1 - length row) →
      ◌≡◌ {A = List ℕ} (D ∷ k.largest ∷ k.cells ∷ w ∷ k.position ∷ (flat_map key_words row ++ replicate m 0)) (row_words D (with_row k row k.position))
  unfolding row_words
  built row w m e f = λ t. D ∷ k.largest ∷ k.cells ∷ e t ∷ k.position ∷ (flat_map key_words row ++ replicate (f t) 0)

  -- another position
  pub position_put : (q : ℕ) → set (row_words D k) 4 q ≡ row_words D (with_row k k.row q)
  unfolding row_words
  position_put q = refl

  words_long : (i : ℕ) → i ≤ length k.row → word_of i ≤ length (row_words D k)
  words_long i h = rw (words_split D k) (omega (arith, length-append (flat_map key_words k.row) (unused k), keys_length k.row))

  -- three words stored at place i, by what is before it and what is behind
  keys_with :
      (i : ℕ) (x : StandingKey) (row later : List StandingKey) (n m : ℕ) → i ≤ length k.row → row ≡ take i k.row ++ (x ∷ later) → n ≡ length row → m ≡ 3 * (k.cells - 1 - length row) →
      set ((front D k ++ flat_map key_words (take i k.row)) ++ key_words x ++ (flat_map key_words later ++ replicate m 0)) 3 n ≡ row_words D (with_row k row k.position)
  keys_with i x row later n m h is count room =
      let words : flat_map key_words (take i k.row) ++ key_words x ++ (flat_map key_words later ++ replicate m 0) ≡ flat_map key_words row ++ replicate m 0 =
      rw (is, flat_map-append key_words (take i k.row) (x ∷ later)) (simp append_assoc) in
      ap (λ (l : List ℕ). D ∷ k.largest ∷ k.cells ∷ n ∷ k.position ∷ l) words ∙ built row n m count room

  -- a key in the place of one that stands
  pub key_put :
      (i : ℕ) (x : StandingKey) → i < length k.row → sets (row_words D k) (word_of i) (key_words x) ≡ row_words D (with_row k (set k.row i x) k.position)
  key_put i x h =
      let next : word_of i + 3 ≡ word_of (suc i) = omega arith in
      let long = length-set k.row i x in
      sets-eq (key_words x) (row_words D k) (word_of i) (omega (arith, words_long (suc i) h))
      ∙ (rw (words_take D k i (omega arith), next, words_drop D k (suc i) h)
      (keys_with i x (set k.row i x) (drop (suc i) k.row) (length k.row) (3 * (k.cells - 1 - length k.row)) (omega arith) (set_split k.row i x h) (sym long) (omega arith)))

  -- the first keys freed
  pub keys_freed :
      (n : ℕ) → n ≤ length k.row → length k.row < k.cells →
      let at = word_of (length k.row - n) in
      let end = word_of (length k.row) in
      set (put_mid at (end - at) (copy_within (row_words D k) (word_of n) end 5) (replicate (end - at) 0)) 3 (length k.row - n)
      ≡ row_words D (with_row k (drop n k.row) k.position)
  unfolding row_words
  keys_freed n h room =
      let ws = row_words D k in
      let len = length k.row in
      let at = word_of (len - n) in
      let end = word_of len in
      let kept = flat_map key_words (drop n k.row) in
      let kept_long : length kept ≡ end - word_of n = omega (arith, keys_length (drop n k.row), length-drop n k.row) in
      let moved_up_to : 5 + (end - word_of n) ≡ at = omega arith in
      let from : take (end - word_of n) (drop (word_of n) ws) ≡ kept =
      ap (λ (l : List ℕ). take (end - word_of n) l) (words_drop D k n h) ∙ take_at kept (unused k) (end - word_of n) kept_long in
      let first = front D k ++ kept in
      let first_long : length first ≡ at = omega (arith, length-append (front D k) kept) in
      let moved : copy_within ws (word_of n) end 5 ≡ first ++ drop at ws = rw (from, moved_up_to) refl in
      let on : at + (end - at) ≡ end = omega arith in
      let all : length k.row ≤ len = omega arith in
      let past : drop (end - at) (drop at ws) ≡ unused k =
      rw (drop-drop (end - at) at ws, on) (words_drop D k len all ∙ ap (λ (r : List StandingKey). flat_map key_words r ++ unused k) (drop_of_length-le k.row all)) in
      let zeros : replicate (end - at) 0 ++ unused k ≡ replicate (end - at + 3 * (k.cells - 1 - len)) 0 =
      replicate-append-replicate (end - at) (3 * (k.cells - 1 - len)) 0 in
      let left = length-drop n k.row in
      rw (moved, take_at first (drop at ws) at first_long, drop_at first (drop at ws) at first_long, past, zeros)
      (built (drop n k.row) (len - n) (end - at + 3 * (k.cells - 1 - len)) (sym left) (omega arith))

  -- a key more
  pub key_added :
      (i key value : ℕ) → i ≤ length k.row → length k.row + 1 < k.cells →
      set (sets (copy_within (row_words D k) (word_of i) (word_of (length k.row)) (word_of i + 3)) (word_of i) (key ∷ value ∷ 1 ∷ [])) 3 (length k.row + 1)
      ≡ row_words D (with_row k (take i k.row ++ (standing_key key value true ∷ drop i k.row)) k.position)
  key_added i key value h room =
      let ws = row_words D k in
      let n = length k.row in
      let x = standing_key key value true in
      let later = flat_map key_words (drop i k.row) in
      let m = 3 * (k.cells - 1 - (n + 1)) in
      let at = word_of i in
      let end = word_of n in
      let later_long : length later ≡ end - at = omega (arith, keys_length (drop i k.row), length-drop i k.row) in
      let past : drop (at + 3 + (end - at)) ws ≡ replicate m 0 =
      let on : at + 3 + (end - at) ≡ end + 3 = omega arith in
      let all : length k.row ≤ n = omega arith in
      let more : 3 * (k.cells - 1 - n) ≡ suc (suc (suc m)) = omega arith in
      rw (on, sym (drop-drop 3 end ws), words_drop D k n all, drop_of_length-le k.row all, more) refl in
      let long : at + 3 ≤ length ws = omega (arith, words_length D k (omega arith)) in
      let up_to = take (at + 3) ws in
      let up_to_long : length up_to ≡ at + 3 = length-take-le (at + 3) ws long in
      let from : take (end - at) (drop at ws) ≡ later =
      ap (λ (l : List ℕ). take (end - at) l) (words_drop D k i h) ∙ take_at later (unused k) (end - at) later_long in
      let opened : copy_within ws at end (at + 3) ≡ up_to ++ (later ++ replicate m 0) = rw (from, past) (append_assoc up_to later (replicate m 0)) in
      let before : take at (up_to ++ (later ++ replicate m 0)) ≡ front D k ++ flat_map key_words (take i k.row) =
      take-append-le at up_to (later ++ replicate m 0) (omega arith) ∙ take-take at (at + 3) ws (omega arith) ∙ words_take D k i h in
      let behind : drop (at + 3) (up_to ++ (later ++ replicate m 0)) ≡ later ++ replicate m 0 = drop_at up_to (later ++ replicate m 0) (at + 3) up_to_long in
      let count : n + 1 ≡ length (take i k.row ++ (x ∷ drop i k.row)) =
      omega (arith, length-append (take i k.row) (x ∷ drop i k.row), length-take-le i k.row h, length-drop i k.row) in
      rw (opened, sets-eq (key_words x) (up_to ++ (later ++ replicate m 0)) at (omega (arith, length-append up_to (later ++ replicate m 0))), before, behind)
      (keys_with i x (take i k.row ++ (x ∷ drop i k.row)) (drop i k.row) (n + 1) m h refl count (ap (λ w. 3 * (k.cells - 1 - w)) count))

-- A fresh row

pub fresh_words_lem : (D K C n : ℕ) → n ≡ row_length C → set (set (set (replicate n 0) 0 D) 1 K) 2 C ≡ row_words D (fresh_book K C)
unfolding row_words
fresh_words_lem D K C n long =
    let words : n ≡ suc (suc (suc (suc (suc (3 * (C - 1)))))) = omega arith in
    let all : 3 * (C - 1) ≡ 3 * (C - 1 - 0) = omega arith in
    rw words (ap (λ (m : ℕ). D ∷ K ∷ C ∷ 0 ∷ 0 ∷ replicate m 0) all)

-- The same of words that are a row

module _ (ws : List ℕ) (e : is_row ws ≡ true) where
  row_put :
      (i : ℕ) (x : StandingKey) → i < get_or ws 3 0 →
      sets ws (word_of i) (key_words x) ≡ row_words (get_or ws 0 0) (with_row (book_in ws) (set (book_in ws).row i x) (book_in ws).position)
  row_put i x h =
      ap (λ (l : List ℕ). sets l (word_of i) (key_words x)) (row_written ws e) ∙ key_put (get_or ws 0 0) (book_in ws) i x (omega (arith, read_length ws))

  pub row_put_at :
      (i : ℕ) (x : StandingKey) (q : ℕ) → i < get_or ws 3 0 →
      set (sets ws (word_of i) (key_words x)) 4 q ≡ row_words (get_or ws 0 0) (with_row (book_in ws) (set (book_in ws).row i x) q)
  row_put_at i x q h =
      let D = get_or ws 0 0 in
      ap (λ (l : List ℕ). set l 4 q) (row_put i x h) ∙ position_put D (with_row (book_in ws) (set (book_in ws).row i x) (book_in ws).position) q

  pub row_placed : (q : ℕ) → set ws 4 q ≡ row_words (get_or ws 0 0) (with_row (book_in ws) (book_in ws).row q)
  row_placed q = ap (λ (l : List ℕ). set l 4 q) (row_written ws e) ∙ position_put (get_or ws 0 0) (book_in ws) q

  pub row_freed :
      (n at end : ℕ) (moved : List ℕ) → n ≤ get_or ws 3 0 → end ≡ word_of (get_or ws 3 0) → at ≡ word_of (get_or ws 3 0 - n) →
      moved ≡ copy_within ws (word_of n) end 5 →
      set (put_mid at (end - at) moved (replicate (end - at) 0)) 3 (get_or ws 3 0 - n) ≡ with_keys ws (drop n (book_in ws).row)
  row_freed n at end moved h e_is at_is is =
      let done = keys_freed (get_or ws 0 0) (book_in ws) n (omega (arith, read_length ws)) (held (get_or ws 0 0) (book_in ws) (row_holds ws e)).room in
      let n_is : length (book_in ws).row ≡ get_or ws 3 0 = read_length ws in
      rw (is, at_is, e_is)
      (ap (λ (l : List ℕ).
      set (put_mid (word_of (get_or ws 3 0 - n)) (word_of (get_or ws 3 0) - word_of (get_or ws 3 0 - n)) (copy_within l (word_of n) (word_of (get_or ws 3 0)) 5)
      (replicate (word_of (get_or ws 3 0) - word_of (get_or ws 3 0 - n)) 0)) 3 (get_or ws 3 0 - n)) (row_written ws e)
      ∙ (rw n_is at done))

  pub row_added :
      (i key value start end : ℕ) (moved : List ℕ) → i ≤ get_or ws 3 0 → get_or ws 3 0 + 1 < get_or ws 2 0 → start ≡ word_of i → end ≡ word_of (get_or ws 3 0) →
      moved ≡ copy_within ws start end (start + 3) →
      set (sets moved (word_of i) (key ∷ value ∷ 1 ∷ [])) 3 (get_or ws 3 0 + 1)
      ≡ with_keys ws (take i (book_in ws).row ++ (standing_key key value true ∷ drop i (book_in ws).row))
  unfolding book_in
  row_added i key value start end moved h room s_is e_is is =
      let done = key_added (get_or ws 0 0) (book_in ws) i key value (omega (arith, read_length ws)) (omega (arith, read_length ws)) in
      let n_is : length (book_in ws).row ≡ get_or ws 3 0 = read_length ws in
      rw (is, s_is, e_is)
      (ap (λ (l : List ℕ).
      set (sets (copy_within l (word_of i) (word_of (get_or ws 3 0)) (word_of i + 3)) (word_of i) (key ∷ value ∷ 1 ∷ [])) 3 (get_or ws 3 0 + 1)) (row_written ws e)
      ∙ (rw n_is at done))
