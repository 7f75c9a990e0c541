-- The check: words of the right shape, whose keys and marks are right, whose position stands and whose unused words are 0 are a row; and a row is all that.
use mathlib.Core.Path.{◌≡◌, refl, sym, ap, ◌∙◌}
use mathlib.Core.Bool.{Bool, true, false, cond, ◌&&◌}
use mathlib.Core.List.{List, [], ◌∷◌, ◌++◌, map}
use Prim.Native.Nat.{ℕ, zero, suc, ◌+◌, ◌*◌, ◌-◌, ◌≤◌, ◌<◌}
use native.Mathlib.Numerals.{add-one}
use native.Mathlib.Omega.{arith}
use lib.Dec.{eqb, ltb}
use lib.ListN.{length, get_or, drop, replicate, length-drop, drop_of_length-le}
use lib.Seq.{drop-cons}
use borrow.Author.Tests.{lt-ltb, eqb-true, eq-eqb, ne_eqb}
use Rattle.std.specs.Prelude.{flat_map}
use Rattle.lists.specs.Lists.{every, numbers_from, same}
use Rattle.std.specs.List.{list_all}
use Rattle.std.proofs.lemmas.Bool.Decides.{nat_tests}
use Rattle.lists.proofs.Tests.{both, and_both}
use Rattle.lists.proofs.Same.{same_refl}
use Rattle.settings.specs.Numbers.{in_range}
use Rattle.book.specs.Book.{StandingKey, Book}
use Rattle.row.specs.Row.{key_words, row_words, key_in, book_in, ascending, at_position, right_mark, holds, is_row}
use Rattle.row.specs.Places.{Shaped, word_of, place_at, right_key, right_keys}
use Rattle.row.proofs.Written.{unused, words_split, words_drop, words_length, word_back, row_written, row_holds, read_length}

-- What a row may hold, part by part
pub record Held (D : ℕ) (k : Book) : Type 0 where
  pub range : in_range D k.largest k.cells ≡ true
  pub room : length k.row < k.cells
  pub rise : ascending 0 k.largest k.row ≡ true
  pub position : at_position k.position k.row ≡ true
  pub marks : every (right_mark k.position) k.row ≡ true

pub held : (D : ℕ) (k : Book) → holds D k ≡ true → Held D k
unfolding holds
held D k e =
    record { range = grind (arith, nat_tests); room = grind (arith, nat_tests); rise = grind (arith, nat_tests); position = grind (arith, nat_tests); marks = grind (arith, nat_tests) }

pub may_hold : (D : ℕ) (k : Book) → Held D k → holds D k ≡ true
unfolding holds
may_hold D k h = rw (h.range, lt-ltb (length k.row) k.cells h.room, h.rise, h.position, h.marks) refl

-- The keys: right on the words exactly if they are right in the book that is read, and each mark is 1 or 2

abbrev pub Marked : ℕ → Type 0
Marked mark = cond (eqb mark 1) 1 2 ≡ mark

abbrev keys_from : List ℕ → ℕ → ℕ → List StandingKey
keys_from ws i n = map (key_in ws) (numbers_from i n)

abbrev mark_at : List ℕ → ℕ → ℕ
mark_at ws i = get_or ws (word_of i + 2) 0

mark_written : (live : Bool) → Marked (cond live 1 2)
mark_written true = refl
mark_written false = refl

mark_told :
    (mark value : ℕ) (above : Bool) → cond (eqb mark 1) above (eqb mark 2 && eqb value 0) ≡ true → (cond (eqb mark 1) above (eqb value 0) ≡ true) × Marked mark
mark_told mark value above e = grind (arith, nat_tests)

mark_kept : (mark value : ℕ) (above : Bool) → cond (eqb mark 1) above (eqb value 0) ≡ true → Marked mark → cond (eqb mark 1) above (eqb mark 2 && eqb value 0) ≡ true
mark_kept mark value above e m = grind (arith, nat_tests)

module _ (ws : List ℕ) where
  pub right_told :
      (n low i : ℕ) → right_keys ws low i n ≡ true →
      (ascending low (get_or ws 1 0) (keys_from ws i n) ≡ true)
      × ((every (right_mark (get_or ws 4 0)) (keys_from ws i n) ≡ true) × ((j : ℕ) → i ≤ j → j < i + n → Marked (mark_at ws j)))
  unfolding right_keys right_key ascending every numbers_from
  right_told zero low i e = (refl, (refl, λ j p q. absurd (omega arith)))
  right_told (suc n) low i e =
      let x = place_at ws i in
      let t = both (right_key ws low x) (right_keys ws x.key (suc i) n) e in
      let more = right_told n x.key (suc i) t.1 in
      let here = mark_told x.mark x.value (ltb (get_or ws 4 0) x.key) in
      (grind (arith, nat_tests), (grind (arith, nat_tests), λ j p q. grind (arith, nat_tests, more.1.1 j)))

  pub right_kept :
      (n low i : ℕ) → ascending low (get_or ws 1 0) (keys_from ws i n) ≡ true → every (right_mark (get_or ws 4 0)) (keys_from ws i n) ≡ true →
      ((j : ℕ) → i ≤ j → j < i + n → Marked (mark_at ws j)) → right_keys ws low i n ≡ true
  unfolding right_keys right_key ascending every numbers_from
  right_kept zero low i a e m = refl
  right_kept (suc n) low i a e m =
      let x = place_at ws i in
      let more = right_kept n x.key (suc i) in
      let here = mark_kept x.mark x.value (ltb (get_or ws 4 0) x.key) in
      let marked = m i (omega arith) (omega arith) in
      let later = λ (j : ℕ) (p : suc i ≤ j) (q : j < suc i + n). m j (omega arith) (omega arith) in
      grind (arith, nat_tests)

  -- the words of the keys, written again
  keys_again :
      (n i : ℕ) → word_of (i + n) ≤ length ws → ((j : ℕ) → i ≤ j → j < i + n → Marked (mark_at ws j)) →
      drop (word_of i) ws ≡ flat_map key_words (keys_from ws i n) ++ drop (word_of (i + n)) ws
  unfolding numbers_from
  keys_again zero i h m = let none : i + 0 ≡ i = omega arith in rw none refl
  keys_again (suc n) i h m =
      let at = word_of i in
      let one : at + 1 ≡ suc at = omega arith in
      let two : at + 2 ≡ suc (suc at) = omega arith in
      let next : word_of (suc i) ≡ suc (suc (suc at)) = omega arith in
      let on : i + suc n ≡ suc i + n = omega arith in
      let ih : drop (suc (suc (suc at))) ws ≡ flat_map key_words (keys_from ws (suc i) n) ++ drop (word_of (i + suc n)) ws =
      rw (← next, on) (keys_again n (suc i) (omega arith) (λ j p q. m j (omega arith) (omega arith))) in
      let mark : get_or ws (suc (suc at)) 0 ≡ cond (eqb (get_or ws (at + 2) 0) 1) 1 2 = rw (← two) (sym (m i (omega arith) (omega arith))) in
      let words : drop at ws ≡ get_or ws at 0 ∷ get_or ws (at + 1) 0 ∷ cond (eqb (get_or ws (at + 2) 0) 1) 1 2 ∷ drop (suc (suc (suc at))) ws =
      drop-cons ws at 0 (omega arith)
      ∙ ap (λ l. get_or ws at 0 ∷ l)
      (drop-cons ws (suc at) 0 (omega arith)
      ∙ (rw one (ap (λ l. get_or ws (suc at) 0 ∷ l) (drop-cons ws (suc (suc at)) 0 (omega arith) ∙ ap (λ w. w ∷ drop (suc (suc (suc at))) ws) mark)))) in
      words ∙ ap (λ l. get_or ws at 0 ∷ get_or ws (at + 1) 0 ∷ cond (eqb (get_or ws (at + 2) 0) 1) 1 2 ∷ l) ih

-- The words before the keys, and those that are 0

front_words : (ws : List ℕ) → 5 ≤ length ws → ws ≡ get_or ws 0 0 ∷ get_or ws 1 0 ∷ get_or ws 2 0 ∷ get_or ws 3 0 ∷ get_or ws 4 0 ∷ drop 5 ws
front_words [] h = absurd (omega arith)
front_words (a ∷ []) h = absurd (omega arith)
front_words (a ∷ b ∷ []) h = absurd (omega arith)
front_words (a ∷ b ∷ c ∷ []) h = absurd (omega arith)
front_words (a ∷ b ∷ c ∷ d ∷ []) h = absurd (omega arith)
front_words (a ∷ b ∷ c ∷ d ∷ e ∷ ws) h = refl

zero_words : (ws : List ℕ) → list_all (λ w. eqb w 0) ws ≡ true → ws ≡ replicate (length ws) 0
zero_words [] e = refl
zero_words (w ∷ ws) e =
    let t = both (eqb w 0) (list_all (λ w. eqb w 0) ws) e in
    λ i. eqb-true w 0 t.0 i ∷ zero_words ws t.1 i

zeros_zero : (n : ℕ) → list_all (λ w. eqb w 0) (replicate n 0) ≡ true
zeros_zero zero = refl
zeros_zero (suc n) = zeros_zero n

-- the words of a part from place i on are all 0 if the one there is, and those after it
module _ (part : List ℕ) (i : ℕ) where
  pub zero_here : i < length part → (get_or part i 0 ≡ 0 → ⊥) → list_all (λ w. eqb w 0) (drop i part) ≡ false
  zero_here h ne = rw (drop-cons part i 0 h, ne_eqb (get_or part i 0) 0 ne) refl

  pub zero_on : i < length part → get_or part i 0 ≡ 0 → list_all (λ w. eqb w 0) (drop i part) ≡ list_all (λ w. eqb w 0) (drop (i + 1) part)
  zero_on h e = rw (add-one i, drop-cons part i 0 h, eq-eqb (get_or part i 0) 0 e) refl

  pub zero_end : length part ≤ i → list_all (λ w. eqb w 0) (drop i part) ≡ true
  zero_end h = rw (drop_of_length-le part h) refl

-- Both ways

module _ (ws : List ℕ) where
  pub checked :
      Shaped ws → right_keys ws 0 0 (get_or ws 3 0) ≡ true → at_position (get_or ws 4 0) (book_in ws).row ≡ true →
      list_all (λ w. eqb w 0) (drop (word_of (get_or ws 3 0)) ws) ≡ true → is_row ws ≡ true
  unfolding is_row book_in
  checked shape keys position zeros =
      let n = get_or ws 3 0 in
      let t = right_told ws n 0 0 keys in
      let may : holds (get_or ws 0 0) (book_in ws) ≡ true =
      may_hold (get_or ws 0 0) (book_in ws)
      record { range = shape.range; room = omega (arith, read_length ws, shape.room); rise = t.0; position = position; marks = t.1.0 } in
      let left : length (drop (word_of n) ws) ≡ 3 * (get_or ws 2 0 - 1 - length (book_in ws).row) =
      omega (arith, length-drop (word_of n) ws, read_length ws, shape.long, shape.room) in
      let rest : drop (word_of n) ws ≡ unused (book_in ws) = zero_words (drop (word_of n) ws) zeros ∙ ap (λ m. replicate m 0) left in
      let none : 0 + n ≡ n = omega arith in
      let within : word_of (0 + n) ≤ length ws = omega (arith, shape.long, shape.room) in
      let keyed : drop 5 ws ≡ flat_map key_words (book_in ws).row ++ drop (word_of n) ws = rw none at (keys_again ws n 0 within t.1.1) in
      let body : flat_map key_words (book_in ws).row ++ unused (book_in ws) ≡ drop 5 ws =
      ap (λ l. flat_map key_words (book_in ws).row ++ l) (sym rest) ∙ sym keyed in
      let again : row_words (get_or ws 0 0) (book_in ws) ≡ ws =
      words_split (get_or ws 0 0) (book_in ws)
      ∙ (λ i. get_or ws 0 0 ∷ get_or ws 1 0 ∷ get_or ws 2 0 ∷ read_length ws i ∷ get_or ws 4 0 ∷ body i)
      ∙ sym (front_words ws (omega (arith, shape.long))) in
      and_both (holds (get_or ws 0 0) (book_in ws)) (same (row_words (get_or ws 0 0) (book_in ws)) ws) may (rw again (same_refl ws))

  pub row_shaped : is_row ws ≡ true → Shaped ws
  unfolding book_in
  row_shaped e =
      let h = held (get_or ws 0 0) (book_in ws) (row_holds ws e) in
      let few : get_or ws 3 0 < get_or ws 2 0 = omega (arith, read_length ws, h.room) in
      record { range = h.range; long = ap length (row_written ws e) ∙ words_length (get_or ws 0 0) (book_in ws) h.room; room = few }

  pub row_range : is_row ws ≡ true → in_range (get_or ws 0 0) (get_or ws 1 0) (get_or ws 2 0) ≡ true
  row_range e = (row_shaped e).range

  pub row_long : is_row ws ≡ true → length ws ≡ 5 + 3 * (get_or ws 2 0 - 1)
  row_long e = (row_shaped e).long

  pub row_room : is_row ws ≡ true → get_or ws 3 0 < get_or ws 2 0
  row_room e = (row_shaped e).room

  pub row_keys : is_row ws ≡ true → right_keys ws 0 0 (get_or ws 3 0) ≡ true
  unfolding book_in
  row_keys e =
      let h = held (get_or ws 0 0) (book_in ws) (row_holds ws e) in
      right_kept ws (get_or ws 3 0) 0 0 h.rise h.marks
      (λ j p q.
      let k = book_in ws in
      let z = key_in ws j in
      let within : j < length k.row = omega (arith, read_length ws) in
      let mark : mark_at ws j ≡ cond (get_or k.row j z).live 1 2 =
      ap (λ l. get_or l (word_of j + 2) 0) (row_written ws e)
      ∙ word_back (get_or ws 0 0) k j (get_or k.row j z) (drop (suc j) k.row) within (drop-cons k.row j z within) 2 in
      rw mark (mark_written (get_or k.row j z).live))

  pub row_position : is_row ws ≡ true → at_position (get_or ws 4 0) (book_in ws).row ≡ true
  unfolding book_in
  row_position e = (held (get_or ws 0 0) (book_in ws) (row_holds ws e)).position

  pub row_zeros : is_row ws ≡ true → list_all (λ w. eqb w 0) (drop (word_of (get_or ws 3 0)) ws) ≡ true
  row_zeros e =
      let k = book_in ws in
      let n = get_or ws 3 0 in
      let all : length k.row ≤ n = omega (arith, read_length ws) in
      let rest : drop (word_of n) (row_words (get_or ws 0 0) k) ≡ unused k =
      words_drop (get_or ws 0 0) k n (omega (arith, read_length ws)) ∙ ap (λ r. flat_map key_words r ++ unused k) (drop_of_length-le k.row all) in
      ap (λ l. list_all (λ w. eqb w 0) (drop (word_of n) l)) (row_written ws e) ∙ (rw rest (zeros_zero (3 * (k.cells - 1 - length k.row))))

-- Told of the keys
pub keys_rise : (ws : List ℕ) → right_keys ws 0 0 (get_or ws 3 0) ≡ true → ascending 0 (get_or ws 1 0) (book_in ws).row ≡ true
unfolding book_in
keys_rise ws e = (right_told ws (get_or ws 3 0) 0 0 e).0
