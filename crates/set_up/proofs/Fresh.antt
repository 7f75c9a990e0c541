-- The words that the code writes are the picture of a fresh list: of the head every test leads to 0, and the free cell x is followed by
-- x + 1, except the last.
use mathlib.Core.Path.{◌≡◌, refl}
use mathlib.Core.Bool.{Bool, true, false, cond}
use mathlib.Core.List.{List, [], map, flat_map}
use Prim.Native.Nat.{ℕ, zero, suc, ◌+◌, ◌-◌, ◌≤◌, ◌<◌}
use native.Mathlib.Nat.{add-suc, suc-add}
use native.Mathlib.Omega.{arith}
use lib.Dec.{eqb, leb, ltb, eqb-zero-suc, eqb-suc-zero}
use borrow.Author.Tests.{eqb-true, eqb-false, eq-eqb, ne_eqb}
use Rattle.settings.specs.Numbers.{cell_words, base_of}
use Rattle.settings.specs.Checked.{settings_of}
use Rattle.lists.specs.Lists.{numbers_from, first_number}
use Rattle.meaning.specs.Keys.{shared}
use Rattle.meaning.specs.Row.{head_place, first_sharing, link, places_after, places, place_of}
use Rattle.meaning.specs.State.{position_key}
use Rattle.meaning.specs.Picture.{standing_words, next_free, free_words, words_of, first_with, path_word, path, cell_pictures, picture}
use Rattle.meaning.specs.Operations.{fresh}
use Rattle.set_up.specs.Fresh.{zeros, fresh_first, fresh_mark, fresh_cell, fresh_cells, fresh_list}

either_zero : (t : Bool) → ◌≡◌ {A = ℕ} (cond t 0 0) 0
either_zero true = refl
either_zero false = refl

map_zeros : (f : ℕ → ℕ) → ((d : ℕ) → f d ≡ 0) → (i n : ℕ) → map f (numbers_from i n) ≡ zeros n
unfolding numbers_from
map_zeros f all i zero = refl
map_zeros f all i (suc n) = rw (all i, map_zeros f all (suc i) n) refl

-- The head

head_link : (b D d : ℕ) → link b D (head_place []) d ≡ 0
unfolding link first_sharing
head_link b D d = either_zero (leb 0 d)

head_words : (b D C : ℕ) → standing_words b D (head_place []) ≡ fresh_cell D C 0
unfolding standing_words fresh_cell fresh_first fresh_mark
head_words b D C =
    let n : cell_words D - 3 ≡ suc (suc (suc D)) = omega arith in
    rw (map_zeros (link b D (head_place [])) (head_link b D) 0 D, n) refl

-- The free cells

first_number_lem : (i n : ℕ) → first_number (numbers_from (suc i) n) ≡ cond (eqb (i + 1) (i + suc n)) 0 (i + 1)
unfolding numbers_from
first_number_lem i zero = rw (eq-eqb (i + 1) (i + 1) refl) refl
first_number_lem i (suc n) =
    let e : suc i ≡ i + 1 = omega arith in
    rw (ne_eqb (i + 1) (i + suc (suc n)) (λ q. omega arith)) e

next_free_lem : (i n x : ℕ) → i ≤ x → x < i + n → next_free x (numbers_from i n) ≡ cond (eqb (x + 1) (i + n)) 0 (x + 1)
unfolding next_free numbers_from
next_free_lem i zero x low high = omega arith
next_free_lem i (suc n) x low high = at_test (eqb i x) refl (λ above. next_free_lem (suc i) n x above (omega arith))
  where
    at_test :
        (t : Bool) → eqb i x ≡ t →
        (suc i ≤ x → next_free x (numbers_from (suc i) n) ≡ cond (eqb (x + 1) (suc i + n)) 0 (x + 1)) →
        cond t (first_number (numbers_from (suc i) n)) (next_free x (numbers_from (suc i) n)) ≡ cond (eqb (x + 1) (i + suc n)) 0 (x + 1)
    at_test true e later = rw (← eqb-true i x e) (first_number_lem i n)
    at_test false e later =
        let differ = eqb-false i x e in
        rw (add-suc i n, ← suc-add i n) (later (omega arith))

free_words_lem : (D C x : ℕ) → suc x < C → free_words D (next_free (suc x) (numbers_from 1 (C - 1))) ≡ fresh_cell D C (suc x)
unfolding free_words fresh_cell fresh_first fresh_mark
free_words_lem D C x h =
    let n : cell_words D - 1 ≡ suc (suc (cell_words D - 3)) = omega arith in
    let all : 1 + (C - 1) ≡ C = omega arith in
    rw (next_free_lem 1 (C - 1) (suc x) (omega arith) (omega arith), all, eqb-suc-zero x, n) refl

-- The cells

cell_words_lem : (b D C x : ℕ) → x < C → words_of b D (numbers_from 1 (C - 1)) x (place_of x (places b D [])) ≡ fresh_cell D C x
unfolding words_of place_of places places_after
cell_words_lem b D C zero h = head_words b D C
cell_words_lem b D C (suc x) h = rw (eqb-zero-suc x) (free_words_lem D C x h)

flat_map_same :
    (f g : ℕ → List ℕ) (i n : ℕ) → ((x : ℕ) → x < i + n → f x ≡ g x) → flat_map f (numbers_from i n) ≡ flat_map g (numbers_from i n)
unfolding flat_map numbers_from
flat_map_same f g i zero same = refl
flat_map_same f g i (suc n) same = rw (same i (omega arith), flat_map_same f g (suc i) n (λ x h. same x (omega arith))) refl

fresh_cells_lem : (D K C : ℕ) → cell_pictures (fresh D K C) ≡ fresh_cells D C C
unfolding cell_pictures fresh fresh_cells
fresh_cells_lem D K C = flat_map_same _ (fresh_cell D C) 0 C (λ x h. cell_words_lem (base_of D K) D C x (omega arith))

-- The list

fresh_path : (D K C : ℕ) → path (fresh D K C) ≡ zeros D
unfolding path fresh first_with
fresh_path D K C =
    map_zeros (path_word (fresh D K C)) (λ d. either_zero (ltb (shared (base_of D K) D 0 (position_key (fresh D K C))) (suc d))) 0 D

first_free : (n m : ℕ) → n ≡ suc m → first_number (numbers_from 1 n) ≡ 1
unfolding numbers_from
first_free n m e = rw e refl

pub fresh_picture : (D K C : ℕ) → 2 ≤ C → picture (fresh D K C) ≡ fresh_list (settings_of D K C)
unfolding picture fresh fresh_list
fresh_picture D K C h = rw (fresh_path D K C, fresh_cells_lem D K C, first_free (C - 1) (C - 2) (omega arith)) refl
