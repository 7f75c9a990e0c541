-- Stores in words of the exact length. Each index is a header's, a path word's or a cell's, and words of different cells or fields
-- are apart, by division; so a store is read back where it was made and changes no other word.
use mathlib.Core.Path.{◌≡◌, refl, sym, ap, ◌∙◌, subst}
use mathlib.Core.Bool.{Bool, true, false, cond}
use mathlib.Core.List.{List, [], ◌∷◌}
use Prim.Native.Nat.{ℕ, zero, suc, ◌+◌, ◌*◌, ◌-◌, ◌/◌, ◌%◌, ◌≤◌, ◌<◌}
use native.Mathlib.Nat.{add-zero, suc-mul, mul-le-mul_right, mod-lt, div-add-mod', div-lt_iff_lt-mul}
use native.Mathlib.Decide.{ℕ_discrete, dec_lt}
use native.Mathlib.Omega.{arith}
use lib.Arith.{lt_of_le-ne}
use lib.Dec.{eqb}
use lib.ListN.{length, get_or, set, length-set}
use lib.Seq.{sets, length-sets, get_or-set_same, get_or-set_other, ext_get_or}
use borrow.Author.Tests.{eq-eqb, ne_eqb}
use Rattle.settings.specs.Numbers.{header_words, fields_before_links, cell_words, length_of}
use Rattle.meaning.specs.State.{State}
use Rattle.meaning.specs.Picture.{picture}
use Rattle.meaning.specs.Writes.{Finished}
use Rattle.meaning.specs.Words.{word_index, word_at, owed_at, low_at, high_at, link_at, dimensions_at, link_field}
use Rattle.meaning.specs.Layer.Stores.{store, move_links, clear_debt, finish_words, write_path}
use Rattle.meaning.proofs.Pictures.Picture.{picture_length}

-- The words 1: words of the exact length
pub record Exact (D C : ℕ) (ws : List ℕ) : Type 0 where
  pub size : length ws ≡ length_of D C

pub picture_exact : (s : State) → Exact s.settings.dimensions s.settings.cells (picture s)
picture_exact s = record { size = picture_length s }

-- word j of cell x in words of D dimensions
abbrev pub word_in : ℕ → List ℕ → ℕ → ℕ → ℕ
word_in D ws x j = get_or ws (word_index D x j) 0

-- Indexes

blocks_apart : (w x y j i : ℕ) → j < w → i < w → x * w + j ≡ y * w + i → x ≡ y
blocks_apart w x y j i hj hi e = at (dec_lt x y) (dec_lt y x)
  where
    at : Dec (x < y) → Dec (y < x) → x ≡ y
    at (yes h) more = absurd (omega (arith, mul-le-mul_right {m = suc x} {n = y} w h, suc-mul x w))
    at (no h) (yes more) = absurd (omega (arith, mul-le-mul_right {m = suc y} {n = x} w more, suc-mul y w))
    at (no h) (no more) = omega arith

-- one cell's word is word j of one cell
pub index_apart : (D x y j i : ℕ) → j < cell_words D → i < cell_words D → word_index D x j ≡ word_index D y i → (x ≡ y) × (j ≡ i)
index_apart D x y j i hj hi e =
    let same : x ≡ y = blocks_apart (cell_words D) x y j i hj hi (omega arith) in
    (same, (let blocks = ap (λ z. z * cell_words D) same in omega arith))

-- header and path are below every cell's word
pub index_above : (D x j i : ℕ) → i < header_words + D → i ≡ word_index D x j → ⊥
index_above D x j i h e = omega arith

pub index_inside : (D C x j : ℕ) → x < C → j < cell_words D → word_index D x j < length_of D C
index_inside D C x j h k = omega (arith, mul-le-mul_right {m = suc x} {n = C} (cell_words D) h, suc-mul x (cell_words D))

-- every index is the header's, a path word's or a cell's word
pub index_cases : (P : ℕ → Type 0) (D C : ℕ) → ((i : ℕ) → i < header_words → P i) → ((d : ℕ) → d < D → P (header_words + d)) →
    ((x j : ℕ) → x < C → j < cell_words D → P (word_index D x j)) → (i : ℕ) → i < length_of D C → P i
index_cases P D C header path cell i h = at (dec_lt i header_words) (dec_lt i (header_words + D))
  where
    at : Dec (i < header_words) → Dec (i < header_words + D) → P i
    at (yes l) more = header i l
    at (no l) (yes m) = let there : header_words + (i - header_words) ≡ i = omega arith in subst P there (path (i - header_words) (omega arith))
    at (no l) (no m) =
        let w = cell_words D in
        let from = i - (header_words + D) in
        let below : from < C * w = omega arith in
        let cellBelow : from / w < C = (div-lt_iff_lt-mul {k = w} {x = from} {y = C} (omega arith)).1 below in
        let there : word_index D (from / w) (from % w) ≡ i = omega (arith, div-add-mod' from w) in
        subst P there (cell (from / w) (from % w) cellBelow (mod-lt from {m = w} (omega arith)))

-- every word of a cell is one of the six before the links, or a link
pub field_cases : (P : ℕ → Type 0) (D : ℕ) → ((j : ℕ) → j < fields_before_links → P j) → ((d : ℕ) → d < D → P (link_field d)) → (j : ℕ) →
    j < cell_words D → P j
field_cases P D first link j h = at (dec_lt j fields_before_links)
  where
    at : Dec (j < fields_before_links) → P j
    at (yes l) = first j l
    at (no l) =
        let there : link_field (j - fields_before_links) ≡ j = omega arith in
        subst P there (link (j - fields_before_links) (omega arith))

-- words of the exact length that agree in each cell's word are the same
pub words_equal : {D C : ℕ} {us ws : List ℕ} → Exact D C us → Exact D C ws → ((i : ℕ) → i < header_words → get_or us i 0 ≡ get_or ws i 0) →
    ((d : ℕ) → d < D → get_or us (header_words + d) 0 ≡ get_or ws (header_words + d) 0) →
    ((x j : ℕ) → x < C → j < cell_words D → word_in D us x j ≡ word_in D ws x j) → us ≡ ws
words_equal {D} {C} {us} {ws} u w header path cell =
    ext_get_or 0 us ws (u.size ∙ sym w.size) (λ i h. index_cases (λ k. get_or us k 0 ≡ get_or ws k 0) D C header path cell i (omega arith))

-- One store

pub exact_set : {D C : ℕ} {ws : List ℕ} → Exact D C ws → (i v : ℕ) → Exact D C (set ws i v)
exact_set {ws = ws} e i v = record { size = length-set ws i v ∙ e.size }

pub exact_sets : {D C : ℕ} {ws : List ℕ} → Exact D C ws → (i : ℕ) (vs : List ℕ) → Exact D C (sets ws i vs)
exact_sets {ws = ws} e i vs = record { size = length-sets ws i vs ∙ e.size }

-- a store below every cell's word: in the header
pub header_set_same : {D C : ℕ} {ws : List ℕ} → Exact D C ws → (i v : ℕ) → i < header_words → get_or (set ws i v) i 0 ≡ v
header_set_same {ws = ws} e i v h = get_or-set_same ws i v 0 (omega arith)

pub header_set_path : (ws : List ℕ) (i v d : ℕ) → i < header_words → get_or (set ws i v) (header_words + d) 0 ≡ get_or ws (header_words + d) 0
header_set_path ws i v d h = get_or-set_other ws i (header_words + d) v 0 (λ e. omega arith)

pub header_set_word : (D : ℕ) (ws : List ℕ) (i v x j : ℕ) → i < header_words → word_in D (set ws i v) x j ≡ word_in D ws x j
header_set_word D ws i v x j h = get_or-set_other ws i (word_index D x j) v 0 (λ e. omega arith)

pub store_same : {D C : ℕ} {ws : List ℕ} → Exact D C ws → (x j v : ℕ) → x < C → j < cell_words D → word_in D (store D ws x j v) x j ≡ v
store_same {D} {C} {ws} e x j v h k = get_or-set_same ws (word_index D x j) v 0 (omega (arith, index_inside D C x j h k))

pub store_other : (D : ℕ) (ws : List ℕ) (x j v y i : ℕ) → j < cell_words D → i < cell_words D → (y ≡ x → i ≡ j → ⊥) →
    word_in D (store D ws x j v) y i ≡ word_in D ws y i
store_other D ws x j v y i h k apart = get_or-set_other ws (word_index D x j) (word_index D y i) v 0
    (λ e. let same = index_apart D y x i j k h e in apart same.0 same.1)

pub store_below : (D : ℕ) (ws : List ℕ) (x j v i : ℕ) → i < header_words + D → get_or (store D ws x j v) i 0 ≡ get_or ws i 0
store_below D ws x j v i h = get_or-set_other ws (word_index D x j) i v 0 (λ e. omega arith)

-- A run of stores

pub sets_before : (ws vs : List ℕ) (i k : ℕ) → k < i → get_or (sets ws i vs) k 0 ≡ get_or ws k 0
sets_before ws [] i k h = refl
sets_before ws (v ∷ vs) i k h = sets_before (set ws i v) vs (suc i) k (omega arith) ∙ get_or-set_other ws i k v 0 (λ e. omega arith)

pub sets_after : (ws vs : List ℕ) (i k : ℕ) → i + length vs ≤ k → get_or (sets ws i vs) k 0 ≡ get_or ws k 0
sets_after ws [] i k h = refl
sets_after ws (v ∷ vs) i k h = sets_after (set ws i v) vs (suc i) k (omega arith) ∙ get_or-set_other ws i k v 0 (λ e. omega arith)

pub sets_inside : (ws vs : List ℕ) (i k : ℕ) → k < length vs → i + length vs ≤ length ws → get_or (sets ws i vs) (i + k) 0 ≡ get_or vs k 0
sets_inside ws [] i k h l = absurd (omega arith)
sets_inside ws (v ∷ vs) i zero h l =
    ap (λ n. get_or (sets ws i (v ∷ vs)) n 0) (add-zero i)
    ∙ sets_before (set ws i v) vs (suc i) i (omega arith)
    ∙ get_or-set_same ws i v 0 (omega arith)
sets_inside ws (v ∷ vs) i (suc k) h l =
    let there : i + suc k ≡ suc i + k = omega arith in
    ap (λ n. get_or (sets ws i (v ∷ vs)) n 0) there
    ∙ sets_inside (set ws i v) vs (suc i) k (omega arith) (omega (arith, length-set ws i v))

-- some words of cell x from word a on
module _ {D C : ℕ} {ws : List ℕ} (exact : Exact D C ws) (x a : ℕ) (vs : List ℕ) (here : x < C) (fit : a + length vs ≤ cell_words D) where
  pub cell_sets_inside : (k : ℕ) → k < length vs → word_in D (sets ws (word_index D x a) vs) x (a + k) ≡ get_or vs k 0
  cell_sets_inside k h =
      let there : word_index D x (a + k) ≡ word_index D x a + k = omega arith in
      ap (λ n. get_or (sets ws (word_index D x a) vs) n 0) there
      ∙ sets_inside ws vs (word_index D x a) k h (omega (arith, mul-le-mul_right {m = suc x} {n = C} (cell_words D) here, suc-mul x (cell_words D)))

-- the other words of that cell
pub cell_sets_before : (D : ℕ) (ws : List ℕ) (x a : ℕ) (vs : List ℕ) (j : ℕ) → j < a → word_in D (sets ws (word_index D x a) vs) x j ≡ word_in D ws x j
cell_sets_before D ws x a vs j h = sets_before ws vs (word_index D x a) (word_index D x j) (omega arith)

pub cell_sets_after : (D : ℕ) (ws : List ℕ) (x a : ℕ) (vs : List ℕ) (j : ℕ) → a + length vs ≤ j → word_in D (sets ws (word_index D x a) vs) x j ≡ word_in D ws x j
cell_sets_after D ws x a vs j h = sets_after ws vs (word_index D x a) (word_index D x j) (omega arith)

-- the other cells
pub cell_sets_other : (D : ℕ) (ws : List ℕ) (x a : ℕ) (vs : List ℕ) → a + length vs ≤ cell_words D → (y j : ℕ) → j < cell_words D → (y ≡ x → ⊥) →
    word_in D (sets ws (word_index D x a) vs) y j ≡ word_in D ws y j
cell_sets_other D ws x a vs fit y j h ne = at (dec_lt y x)
  where
    at : Dec (y < x) → word_in D (sets ws (word_index D x a) vs) y j ≡ word_in D ws y j
    at (yes l) = sets_before ws vs (word_index D x a) (word_index D y j)
        (omega (arith, mul-le-mul_right {m = suc y} {n = x} (cell_words D) l, suc-mul y (cell_words D)))
    at (no l) =
        let more : suc x ≤ y = lt_of_le-ne (omega arith) (λ e. ne (sym e)) in
        sets_after ws vs (word_index D x a) (word_index D y j) (omega (arith, mul-le-mul_right {m = suc x} {n = y} (cell_words D) more, suc-mul x (cell_words D)))

pub cell_sets_below : (D : ℕ) (ws : List ℕ) (x a : ℕ) (vs : List ℕ) (i : ℕ) → i < header_words + D → get_or (sets ws (word_index D x a) vs) i 0 ≡ get_or ws i 0
cell_sets_below D ws x a vs i h = sets_before ws vs (word_index D x a) i (omega arith)

-- the path
pub path_sets_header : (ws path : List ℕ) (i : ℕ) → i < header_words → get_or (write_path ws path) i 0 ≡ get_or ws i 0
path_sets_header ws path i h = sets_before ws path header_words i h

pub path_sets_path : {D C : ℕ} {ws : List ℕ} → Exact D C ws → (path : List ℕ) → length path ≡ D → (d : ℕ) → d < D →
    get_or (write_path ws path) (header_words + d) 0 ≡ get_or path d 0
path_sets_path {ws = ws} exact path e d h = sets_inside ws path header_words d (omega arith) (omega arith)

pub path_sets_word : (D : ℕ) (ws path : List ℕ) → length path ≡ D → (x j : ℕ) → word_in D (write_path ws path) x j ≡ word_in D ws x j
path_sets_word D ws path e x j = sets_after ws path header_words (word_index D x j) (omega arith)

-- a path written where it stands changes nothing
pub path_sets_same : {D C : ℕ} {ws : List ℕ} → Exact D C ws → (path : List ℕ) → length path ≡ D →
    ((d : ℕ) → d < D → get_or ws (header_words + d) 0 ≡ get_or path d 0) → write_path ws path ≡ ws
path_sets_same {D} {C} {ws} exact path e stands =
    words_equal (exact_sets exact header_words path) exact (path_sets_header ws path)
    (λ d h. path_sets_path exact path e d h ∙ sym (stands d h))
    (λ x j h k. path_sets_word D ws path e x j)

-- Links moved

pub move_links-length : (D : ℕ) (ws : List ℕ) (n c d k : ℕ) → length (move_links D ws n c d k) ≡ length ws
unfolding move_links
move_links-length D ws n c d zero = refl
move_links-length D ws n c d (suc k) =
    let given = store D ws n (link_field d) (word_in D ws c (link_field d)) in
    move_links-length D (store D given c (link_field d) 0) n c (suc d) k
    ∙ length-set given (word_index D c (link_field d)) 0
    ∙ length-set ws (word_index D n (link_field d)) (word_in D ws c (link_field d))

pub exact_moved : {D C : ℕ} {ws : List ℕ} → Exact D C ws → (n c d k : ℕ) → Exact D C (move_links D ws n c d k)
exact_moved {D} {C} {ws} e n c d k = record { size = move_links-length D ws n c d k ∙ e.size }

-- a word that is none of the links in question
pub move_links-kept : (D : ℕ) (ws : List ℕ) (n c d k i : ℕ) →
    ((m : ℕ) → d ≤ m → m < d + k → (i ≡ word_index D n (link_field m) → ⊥) × (i ≡ word_index D c (link_field m) → ⊥)) →
    get_or (move_links D ws n c d k) i 0 ≡ get_or ws i 0
unfolding move_links
move_links-kept D ws n c d zero i apart = refl
move_links-kept D ws n c d (suc k) i apart =
    let value = word_in D ws c (link_field d) in
    let given = store D ws n (link_field d) value in
    let first = apart d (omega arith) (omega arith) in
    move_links-kept D (store D given c (link_field d) 0) n c (suc d) k i (λ m h l. apart m (omega arith) (omega arith))
    ∙ get_or-set_other given (word_index D c (link_field d)) i 0 0 first.1
    ∙ get_or-set_other ws (word_index D n (link_field d)) i value 0 first.0

pub move_links-below : (D : ℕ) (ws : List ℕ) (n c d k i : ℕ) → i < header_words + D → get_or (move_links D ws n c d k) i 0 ≡ get_or ws i 0
move_links-below D ws n c d k i h =
    move_links-kept D ws n c d k i (λ m l u. (index_above D n (link_field m) i h, index_above D c (link_field m) i h))

-- a field that is none of the links in question
pub move_links-field : (D : ℕ) (ws : List ℕ) (n c d k : ℕ) → d + k ≤ D → (x j : ℕ) → j < cell_words D →
    ((m : ℕ) → d ≤ m → m < d + k → j ≡ link_field m → ⊥) → word_in D (move_links D ws n c d k) x j ≡ word_in D ws x j
move_links-field D ws n c d k fit x j h other =
    move_links-kept D ws n c d k (word_index D x j)
    (λ m l u. (
      λ e. other m l u (index_apart D x n j (link_field m) h (omega arith) e).1,
      λ e. other m l u
          (index_apart D x c j (link_field m) h (omega arith) e).1,
    ))

-- the words after one link has moved
abbrev moved_link : ℕ → List ℕ → ℕ → ℕ → ℕ → List ℕ
moved_link D ws n c d = store D (store D ws n (link_field d) (word_in D ws c (link_field d))) c (link_field d) 0

exact_link : {D C : ℕ} {ws : List ℕ} → Exact D C ws → (n c d : ℕ) → Exact D C (moved_link D ws n c d)
exact_link {D} {C} {ws} exact n c d = exact_set (exact_set exact (word_index D n (link_field d)) (word_in D ws c (link_field d)))
    (word_index D c (link_field d)) 0

-- the other links of all cells
link_other : (D : ℕ) (ws : List ℕ) (n c d x i : ℕ) → d < D → i < D → (d ≡ i → ⊥) →
    word_in D (moved_link D ws n c d) x (link_field i) ≡ word_in D ws x (link_field i)
link_other D ws n c d x i h k ne =
    let value = word_in D ws c (link_field d) in
    store_other D (store D ws n (link_field d) value) c (link_field d) 0 x (link_field i) (omega arith) (omega arith) (λ e q. ne (omega arith))
    ∙ store_other D ws n (link_field d) value x (link_field i) (omega arith) (omega arith) (λ e q. ne (omega arith))

-- links of lower number are not among those that move
lower_kept : (D : ℕ) (ws : List ℕ) (n c d k x : ℕ) → suc d + k ≤ D → word_in D (move_links D ws n c (suc d) k) x (link_field d) ≡ word_in D ws x (link_field d)
lower_kept D ws n c d k x fit = move_links-field D ws n c (suc d) k fit x (link_field d) (omega arith) (λ m l u e. omega arith)

-- the links that move are the new cell's
pub move_links-given : {D C : ℕ} {ws : List ℕ} → Exact D C ws → (n c d k : ℕ) → n < C → (n ≡ c → ⊥) → d + k ≤ D → (i : ℕ) → d ≤ i → i < d + k →
    word_in D (move_links D ws n c d k) n (link_field i) ≡ word_in D ws c (link_field i)
unfolding move_links
move_links-given exact n c d zero here apart fit i h l = absurd (omega arith)
move_links-given {D} {C} {ws} exact n c d (suc k) here apart fit i h l =
    at (ℕ_discrete d i) (move_links-given {ws = moved_link D ws n c d} (exact_link exact n c d) n c (suc d) k here apart (omega arith) i)
  where
    moved : List ℕ
    moved = moved_link D ws n c d

    at : Dec (d ≡ i) →
        (suc d ≤ i → i < suc d + k → word_in D (move_links D moved n c (suc d) k) n (link_field i) ≡ word_in D moved c (link_field i)) →
        word_in D (move_links D moved n c (suc d) k) n (link_field i) ≡ word_in D ws c (link_field i)
    at (yes e) more =
        let value = word_in D ws c (link_field d) in
        subst (λ m. word_in D (move_links D moved n c (suc d) k) n (link_field m) ≡ word_in D ws c (link_field m)) e
        (lower_kept D moved n c d k n (omega arith)
        ∙ store_other D (store D ws n (link_field d) value) c (link_field d) 0 n (link_field d) (omega arith) (omega arith) (λ q f. apart q)
        ∙ store_same exact n (link_field d) value here (omega arith))
    at (no ne) more = more (lt_of_le-ne h ne) (omega arith) ∙ link_other D ws n c d c i (omega arith) (omega arith) ne

-- .. and 0 stands in their place
pub move_links-cleared : {D C : ℕ} {ws : List ℕ} → Exact D C ws → (n c d k : ℕ) → c < C → d + k ≤ D → (i : ℕ) → d ≤ i → i < d + k →
    word_in D (move_links D ws n c d k) c (link_field i) ≡ 0
unfolding move_links
move_links-cleared exact n c d zero here fit i h l = absurd (omega arith)
move_links-cleared {D} {C} {ws} exact n c d (suc k) here fit i h l =
    at (ℕ_discrete d i) (move_links-cleared {ws = moved_link D ws n c d} (exact_link exact n c d) n c (suc d) k here (omega arith) i)
  where
    moved : List ℕ
    moved = moved_link D ws n c d

    at : Dec (d ≡ i) → (suc d ≤ i → i < suc d + k → word_in D (move_links D moved n c (suc d) k) c (link_field i) ≡ 0) →
        word_in D (move_links D moved n c (suc d) k) c (link_field i) ≡ 0
    at (yes e) more =
        let value = word_in D ws c (link_field d) in
        subst (λ m. word_in D (move_links D moved n c (suc d) k) c (link_field m) ≡ 0) e
        (lower_kept D moved n c d k c (omega arith)
        ∙ store_same (exact_set exact (word_index D n (link_field d)) value) c (link_field d) 0 here (omega arith))
    at (no ne) more = more (lt_of_le-ne h ne) (omega arith)

-- What a cell owes, finished

pub finish_words-none : (D : ℕ) (ws : List ℕ) (n : ℕ) → owed_at ws n ≡ 0 → finish_words D ws n ≡ ws
unfolding finish_words
finish_words-none D ws n e = rw (eq-eqb (owed_at ws n) 0 e) refl

-- the words after the links have moved, and the debt is cleared
abbrev pub settled_words : ℕ → List ℕ → ℕ → List ℕ
settled_words D ws n = clear_debt D (move_links D ws n (owed_at ws n) (low_at ws n) (high_at ws n - low_at ws n)) n

pub finish_words-some : (D : ℕ) (ws : List ℕ) (n : ℕ) → 0 < owed_at ws n → finish_words D ws n ≡ settled_words D ws n
unfolding finish_words
finish_words-some D ws n h = rw (ne_eqb (owed_at ws n) 0 (λ e. omega arith)) refl

pub exact_finished : {D C : ℕ} {ws : List ℕ} → Exact D C ws → (n : ℕ) → Exact D C (finish_words D ws n)
unfolding finish_words
exact_finished {D} {C} {ws} exact n = at (eqb (owed_at ws n) 0)
  where
    at : (t : Bool) → Exact D C (cond t ws (settled_words D ws n))
    at true = exact
    at false = exact_sets (exact_moved exact n (owed_at ws n) (low_at ws n) (high_at ws n - low_at ws n)) (word_index D n 3) (0 ∷ 0 ∷ 0 ∷ [])

pub finish_words-below : (D : ℕ) (ws : List ℕ) (n i : ℕ) → i < header_words + D → get_or (finish_words D ws n) i 0 ≡ get_or ws i 0
unfolding finish_words
finish_words-below D ws n i h = at (eqb (owed_at ws n) 0)
  where
    at : (t : Bool) → get_or (cond t ws (settled_words D ws n)) i 0 ≡ get_or ws i 0
    at true = refl
    at false =
        cell_sets_below D (move_links D ws n (owed_at ws n) (low_at ws n) (high_at ws n - low_at ws n)) n 3 (0 ∷ 0 ∷ 0 ∷ []) i h
        ∙ move_links-below D ws n (owed_at ws n) (low_at ws n) (high_at ws n - low_at ws n) i h

zeros_at : (k : ℕ) → get_or {A = ℕ} (0 ∷ 0 ∷ 0 ∷ []) k 0 ≡ 0
zeros_at zero = refl
zeros_at (suc zero) = refl
zeros_at (suc (suc zero)) = refl
zeros_at (suc (suc (suc k))) = refl

-- cell n owes something that can be finished
pub record OwingWithin (D C : ℕ) (ws : List ℕ) (n : ℕ) : Type 0 where
  pub cell : n < C
  pub owes : 0 < owed_at ws n
  pub owed : owed_at ws n < C
  pub apart : n ≡ owed_at ws n → ⊥
  pub low : low_at ws n ≤ high_at ws n
  pub high : high_at ws n ≤ D

module _ {D C : ℕ} {ws : List ℕ} (exact : Exact D C ws) (n : ℕ) (debt : OwingWithin D C ws n) where
  abbrev moved : List ℕ
  moved = move_links D ws n (owed_at ws n) (low_at ws n) (high_at ws n - low_at ws n)

  fits : low_at ws n + (high_at ws n - low_at ws n) ≤ D
  fits = omega arith

  finished_as : (i v : ℕ) → get_or (clear_debt D moved n) i 0 ≡ v → get_or (finish_words D ws n) i 0 ≡ v
  finished_as i v e = ap (λ us. get_or us i 0) (finish_words-some D ws n debt.owes) ∙ e

  -- .. and the three words are 0
  pub finish_words-debt : (k : ℕ) → k < 3 → word_in D (finish_words D ws n) n (3 + k) ≡ 0
  finish_words-debt k h =
      finished_as (word_index D n (3 + k)) 0
      (cell_sets_inside (exact_moved exact n (owed_at ws n) (low_at ws n) (high_at ws n - low_at ws n)) n 3 (0 ∷ 0 ∷ 0 ∷ []) debt.cell (omega arith)
      k h ∙ zeros_at k)

  -- links low to high-1 of n are those that stood in the owed cell
  pub finish_words-given : (i : ℕ) → low_at ws n ≤ i → i < high_at ws n →
      word_in D (finish_words D ws n) n (link_field i) ≡ word_in D ws (owed_at ws n) (link_field i)
  finish_words-given i h l =
      finished_as (word_index D n (link_field i)) (word_in D ws (owed_at ws n) (link_field i))
      (cell_sets_after D moved n 3 (0 ∷ 0 ∷ 0 ∷ []) (link_field i) (omega arith)
      ∙ move_links-given exact n (owed_at ws n) (low_at ws n) (high_at ws n - low_at ws n) debt.cell debt.apart fits i h (omega arith))

  -- and those of the owed cell are 0
  pub finish_words-cleared : (i : ℕ) → low_at ws n ≤ i → i < high_at ws n → word_in D (finish_words D ws n) (owed_at ws n) (link_field i) ≡ 0
  finish_words-cleared i h l =
      finished_as (word_index D (owed_at ws n) (link_field i)) 0
      (cell_sets_other D moved n 3 (0 ∷ 0 ∷ 0 ∷ []) (omega arith) (owed_at ws n) (link_field i) (omega arith) (λ e. debt.apart (sym e))
      ∙ move_links-cleared exact n (owed_at ws n) (low_at ws n) (high_at ws n - low_at ws n) debt.owed fits i h (omega arith))

  -- every other word
  pub finish_words-other : (x j : ℕ) → j < cell_words D → (x ≡ n → 3 ≤ j → j < fields_before_links → ⊥) →
      ((i : ℕ) → low_at ws n ≤ i → i < high_at ws n → j ≡ link_field i → (x ≡ n → ⊥) × (x ≡ owed_at ws n → ⊥)) →
      word_in D (finish_words D ws n) x j ≡ word_in D ws x j
  finish_words-other x j h not-debt not-link = finished_as (word_index D x j) (word_in D ws x j) (uncleared (ℕ_discrete x n) (dec_lt j 3) ∙ unmoved)
    where
      at_least : x ≡ n → 3 ≤ j → Dec (j < fields_before_links) → fields_before_links ≤ j
      at_least e l (yes u) = absurd (not-debt e l u)
      at_least e l (no u) = omega arith

      uncleared : Dec (x ≡ n) → Dec (j < 3) → word_in D (clear_debt D moved n) x j ≡ word_in D moved x j
      uncleared (yes e) (yes l) = subst (λ y. word_in D (clear_debt D moved n) y j ≡ word_in D moved y j) (sym e)
          (cell_sets_before D moved n 3 (0 ∷ 0 ∷ 0 ∷ []) j l)
      uncleared (yes e) (no l) =
          subst (λ y. word_in D (clear_debt D moved n) y j ≡ word_in D moved y j) (sym e)
          (cell_sets_after D moved n 3 (0 ∷ 0 ∷ 0 ∷ []) j (at_least e (omega arith) (dec_lt j fields_before_links)))
      uncleared (no ne) more = cell_sets_other D moved n 3 (0 ∷ 0 ∷ 0 ∷ []) (omega arith) x j h ne

      unmoved : word_in D moved x j ≡ word_in D ws x j
      unmoved =
          move_links-kept D ws n (owed_at ws n) (low_at ws n) (high_at ws n - low_at ws n) (word_index D x j)
          (λ i l u. (
            λ e. let same = index_apart D x n j (link_field i) h (omega (arith, fits)) e in (not-link i l (omega arith) same.1).0 same.0,
            λ e. let same = index_apart D x (owed_at ws n) j (link_field i) h (omega (arith, fits)) e in (not-link i l (omega arith) same.1).1 same.0,
          ))

  -- every word of a cell that is neither of the two
  pub finish_words-cell : (x j : ℕ) → j < cell_words D → (x ≡ n → ⊥) → (x ≡ owed_at ws n → ⊥) → word_in D (finish_words D ws n) x j ≡ word_in D ws x j
  finish_words-cell x j h not-n not_c = finish_words-other x j h (λ e l u. not-n e) (λ i l u e. (not-n, not_c))

  -- every word of the owed cell, and of any but n, that is none of those links
  pub finish_words-field : (x j : ℕ) → j < cell_words D → (x ≡ n → ⊥) → ((i : ℕ) → low_at ws n ≤ i → i < high_at ws n → j ≡ link_field i → ⊥) →
      word_in D (finish_words D ws n) x j ≡ word_in D ws x j
  finish_words-field x j h not-n other = finish_words-other x j h (λ e l u. not-n e) (λ i l u e. absurd (other i l u e))

  -- key, value and mark of n
  pub finish_words-before : (j : ℕ) → j < 3 → word_in D (finish_words D ws n) n j ≡ word_in D ws n j
  finish_words-before j h = finish_words-other n j (omega arith) (λ e l u. omega arith) (λ i l u e. absurd (omega arith))

  -- coordinates of n, and its other links
  pub finish_words-after : (j : ℕ) → fields_before_links ≤ j → j < cell_words D → ((i : ℕ) → low_at ws n ≤ i → i < high_at ws n → j ≡ link_field i → ⊥) →
      word_in D (finish_words D ws n) n j ≡ word_in D ws n j
  finish_words-after j l h other = finish_words-other n j h (λ e m u. omega arith) (λ i m u e. absurd (other i m u e))

-- a word read by the dimensions that the words say
pub word_at_in : (D : ℕ) (ws : List ℕ) → dimensions_at ws ≡ D → (x j : ℕ) → word_at ws x j ≡ word_in D ws x j
word_at_in D ws e x j = ap (λ m. word_in m ws x j) e

pub link_at_in : (D : ℕ) (ws : List ℕ) → dimensions_at ws ≡ D → (x d : ℕ) → link_at ws x d ≡ word_in D ws x (link_field d)
link_at_in D ws e x d = ap (λ m. word_in m ws x (link_field d)) e

pub finish_words-finished : {D C : ℕ} {ws : List ℕ} → Exact D C ws → dimensions_at ws ≡ D → (n : ℕ) → OwingWithin D C ws n → Finished ws (finish_words D ws n) n
finish_words-finished {D} {C} {ws} exact dimensions n debt =
    let us = finish_words D ws n in
    let same : dimensions_at us ≡ D = finish_words-below D ws n 0 (omega arith) ∙ dimensions in
    record {
      given = λ d l h. link_at_in D us same n d ∙ finish_words-given exact n debt d l h ∙ sym (link_at_in D ws dimensions (owed_at ws n) d);
      cleared = λ d l h. link_at_in D us same (owed_at ws n) d ∙ finish_words-cleared exact n debt d l h;
      owed = word_at_in D us same n 3 ∙ finish_words-debt exact n debt 0 (omega arith);
      low = word_at_in D us same n 4 ∙ finish_words-debt exact n debt 1 (omega arith);
      high = word_at_in D us same n 5 ∙ finish_words-debt exact n debt 2 (omega arith);
      below = λ i h. finish_words-below D ws n i (omega arith);
      other = λ x j h not-debt not-link.
          word_at_in D us same x j
          ∙ finish_words-other exact n debt x j (omega arith) not-debt (λ d l u e. not-link d l u (omega arith))
          ∙ sym (word_at_in D ws dimensions x j);
    }
