-- What the shape of a list's words gives: the words of a cell lie inside, the settings are the first words, and a word behind those may
-- be written without losing the shape. Then what a step is in the code's terms, by keys and blocks.
use mathlib.Core.Path.{◌≡◌, refl, sym, ap, ◌∙◌}
use mathlib.Core.List.{List, [], ◌∷◌, append_assoc}
use Prim.Native.Nat.{ℕ, suc, ◌+◌, ◌-◌, ◌≤◌, ◌<◌}
use native.Mathlib.Nat.{suc-mul, mul-le-mul_right}
use native.Mathlib.Omega.{arith}
use lib.ListN.{length, get_or, take, drop, set, length-set}
use lib.Seq.{drop-drop, get_or-set_other, sets, sets-eq}
use borrow.Rule.Slice.PartMut.{mid_of, put_mid}
use Rattle.settings.specs.Numbers.{fields_before_links, cell_words, length_of, most_dimensions, most_cells, header_words}
use Rattle.settings.specs.declared.Settings.{Settings}
use Rattle.settings.proofs.Numbers.{cells_fit}
use Rattle.meaning.specs.Words.{word_index, word_at, dimensions_at, largest_at, cells_at, base_at, position_at}
use Rattle.meaning.specs.Layer.Stores.{store}
use Rattle.words.specs.Shaped.{Shaped, Within}

-- The settings are words 0 to 3

pub shaped_dimensions : {ws : List ℕ} {s : Settings} → Shaped ws s → dimensions_at ws ≡ s.dimensions
shaped_dimensions h = ap (λ (t : Settings). t.dimensions) h.header

pub shaped_largest : {ws : List ℕ} {s : Settings} → Shaped ws s → largest_at ws ≡ s.largest
shaped_largest h = ap (λ (t : Settings). t.largest) h.header

pub shaped_cells : {ws : List ℕ} {s : Settings} → Shaped ws s → cells_at ws ≡ s.cells
shaped_cells h = ap (λ (t : Settings). t.cells) h.header

pub shaped_base : {ws : List ℕ} {s : Settings} → Shaped ws s → base_at ws ≡ s.base
shaped_base h = ap (λ (t : Settings). t.base) h.header

-- Places

-- the words of cell x end where the list does, or before
cell_inside : (D C x : ℕ) → x < C → word_index D x (cell_words D) ≤ length_of D C
cell_inside D C x h = omega (arith, mul-le-mul_right (cell_words D) h, suc-mul x (cell_words D))

-- no list has more words than the one with the most dimensions and the most cells
pub index_small :
    {s : Settings} {x j : ℕ} → s.dimensions ≤ most_dimensions → s.cells ≤ most_cells → Within s x j →
    word_index s.dimensions x j < length_of most_dimensions most_cells
index_small {s} {x} hd hc w = omega (arith, cells_fit hd hc, cell_inside s.dimensions s.cells x w.cell, w.field)

pub index_inside : {ws : List ℕ} {s : Settings} {x j : ℕ} → Shaped ws s → Within s x j → word_index s.dimensions x j < length ws
index_inside {s = s} {x = x} h w = omega (arith, h.long, cell_inside s.dimensions s.cells x w.cell, w.field)

-- n words of a cell from word j on lie inside the list
pub part_inside :
    {ws : List ℕ} {s : Settings} → Shaped ws s → {x : ℕ} → x < s.cells → (j n : ℕ) → j + n ≤ cell_words s.dimensions →
    word_index s.dimensions x j + n ≤ length ws
part_inside {s = s} h {x} hx j n hn = omega (arith, h.long, cell_inside s.dimensions s.cells x hx)

-- The shape is kept

-- the settings stay where word 4 or a later one is written
pub set_shaped : {ws : List ℕ} {s : Settings} → Shaped ws s → (i v : ℕ) → 4 ≤ i → Shaped (set ws i v) s
set_shaped {ws} {s} h i v hi =
    let k : (n : ℕ) → n < 4 → get_or (set ws i v) n 0 ≡ get_or ws n 0 = λ n hn. get_or-set_other ws i n v 0 (λ e. omega arith) in
    record {
      header = rw (k 0 (omega arith), k 1 (omega arith), k 2 (omega arith), k 3 (omega arith)) h.header;
      long = length-set ws i v ∙ h.long;
      dimensions_least = h.dimensions_least;
      dimensions_most = h.dimensions_most;
      cells_most = h.cells_most;
    }

pub sets_shaped : {ws : List ℕ} {s : Settings} → Shaped ws s → (i : ℕ) (vs : List ℕ) → 4 ≤ i → Shaped (sets ws i vs) s
sets_shaped h i [] hi = h
sets_shaped h i (v ∷ vs) hi = sets_shaped (set_shaped h i v hi) (suc i) vs (omega arith)

pub store_shaped : {ws : List ℕ} {s : Settings} → Shaped ws s → (x j v : ℕ) → Shaped (store s.dimensions ws x j v) s
store_shaped {s = s} h x j v = set_shaped h (word_index s.dimensions x j) v (omega arith)

pub stores_shaped : {ws : List ℕ} {s : Settings} → Shaped ws s → (x j : ℕ) (vs : List ℕ) → Shaped (sets ws (word_index s.dimensions x j) vs) s
stores_shaped {s = s} h x j vs = sets_shaped h (word_index s.dimensions x j) vs (omega arith)

-- Words

pub word_is : {ws : List ℕ} {s : Settings} → Shaped ws s → (x j : ℕ) {i : ℕ} → i ≡ word_index s.dimensions x j → get_or ws i 0 ≡ word_at ws x j
word_is h x j e = rw (shaped_dimensions h, e) refl

pub position_is : {ws : List ℕ} {s : Settings} → Shaped ws s → get_or ws (header_words + s.dimensions - 1) 0 ≡ position_at ws
position_is h = rw (shaped_dimensions h) refl

pub field_within : {s : Settings} {x j : ℕ} → x < s.cells → j < fields_before_links → Within s x j
field_within hx hj = record { cell = hx; field = omega arith }

-- Parts

-- n words of cell x from word j on, lent as the part from `start` to `end`
pub part_words :
    (ws : List ℕ) (D x j n : ℕ) {start end : ℕ} → start ≡ word_index D x j → end ≡ start + n →
    mid_of start (end - start) ws ≡ take n (drop (word_index D x j) ws)
part_words ws D x j n {start} {end} p q =
    let k : end - start ≡ n = omega arith in
    rw (k, p) refl

-- the list with the part's words as they are after
pub part_written :
    (ws ys : List ℕ) (D x j n : ℕ) {start end : ℕ} → start ≡ word_index D x j → end ≡ start + n → end ≤ length ws → length ys ≡ n →
    put_mid start (end - start) ws ys ≡ sets ws (word_index D x j) ys
part_written ws ys D x j n {start} {end} p q h long =
    let k : start + (end - start) ≡ start + length ys = omega arith in
    rw (← p, drop-drop (end - start) start ws, k)
    (sym (sets-eq ys ws start (omega arith) ∙ append_assoc (take start ws) ys (drop (start + length ys) ws)))
