-- A list that is written from the front is what is written so far and what stood after it: each law takes one write to the next.
use mathlib.Core.Path.{◌≡◌, refl, sym, ap, ◌∙◌}
use mathlib.Core.List.{List, ◌∷◌, ◌++◌, append_assoc, append-nil, flat_map}
use Prim.Native.Nat.{ℕ, zero, suc, ◌+◌, ◌*◌, ◌-◌, ◌≤◌, ◌<◌}
use native.Mathlib.Nat.{add-zero, zero-add, add-suc, suc-add, zero-mul, suc-mul, mul-le-mul_right, add-sub_cancel_left}
use native.Mathlib.Numerals.{add-one}
use native.Mathlib.Omega.{arith}
use lib.ListN.{length, take, drop, set, length-append, length-drop, length-replicate, take-append-drop}
use lib.Seq.{drop-drop, drop-length, take_at, drop_at, length-take-le}
use borrow.Rule.Slice.PartMut.{mid_of, put_mid, mid_len}
use Rattle.settings.specs.Numbers.{header_words, cell_words, length_of}
use Rattle.settings.specs.declared.Settings.{Settings}
use Rattle.lists.specs.Lists.{numbers_from}
use Rattle.set_up.specs.Fresh.{zeros, fresh_first, fresh_mark, cell_of, fresh_cell, fresh_cells, fresh_header, fresh_list}

-- Zeros

length-zeros : (n : ℕ) → length (zeros n) ≡ n
length-zeros n = length-replicate n 0

-- A part

-- Where `done` ends at a, the words ys put in the place of those from a to e make `done ++ ys`.
pub written : (done ys l : List ℕ) (a e : ℕ) → length done ≡ a → a ≤ e → put_mid a (e - a) (done ++ drop a l) ys ≡ (done ++ ys) ++ drop e l
written done ys l a e h le =
    let k : a + (e - a) ≡ e = omega arith in
    rw (take_at done (drop a l) a h, drop_at done (drop a l) a h, drop-drop (e - a) a l, k) (sym (append_assoc done ys (drop e l)))

-- A cell

-- a part that is 0 up to its end, with two words set
pub cell_written :
    (first mark : ℕ) (l : List ℕ) {part : List ℕ} {i : ℕ} → 3 ≤ length l → i ≡ length l → part ≡ zeros i ++ drop i l →
    set (set part 0 first) 2 mark ≡ cell_of (length l) first mark
cell_written first mark l h e is =
    rw (is, e, drop-length l, append-nil (zeros (length l))) (three (length l) (length l - 3) (omega arith))
  where
    three : (n m : ℕ) → n ≡ suc (suc (suc m)) → set (set (zeros n) 0 first) 2 mark ≡ first ∷ 0 ∷ mark ∷ zeros m
    three n m e = rw e refl

length-fresh_cell : (D C x : ℕ) → length (fresh_cell D C x) ≡ cell_words D
unfolding fresh_cell
length-fresh_cell D C x = omega (arith, length-zeros (cell_words D - 3))

-- The cells

length-flat_map : (f : ℕ → List ℕ) (w : ℕ) → ((x : ℕ) → length (f x) ≡ w) → (i n : ℕ) → length (flat_map f (numbers_from i n)) ≡ n * w
unfolding flat_map numbers_from
length-flat_map f w each i zero = sym (zero-mul w)
length-flat_map f w each i (suc n) =
    omega (arith, length-append (f i) (flat_map f (numbers_from (suc i) n)), length-flat_map f w each (suc i) n, each i, suc-mul n w)

flat_map_more : (f : ℕ → List ℕ) (i n : ℕ) → flat_map f (numbers_from i (suc n)) ≡ flat_map f (numbers_from i n) ++ f (i + n)
unfolding flat_map numbers_from
flat_map_more f i zero = rw (add-zero i) (append-nil (f i))
flat_map_more f i (suc n) =
    rw (flat_map_more f (suc i) n, add-suc i n, suc-add i n) (sym (append_assoc (f i) (flat_map f (numbers_from (suc i) n)) (f (suc (i + n)))))

fresh_cells_more : (D C x : ℕ) → fresh_cells D C (x + 1) ≡ fresh_cells D C x ++ fresh_cell D C x
unfolding fresh_cells
fresh_cells_more D C x = rw (add-one x) (rw zero-add at (flat_map_more (fresh_cell D C) 0 x))

-- where cell x stands, and the one after it
abbrev pub cell_start : ℕ → ℕ → ℕ
cell_start D x = header_words + D + x * cell_words D

next_start : (D x : ℕ) → cell_start D x + cell_words D ≡ cell_start D (x + 1)
next_start D x = rw (add-one x) (omega (arith, suc-mul x (cell_words D)))

-- the words before the cells, and the first x cells
abbrev pub cells_done : List ℕ → ℕ → ℕ → ℕ → List ℕ
cells_done l D C x = take (header_words + D) l ++ fresh_cells D C x

pub cells_start : (l : List ℕ) (D C : ℕ) → l ≡ cells_done l D C 0 ++ drop (cell_start D 0) l
unfolding fresh_cells flat_map numbers_from
cells_start l D C = rw (zero-mul (cell_words D), add-zero (header_words + D), append-nil (take (header_words + D) l)) (sym (take-append-drop (header_words + D) l))

module _ (l : List ℕ) (D C : ℕ) (long : length l ≡ length_of D C) where
  length-cells_done : (x : ℕ) → length (cells_done l D C x) ≡ cell_start D x
  unfolding fresh_cells
  length-cells_done x =
      let h : header_words + D ≤ length l = omega arith in
      omega (
        arith,
        length-append (take (header_words + D) l) (fresh_cells D C x),
        length-take-le (header_words + D) l h,
        length-flat_map (fresh_cell D C) (cell_words D) (length-fresh_cell D C) 0 x,
      )

  -- the words of cell x, written as a cell after the cells before it
  pub cells_more :
      (x : ℕ) {words first mark : ℕ} {list ys : List ℕ} → x < C → words ≡ cell_words D → list ≡ cells_done l D C x ++ drop (cell_start D x) l →
      let a = header_words + D + x * words in
      ys ≡ cell_of (length (mid_of a (a + words - a) list)) first mark → first ≡ fresh_first C x → mark ≡ fresh_mark x →
      put_mid a (a + words - a) list ys ≡ cells_done l D C (x + 1) ++ drop (cell_start D (x + 1)) l
  unfolding fresh_cell
  cells_more x {list = list} {ys} h w so cell p q =
      let start = cell_start D x in
      let end = start + cell_words D in
      let inside : end ≤ length l = omega (arith, mul-le-mul_right (cell_words D) h, suc-mul x (cell_words D)) in
      let same : length list ≡ length l =
      omega (arith, ap length so, length-append (cells_done l D C x) (drop start l), length-cells_done x, length-drop start l) in
      let part : length (mid_of start (end - start) list) ≡ cell_words D = omega (arith, mid_len start end list (omega arith)) in
      let here = rw w at cell in
      let is : ys ≡ fresh_cell D C x = here ∙ rw (part, p, q) refl in
      rw (w, so, is, fresh_cells_more D C x, ← append_assoc (take (header_words + D) l) (fresh_cells D C x) (fresh_cell D C x), ← next_start D x)
      (written (cells_done l D C x) (fresh_cell D C x) l start end (length-cells_done x) (omega arith))

-- The list

-- the path written as zeros behind the header
path_written :
    (s : Settings) (D : ℕ) (l list zs : List ℕ) → header_words + D ≤ length l → list ≡ fresh_header s ++ drop header_words l →
    zs ≡ zeros (length (mid_of header_words (header_words + D - header_words) list)) →
    put_mid header_words (header_words + D - header_words) list zs ≡ (fresh_header s ++ zeros D) ++ drop (header_words + D) l
path_written s D l list zs long header path =
    let inside : header_words + D ≤ length list = omega (arith, ap length header, length-drop header_words l) in
    let n = mid_len header_words (header_words + D) list inside ∙ add-sub_cancel_left header_words D in
    let z : zs ≡ zeros D = path ∙ ap zeros n in
    rw (header, z) (written (fresh_header s) (zeros D) l header_words (header_words + D) refl (omega arith))

-- what the path's part and then the cells leave
pub list_written :
    (s : Settings) (l list zs : List ℕ) → length l ≡ length_of s.dimensions s.cells → list ≡ fresh_header s ++ drop header_words l →
    zs ≡ zeros (length (mid_of header_words (header_words + s.dimensions - header_words) list)) →
    cells_done (put_mid header_words (header_words + s.dimensions - header_words) list zs) s.dimensions s.cells s.cells ≡ fresh_list s
unfolding fresh_list
list_written s l list zs long header path =
    let e = header_words + s.dimensions in
    let front = fresh_header s ++ zeros s.dimensions in
    let n : length front ≡ e = omega (arith, length-zeros s.dimensions) in
    rw (path_written s s.dimensions l list zs (omega arith) header path, take_at front (drop e l) e n) refl
