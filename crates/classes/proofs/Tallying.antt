-- From the last cell to the first: the record so far is that of the row of the cells from x on.
use mathlib.Core.Path.{◌≡◌, refl, sym, ap, ◌∙◌}
use mathlib.Core.Bool.{Bool, true, false, cond}
use mathlib.Core.List.{List}
use Prim.Native.Nat.{ℕ, zero, suc, ◌-◌, ◌≤◌, ◌<◌}
use native.Mathlib.Omega.{arith}
use lib.Dec.{eqb}
use lib.ListN.{length, get_or, replicate, length-map}
use Rattle.settings.specs.declared.Settings.{Settings}
use Rattle.lists.specs.Lists.{those}
use Rattle.lists.proofs.Those.{those_most}
use Rattle.meaning.specs.Row.{Node, put}
use Rattle.meaning.specs.Words.{mark_at}
use Rattle.meaning.specs.Layer.Listed.{Listed}
use Rattle.meaning.proofs.Cells.Folded.{row_from, no_cells, row_from_lem, put_folded, row_folded, live_folded}
use Rattle.words.proofs.Listed.{listed_shaped, listed_cells}
use Rattle.classes.specs.Classes.{class_of, number_of_classes, record_words, live_keys_in, classes_in, classes_of, count_at}
use Rattle.classes.specs.Tallying.{with_key, with_cell, Roomy}
use Rattle.classes.proofs.Classes.{classes_length, count_word, no_keys, one_node}

-- No count is above the number of cells

put_length : (x : Node) (row : List Node) → length (put x row) ≡ suc (length row)
put_length = put_folded length (λ x n. suc n) (λ x row. refl) (λ x y n. refl)

row_most : (ws : List ℕ) (x n : ℕ) → length (row_from ws x n) ≤ n
row_most ws x zero = rw (no_cells ws x) (omega arith)
row_most ws x (suc n) =
    rw (row_folded length (λ y m. suc m) put_length ws x n) (at (eqb (mark_at ws x) 0) (row_most ws (suc x) n))
  where
    at : (t : Bool) → length (row_from ws (suc x) n) ≤ n → cond t (length (row_from ws (suc x) n)) (suc (length (row_from ws (suc x) n))) ≤ suc n
    at true h = omega arith
    at false h = omega arith

count_most : (row : List Node) (class : ℕ) → class < number_of_classes → get_or (classes_in (live_keys_in row)) (count_at class) 0 ≤ length row
count_most row class h =
    omega (
      arith,
      count_word (live_keys_in row) class h,
      those_most (λ key. eqb (class_of key) class) (live_keys_in row),
      length-map (those (λ x. x.live) row) (λ x. x.key),
      those_most (λ x. x.live) row,
    )

-- The pass

pub record Tallied (ws : List ℕ) (s : Settings) (classes : List ℕ) (x : ℕ) : Type 0 where
  pub least : 1 ≤ x
  pub most : x ≤ s.cells
  pub is : classes ≡ classes_in (live_keys_in (row_from ws x (s.cells - x)))

pub tallied_start : {ws classes : List ℕ} {s : Settings} → Listed ws s → classes ≡ replicate record_words 0 → Tallied ws s classes s.cells
unfolding those
tallied_start {ws} {s = s} listed zeros =
    let none : s.cells - s.cells ≡ 0 = omega arith in
    record {
      least = omega (arith, listed_cells listed);
      most = omega arith;
      is = zeros ∙ sym no_keys ∙ rw (none, no_cells ws s.cells) refl;
    }

pub tallied_length : {ws classes : List ℕ} {s : Settings} {x : ℕ} → Tallied ws s classes x → length classes ≡ record_words
tallied_length {ws} {s = s} {x} t = ap length t.is ∙ classes_length (live_keys_in (row_from ws x (s.cells - x)))

pub tallied_roomy : {ws classes : List ℕ} {s : Settings} {x : ℕ} → Listed ws s → Tallied ws s classes x → Roomy classes
tallied_roomy {ws} {s = s} {x} listed t =
    let row = row_from ws x (s.cells - x) in
    record {
      long = tallied_length t;
      room = λ class h.
          rw t.is (omega (arith, count_most row class h, row_most ws x (s.cells - x), (listed_shaped listed).cells_most));
    }

pub tallied_more : {ws classes : List ℕ} {s : Settings} {x : ℕ} → Tallied ws s classes x → 1 < x → Tallied ws s (with_cell ws (x - 1) classes) (x - 1)
tallied_more {ws} {classes} {s} {x} t h =
    let most = t.most in
    let n = s.cells - x in
    let cells : s.cells - (x - 1) ≡ suc n = omega arith in
    let next : suc (x - 1) ≡ x = omega arith in
    record {
      least = omega arith;
      most = omega arith;
      is =
          ap (with_cell ws (x - 1)) (t.is ∙ ap (λ y. told (row_from ws y n)) (sym next))
          ∙ sym (one_cell (x - 1) n)
          ∙ ap (λ m. told (row_from ws (x - 1) m)) (sym cells);
    }
  where
    told : List Node → List ℕ
    told row = classes_in (live_keys_in row)

    one_cell : (y n : ℕ) → told (row_from ws y (suc n)) ≡ with_cell ws y (told (row_from ws (suc y) n))
    one_cell y n = live_folded told (λ z a. with_key z.key a) one_node ws y n

pub tallied_all : {ws classes : List ℕ} {s : Settings} {x : ℕ} → Listed ws s → Tallied ws s classes x → x ≤ 1 → classes ≡ classes_of ws
tallied_all {ws} {classes} {s} {x} listed t h =
    let least = t.least in
    let one : x ≡ 1 = omega arith in
    t.is
    ∙ rw one refl
    ∙ ap (λ (u : Settings). classes_in (live_keys_in (row_from ws 1 (u.cells - 1)))) (sym listed.settings)
    ∙ ap (λ row. classes_in (live_keys_in row)) (sym (row_from_lem ws))
