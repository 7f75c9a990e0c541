-- What a test says of several numbers and of several words, for the loops; then a free cell as the code tests it.
use mathlib.Core.Path.{◌≡◌, refl, sym, ap, ◌∙◌}
use mathlib.Core.Bool.{Bool, true, false, not, false≢true}
use mathlib.Core.List.{List}
use Prim.Native.Nat.{ℕ, zero, suc, ◌+◌, ◌-◌, ◌≤◌, ◌<◌}
use native.Mathlib.Numerals.{add-one}
use native.Mathlib.Omega.{arith}
use lib.Dec.{eqb}
use lib.ListN.{length, get_or, take, drop}
use lib.Seq.{drop-cons}
use borrow.Author.Tests.{not-true, not-false, lt-ltb, le-ltb}
use borrow.Rule.Slice.PartMut.{mid_of}
use Rattle.settings.specs.Numbers.{cell_words}
use Rattle.settings.specs.declared.Settings.{Settings}
use Rattle.lists.specs.Zeros.{all_zero}
use Rattle.meaning.specs.Words.{word_index, word_at, dimensions_at, cells_at}
use Rattle.words.specs.Shaped.{Shaped}
use Rattle.words.proofs.Shaped.{shaped_dimensions, shaped_cells, part_inside, part_words}
use Rattle.account.specs.Tree.{all_from, free_right}

-- Tests

pub refuted : (t : Bool) → (t ≡ true → ⊥) → t ≡ false
refuted true never = absurd (never refl)
refuted false never = refl

-- what a callee found to hold does
pub holds : {t u : Bool} → u ≡ t → not u ≡ false → t ≡ true
holds {t} {u} e f = sym e ∙ not-false u f

-- what a callee found to fail does not hold
pub lacks : {t u : Bool} → u ≡ t → not u ≡ true → t ≡ false
lacks {t} {u} e f = sym e ∙ not-true u f

pub fails : {t u : Bool} → u ≡ t → not u ≡ true → t ≡ true → ⊥
fails e f h = false≢true (sym (lacks e f) ∙ h)

-- A test at each of some numbers, from i on

pub all_next : (test : ℕ → Bool) {i n : ℕ} → i < n → test i ≡ true → all_from test i (n - i) ≡ all_from test (i + 1) (n - (i + 1))
unfolding all_from
all_next test {i} {n} h e =
    let k : n - i ≡ suc (n - (i + 1)) = omega arith in
    rw (k, e, add-one i) refl

pub all_fails : (test : ℕ → Bool) {i n : ℕ} → i < n → test i ≡ false → all_from test i (n - i) ≡ false
unfolding all_from
all_fails test {i} {n} h e =
    let k : n - i ≡ suc (n - (i + 1)) = omega arith in
    rw (k, e) refl

pub all_done : (test : ℕ → Bool) {i n : ℕ} → n ≤ i → all_from test i (n - i) ≡ true
unfolding all_from
all_done test {i} {n} h =
    let k : n - i ≡ 0 = omega arith in
    rw k refl

-- .. for the loops over links
pub ruleset all_rules = (all_next, all_fails, all_done)

-- Words that are all 0

-- a test at each of n numbers from i on is another at each of n from j on
all_shift : (test other : ℕ → Bool) (n i j : ℕ) → ((k : ℕ) → test (i + k) ≡ other (j + k)) → all_from test i n ≡ all_from other j n
unfolding all_from
all_shift test other zero i j each = refl
all_shift test other (suc n) i j each = rw (first, all_shift test other n (suc i) (suc j) next) refl
  where
    first : test i ≡ other j
    first =
        let a : i + 0 ≡ i = omega arith in
        let b : j + 0 ≡ j = omega arith in
        rw (a, b) at (each 0)

    next : (k : ℕ) → test (suc i + k) ≡ other (suc j + k)
    next k =
        let a : i + suc k ≡ suc i + k = omega arith in
        let b : j + suc k ≡ suc j + k = omega arith in
        rw (a, b) at (each (suc k))

-- n words from place p on
zero_words : (ws : List ℕ) (n p : ℕ) → p + n ≤ length ws → all_zero (take n (drop p ws)) ≡ all_from (λ i. eqb (get_or ws i 0) 0) p n
unfolding all_zero all_from
zero_words ws zero p h = refl
zero_words ws (suc n) p h = rw (drop-cons ws p 0 (omega arith), zero_words ws n (suc p) (omega arith)) refl

-- n words of cell c from word j on, lent as the part from `start` to `end`
zero_fields :
    {ws : List ℕ} {s : Settings} → Shaped ws s → {c : ℕ} → c < s.cells → (j n : ℕ) → j + n ≤ cell_words s.dimensions →
    {start end : ℕ} → start ≡ word_index s.dimensions c j → end ≡ start + n →
    all_zero (mid_of start (end - start) ws) ≡ all_from (λ i. eqb (word_at ws c i) 0) j n
zero_fields {ws} {s} h {c} hc j n hn {start} {end} p q =
    let D = s.dimensions in
    let at : ℕ → Bool = λ i. eqb (get_or ws i 0) 0 in
    ap all_zero (part_words ws D c j n p q)
    ∙ zero_words ws n (word_index D c j) (part_inside h hc j n hn)
    ∙ all_shift at (λ i. eqb (word_at ws c i) 0) n (word_index D c j) j (λ k. ap at (each k))
  where
    each : (k : ℕ) → word_index s.dimensions c j + k ≡ word_index (dimensions_at ws) c (j + k)
    each k = rw (shaped_dimensions h) (omega arith)

-- A free cell

pub free_outside : (ws : List ℕ) (c : ℕ) → cells_at ws ≤ c → free_right ws c ≡ false
unfolding free_right
free_outside ws c h = rw (le-ltb c (cells_at ws) h) refl

pub free_zero :
    {ws : List ℕ} {s : Settings} → Shaped ws s → {c : ℕ} → c < s.cells → {start end : ℕ} → start ≡ word_index s.dimensions c 1 →
    end ≡ start + (cell_words s.dimensions - 1) → free_right ws c ≡ all_zero (mid_of start (end - start) ws)
unfolding free_right
free_zero {ws} {s} h {c} hc p q =
    let inside : c < cells_at ws = omega (arith, shaped_cells h) in
    let n : cell_words s.dimensions - 1 ≡ cell_words (dimensions_at ws) - 1 = omega (arith, shaped_dimensions h) in
    rw (lt-ltb c (cells_at ws) inside)
    (sym (zero_fields h hc 1 (cell_words s.dimensions - 1) (omega arith) p q ∙ ap (all_from (λ i. eqb (word_at ws c i) 0) 1) n))
