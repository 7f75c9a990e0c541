-- How many keys are live, counted over the marks of the cells: a node put into its place makes the live ones one more exactly if it is
-- live, whatever its place.
use mathlib.Core.Path.{◌≡◌, refl, sym, ap, ◌∙◌}
use mathlib.Core.Bool.{Bool, true, false, cond}
use mathlib.Core.List.{List, ◌∷◌}
use Prim.Native.Nat.{ℕ, suc, ◌+◌, ◌-◌, ◌<◌}
use native.Mathlib.Omega.{arith}
use lib.Dec.{eqb}
use lib.ListN.{length, length-map}
use borrow.Author.Tests.{eq-eqb, ne_eqb}
use Rattle.settings.specs.declared.Settings.{Settings}
use Rattle.lists.specs.Lists.{those}
use Rattle.meaning.specs.Row.{Node, put}
use Rattle.meaning.specs.Reading.{read}
use Rattle.meaning.specs.Words.{mark_at, live_mark}
use Rattle.calls.specs.Pairs.{pair, live_pairs}
use Rattle.meaning.specs.Layer.Listed.{Listed}
use Rattle.meaning.proofs.Cells.Folded.{row_from, no_cells, row_from_lem, put_folded, live_folded}

-- the live ones of some nodes
abbrev pub live_ones : List Node → List Node
live_ones row = those (λ x. x.live) row

-- one more if it is so
abbrev more : Bool → ℕ → ℕ
more b n = cond b (suc n) n

more_twice : (a b : Bool) (n : ℕ) → more a (more b n) ≡ more b (more a n)
more_twice true true n = refl
more_twice true false n = refl
more_twice false b n = refl

first_live_count : (x : Node) (row : List Node) → length (live_ones (x ∷ row)) ≡ more x.live (length (live_ones row))
unfolding those
first_live_count x row = at x.live
  where
    at : (t : Bool) → length (cond t (x ∷ live_ones row) (live_ones row)) ≡ more t (length (live_ones row))
    at true = refl
    at false = refl

put_live_count : (x : Node) (row : List Node) → length (live_ones (put x row)) ≡ more x.live (length (live_ones row))
put_live_count = put_folded (λ row. length (live_ones row)) (λ x n. more x.live n) first_live_count (λ x y n. more_twice x.live y.live n)

-- how many of n cells from x on are live
abbrev pub lives_from : List ℕ → ℕ → ℕ → ℕ
lives_from ws x n = length (live_ones (row_from ws x n))

-- one cell more: one more if its mark is 1
one_more : (ws : List ℕ) (x n : ℕ) → lives_from ws x (suc n) ≡ more (eqb (mark_at ws x) live_mark) (lives_from ws (suc x) n)
one_more = live_folded (λ row. length (live_ones row)) (λ y n. suc n) put_live_count

-- n cells before x are live, and with those from x on they are all that are
pub record Counted (ws : List ℕ) (s : Settings) (n x : ℕ) : Type 0 where
  pub fewer : n < x
  pub all : length (live_ones (read ws).row) ≡ n + lives_from ws x (s.cells - x)

pub counted_start : {ws : List ℕ} {s : Settings} → Listed ws s → Counted ws s 0 1
counted_start {ws} h =
    record {
      fewer = omega arith;
      all = ap (λ row. length (live_ones row)) (row_from_lem ws) ∙ ap (λ u. lives_from ws 1 (u.cells - 1)) h.settings ∙ omega arith;
    }

module _ {ws : List ℕ} {s : Settings} {n x : ℕ} (c : Counted ws s n x) (inside : x < s.cells) {mark : ℕ} (is : mark ≡ mark_at ws x) where
  rest_count : lives_from ws x (s.cells - x) ≡ more (eqb (mark_at ws x) live_mark) (lives_from ws (x + 1) (s.cells - (x + 1)))
  rest_count =
      let k : s.cells - x ≡ suc (s.cells - (x + 1)) = omega arith in
      let j : suc x ≡ x + 1 = omega arith in
      ap (lives_from ws x) k ∙ one_more ws x (s.cells - (x + 1)) ∙ ap (λ y. more (eqb (mark_at ws x) live_mark) (lives_from ws y (s.cells - (x + 1)))) j

  pub counted_live : mark ≡ 1 → Counted ws s (n + 1) (x + 1)
  counted_live one =
      let e = rest_count ∙ ap (λ b. more b (lives_from ws (x + 1) (s.cells - (x + 1)))) (eq-eqb (mark_at ws x) 1 (sym is ∙ one)) in
      record { fewer = omega (arith, c.fewer); all = omega (arith, c.all, e) }

  pub counted_other : (mark ≡ 1 → ⊥) → Counted ws s n (x + 1)
  counted_other other =
      let e = rest_count ∙ ap (λ b. more b (lives_from ws (x + 1) (s.cells - (x + 1)))) (ne_eqb (mark_at ws x) 1 (λ q. other (is ∙ q))) in
      record { fewer = omega (arith, c.fewer); all = omega (arith, c.all, e) }

pub counted_all : {ws : List ℕ} {s : Settings} {n x : ℕ} → Counted ws s n x → x ≡ s.cells → (n ≡ length (live_pairs ws)) × (n < s.cells)
unfolding those
counted_all {ws} {s} {n} {x} c ended =
    let none : s.cells - x ≡ 0 = omega arith in
    let e = c.all ∙ ap (λ k. n + lives_from ws x k) none ∙ ap (λ row. n + length (live_ones row)) (no_cells ws x) in (
      omega (arith, e, length-map (live_ones (read ws).row) pair),
      omega (arith, c.fewer),
    )
