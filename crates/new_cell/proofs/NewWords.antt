-- The words of a new cell, written one after the other: the two runs of stores meet and are one run, of the definition's words of a new cell.
use mathlib.Core.Path.{◌≡◌, refl, sym, ap, ◌∙◌}
use mathlib.Core.Bool.{Bool, true, false, cond}
use mathlib.Core.List.{List, ◌++◌}
use Prim.Native.Nat.{ℕ, ◌+◌, ◌-◌, ◌≤◌, ◌<◌}
use native.Mathlib.Decide.{ℕ_discrete}
use native.Mathlib.Omega.{arith}
use lib.Dec.{eqb, ltb}
use lib.ListN.{length, set, replicate, length-set, length-replicate}
use lib.Seq.{sets}
use borrow.Author.Tests.{eq-eqb, ne_eqb, le-ltb}
use borrow.Rule.Slice.PartMut.{mid_of, put_mid, mid_len}
use Rattle.lists.proofs.Sets.{sets_append}
use Rattle.settings.specs.declared.Settings.{Settings}
use Rattle.meaning.specs.Words.{word_index, link_field}
use Rattle.meaning.specs.Layer.Stores.{new_words, new_links}
use Rattle.meaning.specs.declared.Slot.{Slot}
use Rattle.words.specs.Shaped.{Shaped}
use Rattle.words.proofs.Shaped.{part_inside, part_written}
use Rattle.new_cell.specs.NewCell.{field_words}

-- Links

new_links-length : (D q c : ℕ) → length (new_links D q c) ≡ D
new_links-length D q c = at (eqb c 0)
  where
    at : (r : Bool) → length (cond r (replicate D 0) (set (replicate D 0) q c)) ≡ D
    at true = length-replicate {A = ℕ} D 0
    at false = length-set (replicate D 0) q c ∙ length-replicate {A = ℕ} D 0

-- the part from `start` to `end` that holds the links of cell n
module _ {ws : List ℕ} {s : Settings} (h : Shaped ws s) {n : ℕ} (cell : n < s.cells) {start end : ℕ}
    (from : start ≡ word_index s.dimensions n (link_field 0)) (to : end ≡ start + s.dimensions) where
  pub links_inside : end ≤ length ws
  links_inside = omega (arith, part_inside h cell (link_field 0) s.dimensions (omega arith))

  pub links_long : length (mid_of start (end - start) ws) ≡ s.dimensions
  links_long = omega (arith, mid_len start end ws links_inside)

  pub links_written : (q c : ℕ) {ys : List ℕ} → ys ≡ new_links (length (mid_of start (end - start) ws)) q c →
      put_mid start (end - start) ws ys ≡ sets ws (word_index s.dimensions n (link_field 0)) (new_links s.dimensions q c)
  links_written q c is =
      let D = s.dimensions in
      let same = is ∙ ap (λ m. new_links m q c) links_long in
      rw same (part_written ws (new_links D q c) D n (link_field 0) D from to links_inside (new_links-length D q c))

-- A cell

-- the two parts are the definition's words: without a c there is no debt either
new_words_lem : (D key value : ℕ) (t : Slot) → (t.c ≡ 0 → t.q ≡ 0) → field_words key value t ++ new_links D t.q t.c ≡ new_words D key value t
unfolding new_words
new_words_lem D key value t none = at (ℕ_discrete t.c 0)
  where
    at : Dec (t.c ≡ 0) → field_words key value t ++ new_links D t.q t.c ≡ new_words D key value t
    at (yes z) =
        let settled : ltb t.p t.q ≡ false = le-ltb t.p t.q (omega (arith, none z)) in
        rw (settled, eq-eqb t.c 0 z) refl
    at (no ne) = rw (ne_eqb t.c 0 ne) refl

pub cell_written : (D : ℕ) (ws : List ℕ) (t : Slot) (key value : ℕ) → (t.c ≡ 0 → t.q ≡ 0) →
    sets (sets ws (word_index D t.n 0) (field_words key value t)) (word_index D t.n (link_field 0)) (new_links D t.q t.c)
    ≡ sets ws (word_index D t.n 0) (new_words D key value t)
cell_written D ws t key value none =
    let next : word_index D t.n (link_field 0) ≡ word_index D t.n 0 + 6 = omega arith in
    rw next (sym (sets_append ws (field_words key value t) (new_links D t.q t.c) (word_index D t.n 0)))
    ∙ ap (sets ws (word_index D t.n 0)) (new_words_lem D key value t none)
