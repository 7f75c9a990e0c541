-- The loops on words of the right shape: what is left to do from here on, in the words as they stand, comes to the same as all of
-- it in the words of the call. Each law takes one turn, or the end.
use mathlib.Core.Path.{◌≡◌, refl, sym, ap, ◌∙◌, subst}
use mathlib.Core.List.{List, ◌∷◌}
use Prim.Native.Nat.{ℕ, suc, ◌+◌, ◌-◌, ◌^◌, ◌≤◌, ◌<◌}
use native.Mathlib.Numerals.{add-one}
use native.Mathlib.Omega.{arith}
use lib.ListN.{length, get_or, set, replicate, length-replicate}
use lib.Seq.{sets}
use borrow.Rule.Slice.PartMut.{mid_of, put_mid, mid_len}
use Rattle.settings.specs.Numbers.{cell_words}
use Rattle.settings.specs.Levels.{PowersOf}
use Rattle.settings.specs.declared.Settings.{Settings}
use Rattle.meaning.specs.Picture.{free_words}
use Rattle.meaning.specs.Words.{word_index, word_at, key_at, link_at, first_free_at, link_field}
use Rattle.meaning.specs.Layer.Stores.{store}
use Rattle.meaning.specs.Layer.SweepStores.{take_links, relink_head, free_cell}
use Rattle.meaning.proofs.Rows.Keys.{shared_le}
use Rattle.meaning.proofs.Rows.Blocks.{shared_zeros}
use Rattle.words.specs.Shaped.{Shaped, Within}
use Rattle.words.proofs.Shaped.{shaped_dimensions, word_is, part_inside, part_written}
use Rattle.free_between.specs.Between.{zeros_of, Keyed, free_chained, ChainIn}

-- Leading zeros

module _ {ws : List ℕ} {s : Settings} {x : ℕ} (k : Keyed ws s x) {powers : List ℕ} (p : PowersOf s powers) {d : ℕ} (upto : d ≤ zeros_of ws s x) {key : ℕ}
    (is : key ≡ key_at ws x) where
  level : d < s.dimensions → get_or powers (d + 1) 0 ≡ s.base ^ (s.dimensions - suc d)
  level h = rw (add-one d) (p.level (suc d) h)

  pub zero_more : d < s.dimensions → key < get_or powers (d + 1) 0 → d + 1 ≤ zeros_of ws s x
  zero_more h less =
      omega (arith, (shared_zeros s.base s.dimensions (key_at ws x) (suc d) k.base k.fits h).0 (omega (arith, less, is, level h)))

  pub zero_last : d < s.dimensions → get_or powers (d + 1) 0 ≤ key → d ≡ zeros_of ws s x
  zero_last h more =
      omega (arith, upto, (shared_zeros s.base s.dimensions (key_at ws x) (suc d) k.base k.fits h).1 (omega (arith, more, is, level h)))

  pub zero_all : s.dimensions ≤ d → s.dimensions ≡ zeros_of ws s x
  zero_all h = omega (arith, upto, shared_le s.base s.dimensions 0 (key_at ws x))

-- Links taken from a path's cells

pub take_more :
    {ws : List ℕ} {s : Settings} → Shaped ws s → (x : ℕ) (path : List ℕ) (d : ℕ) {number from y : ℕ} → d < number → from ≡ get_or path d 0 →
    y ≡ link_at ws from d →
    take_links s.dimensions ws x path d (number - d)
    ≡ take_links s.dimensions (store s.dimensions ws x (link_field d) y) x path (d + 1) (number - (d + 1))
unfolding take_links
take_more {ws} {s} h x path d {number} {from} {y} below f e =
    rw (add-one d, e, f, shaped_dimensions h) (more (number - d) (number - suc d) (omega arith))
  where
    D : ℕ
    D = s.dimensions

    more : (n rest : ℕ) → n ≡ suc rest →
        take_links D ws x path d n
        ≡ take_links D (store D ws x (link_field d) (get_or ws (word_index D (get_or path d 0) (link_field d)) 0)) x path (suc d) rest
    more n rest q = rw q refl

pub take_all : (D : ℕ) (ws : List ℕ) (x : ℕ) (path : List ℕ) (d : ℕ) {number : ℕ} → number ≤ d → take_links D ws x path d (number - d) ≡ ws
unfolding take_links
take_all D ws x path d {number} h =
    let none : number - d ≡ 0 = omega arith in
    rw none refl

-- A word of a cell, and zeros after it

-- the part lent is the words after word j of cell x
module _ {ws : List ℕ} {s : Settings} (h : Shaped ws s) {x j : ℕ} (w : Within s x j) {at end size : ℕ} (from : at ≡ word_index s.dimensions x j)
    (sized : size ≡ cell_words s.dimensions) (to : end ≡ at + 1 + size - 1 - j) where
  pub rest_inside : end ≤ length ws
  rest_inside =
      let D = s.dimensions in
      omega (arith, w.field, part_inside h w.cell (suc j) (cell_words D - suc j) (omega (arith, w.field)))

  pub rest_written : (before : List ℕ) (v : ℕ) {ys : List ℕ} → ws ≡ store s.dimensions before x j v →
      ys ≡ replicate (length (mid_of (at + 1) (end - (at + 1)) ws)) 0 →
      put_mid (at + 1) (end - (at + 1)) ws ys ≡ sets before (word_index s.dimensions x j) (v ∷ replicate (cell_words s.dimensions - suc j) 0)
  rest_written before v {ys} e is =
      let D = s.dimensions in
      let long : length (mid_of (at + 1) (end - (at + 1)) ws) ≡ cell_words D - suc j = omega (arith, w.field, mid_len (at + 1) end ws rest_inside) in
      let zeros : ys ≡ replicate (cell_words D - suc j) 0 = is ∙ ap (λ n. replicate n 0) long in
      let next : word_index D x (suc j) ≡ suc (word_index D x j) = omega arith in
      let filled : length ys ≡ cell_words D - suc j = ap length zeros ∙ length-replicate {A = ℕ} (cell_words D - suc j) 0 in
      let start : at + 1 ≡ word_index D x (suc j) = omega arith in
      let count : end ≡ at + 1 + (cell_words D - suc j) = omega (arith, w.field) in
      part_written ws ys D x (suc j) (cell_words D - suc j) start count rest_inside filled ∙ rw (e, zeros, next) refl

-- The head's links, and a cell that becomes free

pub relinked : (D : ℕ) (ws : List ℕ) (x z : ℕ) {left : List ℕ} →
    left ≡ sets ws (word_index D 0 (link_field z)) (x ∷ replicate (cell_words D - suc (link_field z)) 0) → left ≡ relink_head D ws x z
unfolding relink_head
relinked D ws x z e =
    let count : cell_words D - suc (link_field z) ≡ D - suc z = omega arith in
    e ∙ rw count refl

pub freed : (D : ℕ) (ws : List ℕ) (x : ℕ) {left : List ℕ} →
    left ≡ sets ws (word_index D x 0) (first_free_at ws ∷ replicate (cell_words D - 1) 0) → set left 4 x ≡ free_cell D ws x
unfolding free_cell free_words
freed D ws x e =
    rw e refl

-- Chained cells

module _ {ws : List ℕ} {s : Settings} (h : Shaped ws s) (x n left : ℕ) (more : n ≡ suc left) where
  pub chain_first : ChainIn s ws x n → x < s.cells
  chain_first c = (subst (ChainIn s ws x) more c).0

  module _ {next : ℕ} {after : List ℕ} (e : next ≡ word_at ws x 1) (frees : after ≡ free_cell s.dimensions ws x) where
    next_is : next ≡ get_or ws (word_index s.dimensions x 1) 0
    next_is = e ∙ sym (word_is h x 1 refl)

    pub chain_rest : ChainIn s ws x n → ChainIn s after next left
    chain_rest c = rw (frees, next_is) (subst (ChainIn s ws x) more c).1

    pub chained_more : free_chained s.dimensions ws x n ≡ free_chained s.dimensions after next left
    unfolding free_chained
    chained_more = rw (frees, next_is) (ap (free_chained s.dimensions ws x) more)

pub chained_none : (D : ℕ) (ws : List ℕ) (x : ℕ) {n : ℕ} → n ≡ 0 → free_chained D ws x n ≡ ws
unfolding free_chained
chained_none D ws x none = ap (free_chained D ws x) none
