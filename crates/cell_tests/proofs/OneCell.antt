-- The tests of one cell, as the code makes them: its block, and all that is tested when it is met.
use mathlib.Core.Path.{◌≡◌, refl, sym, ap, ◌∙◌}
use mathlib.Core.Bool.{true, false}
use mathlib.Core.List.{List, [], ◌∷◌}
use Prim.Native.Nat.{ℕ, suc, ◌+◌, ◌-◌, ◌%◌, ◌^◌, ◌≤◌, ◌<◌}
use native.Mathlib.Numerals.{add-one}
use native.Mathlib.Omega.{arith}
use lib.Dec.{ltb}
use lib.ListN.{get_or}
use borrow.Author.Tests.{ltb-true, le-leb, lt-leb}
use Rattle.settings.specs.Levels.{PowersOf}
use Rattle.settings.specs.declared.Settings.{Settings}
use Rattle.meaning.specs.Keys.{block_start}
use Rattle.meaning.specs.Words.{key_at, dimensions_at, cells_at, base_at}
use Rattle.words.specs.Shaped.{Shaped}
use Rattle.words.proofs.Shaped.{shaped_dimensions, shaped_base}
use Rattle.account.specs.declared.Seen.{Seen}
use Rattle.account.specs.Tree.{follows, node_right}
use Rattle.account.specs.Loop.{alone_right}
use Rattle.account.proofs.AcceptedTests.{joined_all}

-- Blocks

-- cell y after cell x, by the powers of the levels e and e + 1
module _ {ws : List ℕ} {s : Settings} (h : Shaped ws s) {powers : List ℕ} (p : PowersOf s powers) (x y : ℕ) {e : ℕ} (inside : e < s.dimensions) where
  start_is : {key n : ℕ} (d : ℕ) → d ≤ s.dimensions → key ≡ key_at ws y → n ≡ key - key % get_or powers d 0 →
      block_start (base_at ws) (dimensions_at ws) (key_at ws y) d ≡ n
  unfolding block_start
  start_is {key} d l k e =
      ap (λ D. block_start (base_at ws) D (key_at ws y) d) (shaped_dimensions h)
      ∙ ap (λ b. block_start b s.dimensions (key_at ws y) d) (shaped_base h)
      ∙ sym (e ∙ ap (λ n. key - key % n) (p.level d l) ∙ ap (λ m. m - m % (s.base ^ (s.dimensions - d))) k)

  pub follows_not : {before key n : ℕ} → before ≡ key_at ws x → key ≡ key_at ws y → n ≡ key - key % get_or powers e 0 → before < n → false ≡ follows ws x y e
  unfolding follows
  follows_not b k f less = sym (rw (start_is e (omega arith) k f, ← b, lt-leb _ _ less) refl)

  pub follows_to : {before key n m : ℕ} → before ≡ key_at ws x → key ≡ key_at ws y → n ≡ key - key % get_or powers e 0 → n ≤ before →
      m ≡ key - key % get_or powers (e + 1) 0 → ltb before m ≡ follows ws x y e
  unfolding follows
  follows_to b k f le g =
      let next : e + 1 ≡ suc e = add-one e in
      sym (rw (start_is e (omega arith) k f, start_is (suc e) inside k (rw next at g), ← b, le-leb _ _ le) refl)

-- All that is tested when a cell is met

pub record Alone (ws : List ℕ) (y e : ℕ) (s : Seen) : Type 0 where
  pub left : 0 < s.left
  pub inside : y < cells_at ws
  pub comes : follows ws s.last y e ≡ true
  pub node : node_right ws y s.reached ≡ true

module _ (ws : List ℕ) (y e : ℕ) (s : Seen) where
  pub alone : alone_right ws y e s ≡ true → Alone ws y e s
  alone h =
      let t = joined_all (ltb 0 s.left ∷ ltb y (cells_at ws) ∷ follows ws s.last y e ∷ node_right ws y s.reached ∷ []) h in
      record {
        left = ltb-true 0 s.left t.0;
        inside = ltb-true y (cells_at ws) t.1.0;
        comes = t.1.1.0;
        node = t.1.1.1.0;
      }
