-- Words that are all 0: bits of some of them are 0 then, and bits of all of them only then.
use mathlib.Core.Path.{◌≡◌, refl, ap}
use mathlib.Core.Bool.{true, ◌&&◌}
use mathlib.Core.List.{List, [], ◌∷◌}
use Prim.Native.Nat.{ℕ, zero, suc, ◌+◌, ◌≤◌, ◌<◌}
use native.Mathlib.Decide.{dec_le}
use native.Mathlib.Omega.{arith}
use lib.Bits.{bit_or, and_le_l, and_le_r, or_add_and}
use lib.Dec.{eqb}
use lib.ListN.{length, get_or}
use borrow.Author.Tests.{eqb-true, eq-eqb}
use Rattle.std.specs.List.{list_all}
use Rattle.lists.specs.Zeros.{all_zero, ZeroFrom}
use Rattle.lists.proofs.Tests.{both, and_both, tests_same}

-- bits put together are 0 where both are
or_zero_left : (a b : ℕ) → bit_or a b ≡ 0 → a ≡ 0
or_zero_left a b e = omega (arith, or_add_and a b, and_le_r a b)

or_zero_right : (a b : ℕ) → bit_or a b ≡ 0 → b ≡ 0
or_zero_right a b e = omega (arith, or_add_and a b, and_le_l a b)

or_zero : (a b : ℕ) → a ≡ 0 → b ≡ 0 → bit_or a b ≡ 0
or_zero a b p q = omega (arith, or_add_and a b)

-- all words are 0 where each is
zero_at : (ws : List ℕ) (j : ℕ) → all_zero ws ≡ true → get_or ws j 0 ≡ 0
unfolding all_zero
zero_at [] j z = refl
zero_at (w ∷ ws) zero z = eqb-true w 0 (both (eqb w 0) (all_zero ws) z).0
zero_at (w ∷ ws) (suc j) z = zero_at ws j (both (eqb w 0) (all_zero ws) z).1

zero_all : (ws : List ℕ) → ((j : ℕ) → j < length ws → get_or ws j 0 ≡ 0) → all_zero ws ≡ true
unfolding all_zero
zero_all [] at = refl
zero_all (w ∷ ws) at = and_both (eqb w 0) (all_zero ws) (eq-eqb w 0 (at 0 (omega arith))) (zero_all ws (λ j h. at (suc j) (omega arith)))

-- the test of each word, as the library puts it
pub zeros_tested : (ws : List ℕ) → list_all (λ w. eqb w 0) ws ≡ all_zero ws
unfolding all_zero
zeros_tested [] = refl
zeros_tested (w ∷ ws) = ap (λ t. eqb w 0 && t) (zeros_tested ws)

module _ (part : List ℕ) where
  -- told of no word, and of one
  pub zero_start : (i r : ℕ) → (all_zero part ≡ true → r ≡ 0) → ZeroFrom part i 0 r
  zero_start i r none = record { told = λ e j p q. absurd (omega arith); none = none }

  pub zero_one : (i : ℕ) → ZeroFrom part i 1 (get_or part i 0)
  zero_one i = record { told = λ e j p q. let same : j ≡ i = omega arith in rw same e; none = zero_at part i }

  -- what is told of two stretches, of which the second starts no later than the first ends, is told of both as one
  pub zero_join :
      {i m k n l r : ℕ} → ZeroFrom part i m r → ZeroFrom part k n r → k ≤ i + m → i + l ≤ k + n → ZeroFrom part i l r
  zero_join {i} {m} {l = l} {r = r} f g near far = record { told = λ e j p q. at e j p q (dec_le (suc j) (i + m)); none = f.none }
    where
      at : r ≡ 0 → (j : ℕ) → i ≤ j → j < i + l → Dec (j < i + m) → get_or part j 0 ≡ 0
      at e j p q (yes h) = f.told e j p h
      at e j p q (no h) = g.told e j (omega arith) (omega arith)

  -- what bits tell they tell with others put to them
  pub or_left : {i m k n a b : ℕ} → ZeroFrom part i m a → ZeroFrom part k n b → ZeroFrom part i m (bit_or a b)
  or_left {a = a} {b = b} f g =
      record { told = λ e. f.told (or_zero_left a b e); none = λ z. or_zero a b (f.none z) (g.none z) }

  or_right : {i m k n a b : ℕ} → ZeroFrom part i m a → ZeroFrom part k n b → ZeroFrom part k n (bit_or a b)
  or_right {a = a} {b = b} f g =
      record { told = λ e. g.told (or_zero_right a b e); none = λ z. or_zero a b (f.none z) (g.none z) }

  -- .. and of two such stretches, as one
  pub zero_or :
      {i m k n l a b : ℕ} → ZeroFrom part i m a → ZeroFrom part k n b → k ≤ i + m → i + l ≤ k + n → ZeroFrom part i l (bit_or a b)
  zero_or f g near far = zero_join (or_left f g) (or_right f g) near far

  -- bits of words in a row, with the next word put to them
  pub zero_next : {i m a : ℕ} (k : ℕ) → ZeroFrom part i m a → k ≡ i + m → ZeroFrom part i (m + 1) (bit_or a (get_or part k 0))
  zero_next k f next = zero_or f (zero_one k) (omega arith) (omega arith)

  -- bits of all words decide
  pub zero_decides : {r : ℕ} → ZeroFrom part 0 (length part) r → eqb r 0 ≡ all_zero part
  zero_decides {r} f =
      tests_same (eqb r 0) (all_zero part) (λ e. zero_all part (λ j q. f.told (eqb-true r 0 e) j (omega arith) (omega arith)))
      (λ z. eq-eqb r 0 (f.none z))
