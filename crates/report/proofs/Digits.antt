-- The digits that `io::decimal` makes of a number of 64 bits are the number's: it makes the fewest that hold it, and these are at most 20.
use mathlib.Core.Path.{◌≡◌, refl, ◌∙◌, ap}
use mathlib.Core.Logic.{⊎_elim}
use mathlib.Core.List.{List, [], ◌∷◌, ◌++◌}
use Prim.Native.Nat.{ℕ, zero, suc, ◌+◌, ◌-◌, ◌/◌, ◌%◌, ◌^◌, ◌≤◌, ◌<◌}
use native.Mathlib.Nat.{eq-zero-or-pos, pow-le-pow_right, pow-suc, one-le-pow, mod-eq_of_lt}
use native.Mathlib.Omega.{arith}
use borrow.Author.Tests.{lt-ltb, le-ltb}
use lib.ListN.{length, take}
use Rattle.io.specs.Counts.{IsPrefixLen}
use Rattle.io.specs.Digits.{hex_digit_ascii, last_digits, IsDigitCount}
use Rattle.report.specs.Report.{most_digits, decimal_in, decimal}

-- 21 digits are those of 10 to the power 20 and more
few_digits : {n k : ℕ} → n < 2 ^ 64 → IsDigitCount 10 1 n k → k ≤ most_digits
few_digits {n} {k} small few =
    ⊎_elim
    (λ none. omega arith)
    (λ more.
    let least : 10 ^ (k - 1) ≤ n = few.2 (omega arith) in
    let long : 20 ≤ k - 1 = omega arith in
    let grows : 10 ^ 20 ≤ 10 ^ (k - 1) = pow-le-pow_right (omega arith) {i = 20} {j = k - 1} long in
    omega arith)
    (eq-zero-or-pos (k - 20))

-- without its last digit a number of several digits has one fewer
module _ {n k : ℕ} (few : IsDigitCount 10 1 n (suc (suc k))) where
  several : 10 ^ suc k ≤ n
  several = let places : suc (suc k) - 1 ≡ suc k = omega arith in rw places at (few.2 (omega arith))

  at_least_ten : 10 ≤ n
  at_least_ten = omega (arith, several, pow-suc 10 k, one-le-pow k 10 (omega arith))

  one_fewer : IsDigitCount 10 1 (n / 10) (suc k)
  one_fewer =
      let places : suc k - 1 ≡ k = omega arith in
      (omega arith, omega (arith, few.1, pow-suc 10 (suc k)), λ h. rw places (omega (arith, several, pow-suc 10 k)))

glyph_digit : (n : ℕ) → hex_digit_ascii (n % 10) ≡ 48 + n % 10
glyph_digit n = rw (lt-ltb (n % 10) 10 (omega arith)) refl

fewest_spelled : (most n k : ℕ) → IsDigitCount 10 1 n k → k ≤ most → last_digits 10 k n ≡ decimal_in most n
unfolding decimal_in
fewest_spelled most n zero few h = absurd (omega (arith, few.0))
fewest_spelled zero n (suc k) few h = absurd (omega arith)
fewest_spelled (suc most) n (suc zero) few h =
    let small : n < 10 = few.1 in
    rw (lt-ltb n 10 small, glyph_digit n, mod-eq_of_lt small) refl
fewest_spelled (suc most) n (suc (suc k)) few h =
    let front = fewest_spelled most (n / 10) (suc k) (one_fewer few) (omega arith) in
    rw (le-ltb n 10 (at_least_ten few), glyph_digit n) (ap (λ l. l ++ ((48 + n % 10) ∷ [])) front)

-- Bytes that are a number's digits.
pub record Spelled (n : ℕ) (bytes : List ℕ) : Type 0 where
  pub is : bytes ≡ decimal n
  pub most : length bytes ≤ most_digits

-- What `io::decimal` ensures of the bytes that it writes to: the first of them, so many as it answers, are the number's digits.
pub decimal_spelled :
    {n k : ℕ} (bytes : List ℕ) → n < 2 ^ 64 → IsPrefixLen k bytes → IsDigitCount 10 1 n k → take k bytes ≡ last_digits 10 k n → Spelled n (take k bytes)
decimal_spelled {n} {k} bytes small counts few are =
    let most = few_digits small few in
    record { is = are ∙ fewest_spelled most_digits n k few most; most = omega (arith, counts.1, most) }
