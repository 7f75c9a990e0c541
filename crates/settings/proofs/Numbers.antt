-- What holds of the base, the ranges, the keys and the length. The base rests on one fact: a number whose power is above K is above every
-- number whose power is not.
use mathlib.Core.Path.{◌≡◌, refl, sym, ◌∙◌}
use mathlib.Core.Bool.{Bool, true, false, ◌&&◌}
use Prim.Native.Nat.{ℕ, zero, suc, ◌+◌, ◌*◌, ◌-◌, ◌^◌, ◌≤◌, ◌<◌}
use native.Mathlib.Nat.{add-zero, add-suc, suc-add, mul-zero, mul-le-mul, le_antisymm, lt_of_not-le, mul-mul-mul_comm, not-le_of_lt, lt_of_le_of_lt, pow-zero, pow-suc}
use native.Mathlib.Nat.{pow-le-pow_left, pow-le-pow_right}
use native.Mathlib.Numerals.{add-one}
use native.Mathlib.Decide.{dec_lt}
use native.Mathlib.Omega.{arith}
use lib.Dec.{leb, ltb}
use borrow.Author.Tests.{ltb-true, ltb-false, leb-true, le-leb}
use Rattle.settings.specs.Numbers.{least_dimensions, most_dimensions, least_largest, most_largest, least_cells, most_cells, within, in_range}
use Rattle.settings.specs.Numbers.{is_key, first_above, base_of, cell_words}
use Rattle.settings.specs.Base.{IsBase}

-- Powers

pub power_order : (D : ℕ) {K b m : ℕ} → b ^ D ≤ K → K < m ^ D → b < m
power_order D low high = lt_of_not-le (λ h. not-le_of_lt (lt_of_le_of_lt low high) (pow-le-pow_left h D))

pub power_more : {p : ℕ} (b i : ℕ) → p ≡ b ^ i → p * b ≡ b ^ (i + 1)
power_more b i e = rw (e, add-one i, pow-suc b i) refl

pub zero_power : (D : ℕ) → 1 ≤ D → 0 ^ D ≡ 0
zero_power zero h = omega arith
zero_power (suc n) h = pow-suc 0 n ∙ mul-zero (0 ^ n)

pub one_power : (D : ℕ) → 1 ^ D ≡ 1
one_power zero = pow-zero 1
one_power (suc n) = rw (pow-suc, one_power n) refl

double_power : (m D : ℕ) → (2 * m) ^ D ≡ 2 ^ D * m ^ D
double_power m zero = rw (pow-zero (2 * m), pow-zero 2, pow-zero m) refl
double_power m (suc n) = rw (pow-suc (2 * m) n, pow-suc 2 n, pow-suc m n, double_power m n) (mul-mul-mul_comm (2 ^ n) (m ^ n) 2 m)

pub at_most_power : (m D : ℕ) → 1 ≤ D → m ≤ m ^ D
at_most_power zero D one = omega arith
at_most_power (suc n) D one =
    let z : 0 < suc n = omega arith in
    let p = pow-le-pow_right z one in
    omega (arith, power_more (suc n) 0 (sym (pow-zero (suc n))))

-- Once above K, the powers of b stay above it. (From i = 0 they do not: 0 to the power 0 is 1.)
pub stays_above : {K : ℕ} (b i D : ℕ) → 1 ≤ i → i ≤ D → K < b ^ i → K < b ^ D
stays_above {K} b i D one h high =
    let z = zero_power i one in
    let low : 0 ^ i ≤ K = omega arith in
    let p = pow-le-pow_right (power_order i low high) h in
    omega arith

-- One factor more fits 64 bits where the product so far is at most K, or 1.
pub product_fits : {p b K : ℕ} → p ≤ K + 1 → K < 2 ^ 32 → b < 2 ^ 32 → p * b < 2 ^ 64
product_fits {p} {b} {K} hp hk hb =
    let hp' : p ≤ 4294967296 = omega arith in
    let hb' : b ≤ 4294967295 = omega arith in
    let m : p * b ≤ 4294967296 * 4294967295 = mul-le-mul hp' hb' in
    omega arith

-- The base

pub is_base_lem : {K b : ℕ} (D : ℕ) → K < b ^ D → (b - 1) ^ D ≤ K → IsBase D K b
is_base_lem D high low = record { above = high; least = λ m h. let p = power_order D low h in omega arith }

pub base_unique : {D K b c : ℕ} → IsBase D K b → IsBase D K c → b ≡ c
base_unique {b = b} {c = c} p q = le_antisymm (p.least c q.above) (q.least b p.above)

pub base_at_least_two : {D K b : ℕ} → 1 ≤ K → IsBase D K b → 2 ≤ b
base_at_least_two {D} h p = power_order D (rw (one_power D) h) p.above

-- 65,536 to the power 2 is above every K.
pub base_at_most : {D K b : ℕ} → 2 ≤ D → K ≤ most_largest → IsBase D K b → b ≤ 65536
base_at_most {D} {K} hd hk p =
    let square : K < 65536 ^ 2 = omega arith in
    p.least 65536 (stays_above 65536 2 D (omega arith) hd square)

-- b to the power D fits 64 bits: b is at most twice the number before it, whose power D is at most K.
pub base_power_fits : {D K b : ℕ} → D ≤ most_dimensions → K ≤ most_largest → 1 ≤ K → IsBase D K b → b ^ D < 2 ^ 64
base_power_fits {D} {K} {b} hd hk some p =
    let two = base_at_least_two some p in
    let double : b ≤ 2 * (b - 1) = omega arith in
    let twice : 0 < 2 = omega arith in
    let few : 2 ^ D ≤ 65536 = omega (arith, pow-le-pow_right twice hd) in
    let low : (b - 1) ^ D ≤ most_largest = omega (arith, at (dec_lt K ((b - 1) ^ D))) in
    let product : 2 ^ D * (b - 1) ^ D ≤ 65536 * most_largest = mul-le-mul few low in
    omega (arith, pow-le-pow_left double D, double_power (b - 1) D, product)
  where
    at : Dec (K < (b - 1) ^ D) → (b - 1) ^ D ≤ K
    at (yes h) = absurd (omega (arith, base_at_least_two some p, p.least (b - 1) h))
    at (no h) = omega (arith, h)

-- The search of the definition, from a b that is at most every number whose power is above K.
pub first_is_base :
    (fuel D K b : ℕ) → K < (b + fuel) ^ D → ((m : ℕ) → K < m ^ D → b ≤ m) → IsBase D K (first_above fuel D K b)
unfolding first_above
first_is_base zero D K b high least = record { above = rw add-zero at high; least = least }
first_is_base (suc fuel) D K b high least =
    at_test (ltb K (b ^ D)) refl (first_is_base fuel D K (suc b) (rw (add-suc b fuel, ← suc-add b fuel) at high))
  where
    at_test :
        (t : Bool) → ltb K (b ^ D) ≡ t → (((m : ℕ) → K < m ^ D → suc b ≤ m) → IsBase D K (first_above fuel D K (suc b))) →
        IsBase D K (elim t [ true ↦ b | false ↦ first_above fuel D K (suc b) ])
    at_test true e more = record { above = ltb-true K (b ^ D) e; least = least }
    at_test false e more = more (λ m h. power_order D (ltb-false K (b ^ D) e) h)

pub base_is : (D K : ℕ) → 1 ≤ D → IsBase D K (base_of D K)
unfolding base_of
base_is D K one =
    let high = at_most_power (0 + (K + 1)) D one in
    first_is_base (K + 1) D K 0 (omega arith) (λ m h. omega arith)

-- The ranges

pub and_left : (a b : Bool) → a && b ≡ true → a ≡ true
and_left true b e = refl
and_left false b e = e

pub and_right : (a b : Bool) → a && b ≡ true → b ≡ true
and_right true b e = e
and_right false b e = cc

pub record Ranges (D K C : ℕ) : Type 0 where
  pub dimensions_least : least_dimensions ≤ D
  pub dimensions_most : D ≤ most_dimensions
  pub largest_least : least_largest ≤ K
  pub largest_most : K ≤ most_largest
  pub cells_least : least_cells ≤ C
  pub cells_most : C ≤ most_cells

pub in_range_lem : (D K C : ℕ) → Ranges D K C → in_range D K C ≡ true
unfolding in_range
in_range_lem D K C r =
    simp (
      le-leb least_dimensions D r.dimensions_least,
      le-leb D most_dimensions r.dimensions_most,
      le-leb least_largest K r.largest_least,
      le-leb K most_largest r.largest_most,
      le-leb least_cells C r.cells_least,
      le-leb C most_cells r.cells_most,
    )

bounds : (least most n : ℕ) → within least most n ≡ true → (least ≤ n) × (n ≤ most)
bounds least most n h =
    (leb-true least n (and_left (leb least n) (leb n most) h), leb-true n most (and_right (leb least n) (leb n most) h))

pub ranges : (D K C : ℕ) → in_range D K C ≡ true → Ranges D K C
unfolding in_range
ranges D K C e =
    let dk = and_left (dimensions && largest) cells e in
    let d = bounds least_dimensions most_dimensions D (and_left dimensions largest dk) in
    let k = bounds least_largest most_largest K (and_right dimensions largest dk) in
    let c = bounds least_cells most_cells C (and_right (dimensions && largest) cells e) in
    record {
      dimensions_least = d.0;
      dimensions_most = d.1;
      largest_least = k.0;
      largest_most = k.1;
      cells_least = c.0;
      cells_most = c.1;
    }
  where
    dimensions : Bool
    dimensions = within least_dimensions most_dimensions D

    largest : Bool
    largest = within least_largest most_largest K

    cells : Bool
    cells = within least_cells most_cells C

pub out_of_range : (D K C : ℕ) → (Ranges D K C → ⊥) → in_range D K C ≡ false
out_of_range D K C never = at_test (in_range D K C) refl
  where
    at_test : (t : Bool) → in_range D K C ≡ t → t ≡ false
    at_test true e = absurd (never (ranges D K C e))
    at_test false e = refl

-- Keys

module _ {K key : ℕ} where
  pub key_in : 1 ≤ key → key ≤ K → is_key K key ≡ true
  key_in least most = rw (le-leb 1 key least, le-leb key K most) refl

  pub key_within : is_key K key ≡ true → (1 ≤ key) × (key ≤ K)
  key_within = bounds 1 K key

  pub key_out : (1 ≤ key → K < key) → is_key K key ≡ false
  key_out outside = at_test (is_key K key) refl
    where
      at_test : (t : Bool) → is_key K key ≡ t → t ≡ false
      at_test true e = let (least, most) = key_within e in absurd (not-le_of_lt (outside least) most)
      at_test false e = refl

-- The length

-- No list has more words than the one with the most dimensions and the most cells; a later site changes those two names alone.
pub cells_fit : {D C : ℕ} → D ≤ most_dimensions → C ≤ most_cells → C * cell_words D ≤ most_cells * cell_words most_dimensions
cells_fit {D} {C} hd hc =
    let w : cell_words D ≤ cell_words most_dimensions = omega arith in
    mul-le-mul hc w
