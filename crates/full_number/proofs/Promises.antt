-- The promises of specs/Promises.antt: there is one number that is congruent and near enough to the last, and the wrapped difference finds it.
use Rattle.std.specs.Prelude.{None, Some}
use Rattle.std.proofs.Common.{◌≡◌, ℕ, ◌+◌, ◌-◌, ◌%◌, ◌<◌, ◌≤◌, leb, sym, refl, ap, ◌∙◌, subst, arith, le-leb}
use mathlib.Core.Bool.{and-false}
use native.Mathlib.Decide.{dec_le}
use borrow.Author.Tests.{lt-leb}
use Rattle.full_number.specs.FullNumber.{numbers_per_round, most_full, Full, round_on, round_back, full_number}
use Rattle.full_number.specs.Promises.{OneFullNumber, SomeFullNumber, FullNumberIs, FirstNumber}

-- two numbers that are both the full number are the same
pub one_full_number : OneFullNumber
one_full_number last own n m f g = omega (arith, f.congruent, f.least, f.most, g.congruent, g.least, g.most)

-- one round on there is always one
pub some_full_number : SomeFullNumber
some_full_number last own = record { congruent = omega arith; least = omega arith; most = omega arith }

-- one round back
pub back_fits : (n : ℕ) → n ≤ most_full → round_back (n + numbers_per_round) ≡ Some n
back_fits n h =
    let same : n + numbers_per_round - numbers_per_round ≡ n = omega arith in
    rw (le-leb numbers_per_round (n + numbers_per_round) (omega arith), le-leb (n + numbers_per_round) (most_full + numbers_per_round) (omega arith), same) refl

pub back_below : (n : ℕ) → n < numbers_per_round → round_back n ≡ None
back_below n h = rw (lt-leb numbers_per_round n h) refl

pub back_above : (n : ℕ) → most_full + numbers_per_round < n → round_back n ≡ None
back_above n h = rw (lt-leb n (most_full + numbers_per_round) h, and-false (leb numbers_per_round n)) refl

-- a number one round on that is the full number there
pub full_back : (last own n : ℕ) → last ≤ most_full → Full (last + numbers_per_round) own n → round_back n ≡ full_number last own
unfolding full_number
full_back last own n h f =
    rw (le-leb last most_full h) (ap round_back (one_full_number (last + numbers_per_round) own n (round_on last own) f (some_full_number last own)))

pub first_number_lem : FirstNumber
unfolding full_number
first_number_lem last own h = rw (lt-leb last most_full h) refl

-- by a wrapped difference
module _ (last own ahead : ℕ) (wraps : (ahead + last % numbers_per_round) % numbers_per_round ≡ own) where
  pub ahead_full : ahead < 32768 → Full (last + numbers_per_round) own (last + numbers_per_round + ahead)
  ahead_full h = record { congruent = omega (arith, wraps); least = omega arith; most = omega arith }

  pub behind_full : 32768 ≤ ahead → ahead < numbers_per_round → Full (last + numbers_per_round) own (last + numbers_per_round - (numbers_per_round - ahead))
  behind_full h l = record { congruent = omega (arith, wraps); least = omega arith; most = omega arith }

-- the one that a subtraction gives
pub wrapped : (last own : ℕ) → own < numbers_per_round →
    ((own + (numbers_per_round - last % numbers_per_round)) % numbers_per_round + last % numbers_per_round) % numbers_per_round ≡ own
wrapped last own fits = omega arith

-- The full number is what it is to be, and fits.

back_is : (m n : ℕ) → round_back m ≡ Some n → (m ≡ n + numbers_per_round) × (n ≤ most_full)
back_is m n e = at (dec_le numbers_per_round m) (dec_le m (most_full + numbers_per_round))
  where
    outside : {A : Type 0} → None ≡ Some n → A
    outside f = absurd (let z : ◌≡◌ {A = ℕ} 0 1 = cc in omega arith)

    at : Dec (numbers_per_round ≤ m) → Dec (m ≤ most_full + numbers_per_round) → (m ≡ n + numbers_per_round) × (n ≤ most_full)
    at (no l) h = outside (sym (back_below m (omega arith)) ∙ e)
    at (yes l) (no h) = outside (sym (back_above m (omega arith)) ∙ e)
    at (yes l) (yes h) =
        let k = m - numbers_per_round in
        let whole : k + numbers_per_round ≡ m = omega arith in
        let f : Some k ≡ Some n = sym (back_fits k (omega arith)) ∙ (ap round_back whole ∙ e) in
        let same : k ≡ n = cc in
        (omega arith, omega arith)

pub full_number_is : FullNumberIs
full_number_is last own n h = (there, back)
  where
    there : full_number last own ≡ Some n → Full last own n × (n ≤ most_full)
    there e =
        let f = some_full_number last own in
        let b = back_is (round_on last own) n (full_back last own (round_on last own) h f ∙ e) in
        let at = b.0 in
        let g : Full (last + numbers_per_round) own (n + numbers_per_round) = subst (Full (last + numbers_per_round) own) at f in
        (record { congruent = omega (arith, g.congruent); least = omega (arith, g.least); most = omega (arith, g.most) }, b.1)

    back : Full last own n × (n ≤ most_full) → full_number last own ≡ Some n
    back p =
        let f = p.0 in
        let g : Full (last + numbers_per_round) own (n + numbers_per_round) =
        record { congruent = omega (arith, f.congruent); least = omega (arith, f.least); most = omega (arith, f.most) } in
        sym (full_back last own (n + numbers_per_round) h g) ∙ back_fits n p.1
