-- What holds of the fields of a line and of decimal numbers. The fields are cut off one by one, each by where it ends; a number is read
-- digit by digit, and a digit more never makes it smaller.
use Rattle.std.specs.Prelude.{None, Some}
use mathlib.Core.Path.{◌≡◌, refl, sym, subst, ◌∙◌, ap}
use mathlib.Core.Bool.{Bool, true, false, cond, ◌&&◌, ◌||◌, and-true, and-false, or-true}
use mathlib.Core.List.{List, [], ◌∷◌}
use Prim.Native.Nat.{ℕ, zero, suc, ◌+◌, ◌*◌, ◌-◌, ◌≤◌, ◌<◌}
use native.Mathlib.Nat.{le_refl, not-suc-le-zero}
use native.Mathlib.Decide.{ℕ_discrete, dec_le}
use native.Mathlib.Omega.{arith}
use lib.Dec.{eqb, leb, ltb}
use lib.ListN.{length, get_or, take, drop, length-drop}
use lib.Seq.{take_all, drop-drop, get_or-drop}
use borrow.Author.Tests.{eq-eqb, ne_eqb, le-leb, lt-leb, lt-ltb, le-ltb, leb-true}
use Rattle.text.specs.Parts.{after_all}
use Rattle.text.specs.Fields.{space, in_first, fields_of, is_digit, all_digits, decimal_from, is_decimal, is_number}
use Rattle.text.specs.Answers.{FieldEnd, up_to, digit_on, digits_on, ended_at, number_of}
use Rattle.text.specs.declared.fields.Begun.{Begun}
use Rattle.text.specs.declared.fields.Begun.TheVariants.{NoDigit, Value, NoNumber}

and_left : (a b : Bool) → a && b ≡ true → a ≡ true
and_left true b e = refl
and_left false b e = e

and_right : (a b : Bool) → a && b ≡ true → b ≡ true
and_right true b e = e
and_right false b e = cc

-- Fields

-- bytes without a space are one field
whole : (bytes : List ℕ) → ((k : ℕ) → k < length bytes → get_or bytes k 0 ≡ space → ⊥) → fields_of bytes ≡ bytes ∷ []
unfolding fields_of
whole [] none = refl
whole (byte ∷ bytes) none =
    rw (ne_eqb byte space (none 0 (omega arith)), whole bytes (λ k h. none (suc k) (omega arith))) refl

-- the first field ends at the first space
cut :
    (n : ℕ) (bytes : List ℕ) → n < length bytes → ((k : ℕ) → k < n → get_or bytes k 0 ≡ space → ⊥) → get_or bytes n 0 ≡ space →
    fields_of bytes ≡ take n bytes ∷ fields_of (drop (suc n) bytes)
unfolding fields_of
cut n [] h none e = absurd (not-suc-le-zero h)
cut zero (byte ∷ bytes) h none e = rw (eq-eqb byte space e) refl
cut (suc n) (byte ∷ bytes) h none e =
    rw (ne_eqb byte space (none 0 (omega arith)), cut n bytes (omega arith) (λ k g. none (suc k) (omega arith)) e) refl

-- A walk over the fields: the field that starts at `at` is the last one, or there are more behind the space that ends it.
module _ {line : List ℕ} {at r : ℕ} (end : FieldEnd line at r) where
  none_before : (k : ℕ) → k < r - at → get_or (drop at line) k 0 ≡ space → ⊥
  none_before k h e = end.before (at + k) (omega arith) (omega arith) (sym (get_or-drop at line k 0) ∙ e)

  pub last_field : r ≡ length line → fields_of (drop at line) ≡ take (r - at) (drop at line) ∷ []
  last_field e =
      let long = length-drop at line in
      rw (take_all (r - at) (drop at line) (omega arith))
      (whole (drop at line) (λ k h. none_before k (omega arith)))

  pub next_field : r < length line → fields_of (drop at line) ≡ take (r - at) (drop at line) ∷ fields_of (drop (r + 1) line)
  next_field h =
      let long = length-drop at line in
      let from = end.from in
      let place : at + (r - at) ≡ r = omega arith in
      let next : at + suc (r - at) ≡ r + 1 = omega arith in
      rw (← next, ← drop-drop (suc (r - at)) at line)
      (cut (r - at) (drop at line) (omega arith) none_before (get_or-drop at line (r - at) 0 ∙ rw place (end.ended h)))

-- There is always a field, be it empty.
pub some_field : (bytes : List ℕ) → (field : List ℕ) × (fields : List (List ℕ)) × (fields_of bytes ≡ field ∷ fields)
unfolding fields_of
some_field [] = ([], [], refl)
some_field (byte ∷ bytes) = at_test (eqb byte space) (some_field bytes)
  where
    at_test :
        (t : Bool) → ((field : List ℕ) × (fields : List (List ℕ)) × (fields_of bytes ≡ field ∷ fields)) →
        (field : List ℕ) × (fields : List (List ℕ)) ×
        (cond t ([] ∷ fields_of bytes) (in_first byte (fields_of bytes)) ≡ field ∷ fields)
    at_test true rest = ([], fields_of bytes, refl)
    at_test false (field, fields, e) = (byte ∷ field, fields, ap (in_first byte) e)

-- Numbers, digit by digit

pub decimal_grows : (n : ℕ) (field : List ℕ) → n ≤ decimal_from n field
unfolding decimal_from
decimal_grows n [] = le_refl n
decimal_grows n (byte ∷ field) = let more = decimal_grows (n * 10 + (byte - 48)) field in omega arith

-- One byte, as the function tests it.

module _ (most byte : ℕ) where
  pub none_on : (begun : Begun) → is_digit byte ≡ false → NoNumber ≡ digit_on most begun byte
  unfolding digit_on
  none_on NoDigit e = rw e refl
  none_on (Value n) e = rw (e, and-false (ltb 0 n)) refl
  none_on NoNumber e = refl

  pub first_is : is_digit byte ≡ true → up_to most (byte - 48) ≡ digit_on most NoDigit byte
  unfolding digit_on
  first_is e = rw e refl

  pub zero_ends : (n : ℕ) → n ≡ 0 → NoNumber ≡ digit_on most (Value n) byte
  unfolding digit_on
  zero_ends n e = rw e refl

  pub further_is : (n : ℕ) → 0 < n → is_digit byte ≡ true → up_to most (n * 10 + (byte - 48)) ≡ digit_on most (Value n) byte
  unfolding digit_on
  further_is n some e = rw (lt-ltb 0 n some, e) refl

-- what digits make of a number n before them
unfoldable digits_from : ℕ → ℕ → List ℕ → Begun
digits_from most n bytes = cond (all_digits bytes && leb (decimal_from n bytes) most) (Value (decimal_from n bytes)) NoNumber

digits_none : (most : ℕ) (bytes : List ℕ) → digits_on most NoNumber bytes ≡ NoNumber
unfolding after_all digit_on
digits_none most [] = refl
digits_none most (byte ∷ bytes) = digits_none most bytes

-- a number above `most` stays above it
digits_over : (most n : ℕ) (bytes : List ℕ) → most < n → digits_from most n bytes ≡ NoNumber
unfolding digits_from
digits_over most n bytes over =
    let more = decimal_grows n bytes in
    rw (lt-leb (decimal_from n bytes) most (omega arith), and-false (all_digits bytes)) refl

-- so it is enough to know the digits after a number that is not
digits_up :
    (most n : ℕ) (bytes : List ℕ) → (n ≤ most → digits_on most (Value n) bytes ≡ digits_from most n bytes) →
    digits_on most (up_to most n) bytes ≡ digits_from most n bytes
digits_up most n bytes within = at (dec_le n most)
  where
    at : Dec (n ≤ most) → digits_on most (up_to most n) bytes ≡ digits_from most n bytes
    at (yes h) = rw (le-leb n most h) (within h)
    at (no h) = rw (lt-leb n most (omega arith), digits_over most n bytes (omega arith)) (digits_none most bytes)

digits_end : (most n : ℕ) → n ≤ most → digits_on most (Value n) [] ≡ digits_from most n []
unfolding after_all digits_from all_digits decimal_from
digits_end most n below = rw (le-leb n most below) refl

module _ (most n byte : ℕ) (bytes : List ℕ) where
  digit_next : is_digit byte ≡ true → digits_from most n (byte ∷ bytes) ≡ digits_from most (n * 10 + (byte - 48)) bytes
  unfolding digits_from all_digits decimal_from
  digit_next e = rw e refl

  no_digit : is_digit byte ≡ false → digits_from most n (byte ∷ bytes) ≡ NoNumber
  unfolding digits_from all_digits
  no_digit e = rw e refl

  digit_further :
      0 < n → is_digit byte ≡ true → digits_on most (Value n) (byte ∷ bytes) ≡ digits_on most (up_to most (n * 10 + (byte - 48))) bytes
  unfolding after_all digit_on
  digit_further some e = rw (lt-ltb 0 n some, e) refl

  no_further : is_digit byte ≡ false → digits_on most (Value n) (byte ∷ bytes) ≡ NoNumber
  unfolding after_all digit_on
  no_further e = rw (e, and-false (ltb 0 n)) (digits_none most bytes)

-- digits after a number above 0
digits_on_lem : (most n : ℕ) (bytes : List ℕ) → 0 < n → n ≤ most → digits_on most (Value n) bytes ≡ digits_from most n bytes
digits_on_lem most n [] some below = digits_end most n below
digits_on_lem most n (byte ∷ bytes) some below = at (is_digit byte) refl (digits_on_lem most (n * 10 + (byte - 48)) bytes (omega arith))
  where
    at :
        (t : Bool) → is_digit byte ≡ t →
        (n * 10 + (byte - 48) ≤ most → digits_on most (Value (n * 10 + (byte - 48))) bytes ≡ digits_from most (n * 10 + (byte - 48)) bytes) →
        digits_on most (Value n) (byte ∷ bytes) ≡ digits_from most n (byte ∷ bytes)
    at true e rest =
        digit_further most n byte bytes some e ∙ (digits_up most (n * 10 + (byte - 48)) bytes rest ∙ sym (digit_next most n byte bytes e))
    at false e rest = no_further most n byte bytes e ∙ sym (no_digit most n byte bytes e)

-- Numbers, as fields

-- A field: an empty one, a leading zero, or digits without one.
module _ (least most : ℕ) where
  number_empty : ended_at least (digits_on most NoDigit []) ≡ number_of least most []
  unfolding after_all number_of is_number is_decimal
  number_empty = refl

  number_plain :
      (field : List ℕ) → 0 < length field → (eqb (length field) 1 || ltb 48 (get_or field 0 0)) ≡ true →
      ended_at least (digits_from most 0 field) ≡ number_of least most field
  unfolding digits_from number_of is_number is_decimal
  number_plain field some plain =
      rw (lt-ltb 0 (length field) some, plain) (at_tests (all_digits field) (leb (decimal_from 0 field) most))
    where
      n : ℕ
      n = decimal_from 0 field

      at_tests :
          (digits low : Bool) →
          ended_at least (cond (digits && low) (Value n) NoNumber) ≡ cond (digits && true && leb least n && low) (Some n) None
      at_tests true true = rw (and-true (leb least n)) refl
      at_tests true false = rw (and-false (leb least n)) refl
      at_tests false low = refl

  module _ (byte : ℕ) (bytes : List ℕ) where
    first_digit : is_digit byte ≡ true → digits_on most NoDigit (byte ∷ bytes) ≡ digits_on most (up_to most (byte - 48)) bytes
    unfolding after_all digit_on
    first_digit e = rw e refl

    no_first : is_digit byte ≡ false → ended_at least (digits_on most NoDigit (byte ∷ bytes)) ≡ number_of least most (byte ∷ bytes)
    unfolding after_all digit_on number_of is_number is_decimal all_digits
    no_first e = rw (e, digits_none most bytes, and-false (ltb 0 (suc (length bytes)))) refl

    -- digits without a leading zero
    number_digits :
        is_digit byte ≡ true → (eqb (suc (length bytes)) 1 || ltb 48 byte) ≡ true →
        (byte - 48 ≤ most → digits_on most (Value (byte - 48)) bytes ≡ digits_from most (byte - 48) bytes) →
        ended_at least (digits_on most NoDigit (byte ∷ bytes)) ≡ number_of least most (byte ∷ bytes)
    number_digits e plain within =
        let value : 0 * 10 + (byte - 48) ≡ byte - 48 = omega arith in
        ap (ended_at least)
        (first_digit e ∙ (digits_up most (byte - 48) bytes within ∙ sym (digit_next most 0 byte bytes e ∙ rw value refl))) ∙
        number_plain (byte ∷ bytes) (omega arith) plain

  -- a leading zero
  zero_leads : (field : List ℕ) → (length field ≡ 1 → ⊥) → get_or field 0 0 ≤ 48 → number_of least most field ≡ None
  unfolding number_of is_number is_decimal
  zero_leads field several low =
      rw (ne_eqb (length field) 1 several, le-ltb 48 (get_or field 0 0) low, and-false (ltb 0 (length field) && all_digits field)) refl

  number_leading :
      (next : ℕ) (bytes : List ℕ) → ended_at least (digits_on most NoDigit (48 ∷ next ∷ bytes)) ≡ number_of least most (48 ∷ next ∷ bytes)
  unfolding after_all digit_on
  number_leading next bytes =
      rw (le-leb 0 most (omega arith))
      (ap (ended_at least) (digits_none most bytes) ∙ sym (zero_leads (48 ∷ next ∷ bytes) (λ e. omega arith) (omega arith)))

  digit_within : (byte : ℕ) → is_digit byte ≡ true → 48 ≤ byte
  digit_within byte e = leb-true 48 byte (and_left (leb 48 byte) (leb byte 57) e)

  pub number_by_digits : (field : List ℕ) → ended_at least (digits_on most NoDigit field) ≡ number_of least most field
  number_by_digits [] = number_empty
  number_by_digits (byte ∷ bytes) = at (is_digit byte) refl (ℕ_discrete byte 48) bytes
    where
      at :
          (t : Bool) → is_digit byte ≡ t → Dec (byte ≡ 48) → (bytes : List ℕ) →
          ended_at least (digits_on most NoDigit (byte ∷ bytes)) ≡ number_of least most (byte ∷ bytes)
      at false e zero-digit bytes = no_first byte bytes e
      at true e zero-digit [] = number_digits byte [] e refl (digits_end most (byte - 48))
      at true e (yes z) (next ∷ bytes) =
          subst (λ b. ended_at least (digits_on most NoDigit (b ∷ next ∷ bytes)) ≡ number_of least most (b ∷ next ∷ bytes)) (sym z) (number_leading next bytes)
      at true e (no z) (next ∷ bytes) =
          let low = digit_within byte e in
          number_digits byte (next ∷ bytes) e (rw (lt-ltb 48 byte (omega arith)) (or-true (eqb (suc (length (next ∷ bytes))) 1)))
          (digits_on_lem most (byte - 48) (next ∷ bytes) (omega arith))

module _ (least most : ℕ) (field : List ℕ) where
  -- a value is the field's number
  pub number_value : {n : ℕ} → number_of least most field ≡ Some n → (is_number least most field ≡ true) × (n ≡ decimal_from 0 field)
  unfolding number_of
  number_value {n} e = at_test (is_number least most field) refl e
    where
      at_test :
          (t : Bool) → is_number least most field ≡ t → cond t (Some (decimal_from 0 field)) None ≡ Some n →
          (is_number least most field ≡ true) × (n ≡ decimal_from 0 field)
      at_test true is v = (is, cc)
      at_test false is v = let z : ◌≡◌ {A = ℕ} 0 1 = cc in absurd (omega arith)

  -- and in the range asked for
  pub number_within : {n : ℕ} → number_of least most field ≡ Some n → (least ≤ n) × (n ≤ most)
  unfolding is_number
  number_within e =
      let v = number_value e in
      let d = decimal_from 0 field in
      let low = leb-true least d (and_right (is_decimal field) (leb least d) (and_left _ (leb d most) v.0)) in
      let high = leb-true d most (and_right (is_decimal field && leb least d) (leb d most) v.0) in
      (omega arith, omega arith)
