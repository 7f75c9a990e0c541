-- What the functions on fields answer.
use Rattle.std.specs.Prelude.{cond, ◌&&◌, List, ◌≡◌, ℕ, ◌+◌, ◌*◌, ◌-◌, ◌≤◌, ◌<◌, leb, ltb, length, get_or, None, Option, Some}
use Rattle.text.specs.Parts.{after_all}
use Rattle.text.specs.Fields.{space, is_digit, decimal_from, is_number}
use Rattle.text.specs.declared.fields.Begun.{Begun}
use Rattle.text.specs.declared.fields.Begun.TheVariants.{NoDigit, Value, NoNumber}

-- `r` is the first space of a line at or after `at`, or the line's length.
pub record FieldEnd (line : List ℕ) (at r : ℕ) : Type 0 where
  pub from : at ≤ r
  pub within : r ≤ length line
  pub before : (k : ℕ) → at ≤ k → k < r → get_or line k 0 ≡ space → ⊥
  pub ended : r < length line → get_or line r 0 ≡ space

-- A number read digit by digit, up to `most`.

-- the value of the digits so far, where it is at most `most`
abbrev pub up_to : ℕ → ℕ → Begun
up_to most n = cond (leb n most) (Value n) NoNumber

-- one digit more: after a single 0 there is none
unfoldable pub digit_on : ℕ → Begun → ℕ → Begun
digit_on most NoDigit byte = cond (is_digit byte) (up_to most (byte - 48)) NoNumber
digit_on most (Value n) byte = cond (ltb 0 n && is_digit byte) (up_to most (n * 10 + (byte - 48))) NoNumber
digit_on most NoNumber byte = NoNumber

-- .. and several
abbrev pub digits_on : ℕ → Begun → List ℕ → Begun
digits_on most = after_all (digit_on most)

-- the numeral that ends here, where its value is not below `least`
abbrev pub ended_at : ℕ → Begun → Option ℕ
ended_at least NoDigit = None
ended_at least (Value n) = cond (leb least n) (Some n) None
ended_at least NoNumber = None

-- The value of a field that is a number from `least` to `most`.
unfoldable pub number_of : ℕ → ℕ → List ℕ → Option ℕ
number_of least most field = cond (is_number least most field) (Some (decimal_from 0 field)) None
