-- The fields of a line and the numbers in them: The order program 2.
use Rattle.std.specs.Prelude.{Bool, true, cond, ◌&&◌, ◌||◌, List, [], ◌∷◌, ℕ, ◌+◌, ◌*◌, ◌-◌, eqb, leb, ltb, length, get_or}

abbrev pub space : ℕ
space = 32

-- a byte put in front of the first of some fields
abbrev pub in_first : ℕ → List (List ℕ) → List (List ℕ)
in_first byte [] = (byte ∷ []) ∷ []
in_first byte (field ∷ fields) = (byte ∷ field) ∷ fields

-- The fields of a line, cut at each space: two spaces in a row, or one at an end, make an empty field.
unfoldable pub fields_of : List ℕ → List (List ℕ)
fields_of [] = [] ∷ []
fields_of (byte ∷ line) = cond (eqb byte space) ([] ∷ fields_of line) (in_first byte (fields_of line))

-- a decimal digit, `0` to `9`
abbrev pub is_digit : ℕ → Bool
is_digit byte = leb 48 byte && leb byte 57

unfoldable pub all_digits : List ℕ → Bool
all_digits [] = true
all_digits (byte ∷ field) = is_digit byte && all_digits field

-- the number that digits write, after a number already read
unfoldable pub decimal_from : ℕ → List ℕ → ℕ
decimal_from n [] = n
decimal_from n (byte ∷ field) = decimal_from (n * 10 + (byte - 48)) field

-- decimal, no leading zeros: one digit or more, the first not 0 unless it is the only one
unfoldable pub is_decimal : List ℕ → Bool
is_decimal field = ltb 0 (length field) && all_digits field && (eqb (length field) 1 || ltb 48 (get_or field 0 0))

-- a field that is a number from `least` to `most`
unfoldable pub is_number : ℕ → ℕ → List ℕ → Bool
is_number least most field = is_decimal field && leb least (decimal_from 0 field) && leb (decimal_from 0 field) most
