-- The bytes that digits write: how many they are, one more by two digits more, and all of them after the bytes that are held.
use mathlib.Core.Path.{◌≡◌, refl, sym, ap, ◌∙◌}
use mathlib.Core.List.{List, [], ◌∷◌, ◌++◌, append-nil}
use Prim.Native.Nat.{ℕ, suc, ◌+◌, ◌*◌, ◌/◌, ◌%◌, ◌≤◌, ◌<◌}
use native.Mathlib.Numerals.{add-one}
use native.Mathlib.Omega.{arith}
use lib.ListN.{length, get_or, take, drop, set, length-drop}
use lib.Seq.{length-take-le, take-suc-set, drop-cons, append_snoc}
use borrow.Author.Tests.{le-leb, lt-leb}
use Rattle.trace.specs.Lines.{most_held}
use Rattle.trace_held.specs.Held.{Held, nibble, hex_bytes, added_to}

hex_length : (digits : List ℕ) → length (hex_bytes digits) ≡ length digits / 2
unfolding hex_bytes
hex_length [] = refl
hex_length (high ∷ []) = refl
hex_length (high ∷ low ∷ digits) = omega (arith, hex_length digits)

-- less than a pair of digits writes nothing
hex_none : (digits : List ℕ) → length digits ≤ 1 → hex_bytes digits ≡ []
unfolding hex_bytes
hex_none [] h = refl
hex_none (high ∷ []) h = refl
hex_none (high ∷ low ∷ digits) h = absurd (omega arith)

-- the byte that pair i of the digits writes
abbrev pub pair_byte : List ℕ → ℕ → ℕ
pair_byte digits i = (nibble (get_or digits (2 * i) 0) * 16 + nibble (get_or digits (2 * i + 1) 0)) % 256

-- what the digits from pair i on write is that byte and what those from the next pair on write
hex_from :
    (digits : List ℕ) (i : ℕ) → 2 * i + 1 < length digits → hex_bytes (drop (2 * i) digits) ≡ pair_byte digits i ∷ hex_bytes (drop (2 * (i + 1)) digits)
unfolding hex_bytes
hex_from digits i h =
    let next : 2 * (i + 1) ≡ suc (suc (2 * i)) = omega arith in
    rw (next, add-one (2 * i), drop-cons digits (2 * i) 0 (omega arith), drop-cons digits (suc (2 * i)) 0 (omega arith)) refl

module _ (array digits : List ℕ) (filled : ℕ) {all : List ℕ} where
  -- All bytes are those in the array and those that the digits from pair i on write: so it stays with one byte more in the array,
  pub added_more :
      {byte : ℕ} (i : ℕ) → all ≡ take (filled + i) array ++ hex_bytes (drop (2 * i) digits) → byte ≡ pair_byte digits i → filled + i < length array →
      2 * i + 1 < length digits → all ≡ take (filled + (i + 1)) (set array (filled + i) byte) ++ hex_bytes (drop (2 * (i + 1)) digits)
  added_more {byte} i is e room h =
      let next : filled + (i + 1) ≡ suc (filled + i) = omega arith in
      let more = append_snoc (take (filled + i) array) byte (hex_bytes (drop (2 * (i + 1)) digits)) in
      is ∙ rw (hex_from digits i h, ← e, next, take-suc-set array (filled + i) byte room) (sym more)

  -- and in the end they are in the array.
  pub added_all :
      (i : ℕ) → all ≡ take (filled + i) array ++ hex_bytes (drop (2 * i) digits) → length digits ≤ 2 * i + 1 → take (filled + i) array ≡ all
  added_all i is h =
      let none = hex_none (drop (2 * i) digits) (simp length-drop (omega arith)) in
      sym (is ∙ ap (λ more. take (filled + i) array ++ more) none ∙ append-nil (take (filled + i) array))

module _ {array : List ℕ} {filled : ℕ} (digits : List ℕ) (held : Held most_held array filled) where
  -- how many there would be
  sum : length (take filled array) + length (hex_bytes digits) ≡ filled + length digits / 2
  sum = omega (arith, length-take-le filled array (omega (arith, held.room, held.within)), hex_length digits)

  -- bytes that fit are added
  pub added_fit : filled + length digits / 2 ≤ most_held → added_to (take filled array) (hex_bytes digits) ≡ take filled array ++ hex_bytes digits
  added_fit h = rw (sum, le-leb (filled + length digits / 2) most_held h) refl

  -- too many are not
  pub added_not : most_held < filled + length digits / 2 → added_to (take filled array) (hex_bytes digits) ≡ take filled array
  added_not h = rw (sum, lt-leb (filled + length digits / 2) most_held h) refl

  -- less than a pair of digits adds nothing
  pub added_none : length digits ≤ 1 → added_to (take filled array) (hex_bytes digits) ≡ take filled array
  added_none h =
      added_fit (omega (arith, held.within)) ∙ ap (λ more. take filled array ++ more) (hex_none digits h) ∙ append-nil (take filled array)
