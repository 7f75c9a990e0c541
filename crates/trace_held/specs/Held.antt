-- What a line of a trace does to what is held, before its call, if it makes one. The words held are the first ones of an array, and so are
-- the bytes.
use Rattle.std.specs.Prelude.{cond, List, [], ◌∷◌, ◌++◌, ◌≡◌, ℕ, ◌+◌, ◌*◌, ◌-◌, ◌%◌, ◌≤◌, leb, ltb, length, take, drop, set, replicate}
use Rattle.calls.specs.Records.{Lent, lent_of}
use Rattle.trace.specs.Lines.{most_held}
use Rattle.trace.specs.declared.Kind.{Kind}
use Rattle.trace.specs.declared.Kind.TheVariants.{Fresh, Make, Put, Length, Bytes, Add, PutByte, Last, Unreadable}

-- a word that no fresh list has, so that a word left as it was shows; and a byte that no record has
abbrev pub left : ℕ
left = 2779096485

abbrev pub left_byte : ℕ
left_byte = 165

-- words cut to n of them, or extended with words 0
abbrev pub cut_to : ℕ → List ℕ → List ℕ
cut_to n ws = take n ws ++ replicate (n - length ws) 0

-- U makes a buffer of LEN words, P writes one word and nothing past the end, L cuts or extends; every other line leaves the words to its call.
abbrev pub buffer_after : Kind → List ℕ → List ℕ
buffer_after (Fresh n call) ws = replicate n left
buffer_after (Make call) ws = ws
buffer_after (Put index value) ws = set ws index value
buffer_after (Length n) ws = cut_to n ws
buffer_after (Bytes n) ws = ws
buffer_after Add ws = ws
buffer_after (PutByte index value) ws = ws
buffer_after (Last number) ws = ws
buffer_after Unreadable ws = ws

-- a digit `0` to `9` or `a` to `f`
abbrev pub nibble : ℕ → ℕ
nibble digit = cond (ltb digit 97) (digit - 48) (digit - 87)

-- the bytes that digits write, two a byte
unfoldable pub hex_bytes : List ℕ → List ℕ
hex_bytes [] = []
hex_bytes (high ∷ []) = []
hex_bytes (high ∷ low ∷ digits) = (nibble high * 16 + nibble low) % 256 ∷ hex_bytes digits

-- bytes put after those that are there, unless that were too many
abbrev pub added_to : List ℕ → List ℕ → List ℕ
added_to bytes more = cond (leb (length bytes + length more) most_held) (bytes ++ more) bytes

-- the digits of a line `H hex`
abbrev pub digits_in : List ℕ → List ℕ
digits_in line = drop 2 line

-- B makes LEN bytes, H puts the bytes that its digits write after those that are there, Q writes one byte and nothing past the end.
abbrev pub bytes_after : Kind → List ℕ → List ℕ → List ℕ
bytes_after (Fresh n call) line bytes = bytes
bytes_after (Make call) line bytes = bytes
bytes_after (Put index value) line bytes = bytes
bytes_after (Length n) line bytes = bytes
bytes_after (Bytes n) line bytes = replicate n left_byte
bytes_after Add line bytes = added_to bytes (hex_bytes (digits_in line))
bytes_after (PutByte index value) line bytes = set bytes index (value % 256)
bytes_after (Last number) line bytes = bytes
bytes_after Unreadable line bytes = bytes

-- O makes the last number this one.
abbrev pub last_after : Kind → ℕ → ℕ
last_after (Fresh n call) last = last
last_after (Make call) last = last
last_after (Put index value) last = last
last_after (Length n) last = last
last_after (Bytes n) last = last
last_after Add last = last
last_after (PutByte index value) last = last
last_after (Last number) last = number
last_after Unreadable last = last

-- what is held when the line's call is made
abbrev pub altered_by : Kind → List ℕ → Lent → Lent
altered_by kind line lent =
    lent_of (buffer_after kind lent.words) (bytes_after kind line lent.bytes) (last_after kind lent.last)

-- An array has room for the most that is held, and no more than that is.
pub record Held {A : Type 0} (most : ℕ) (array : List A) (used : ℕ) : Type 0 where
  pub room : length array ≡ most
  pub within : used ≤ most

-- .. and it is this
pub record Holds {A : Type 0} (most : ℕ) (array : List A) (used : ℕ) (what : List A) : Type 0 where
  pub held : Held most array used
  pub is : take used array ≡ what
