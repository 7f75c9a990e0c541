-- What a file is: the bytes that writing settings and pairs gives. Bytes are read by the numbers at their places, and are a file exactly if
-- writing those numbers gives the same bytes.
use Rattle.std.specs.Prelude.{Bool, true, cond, ◌&&◌, List, [], ◌∷◌, ◌++◌, ℕ, zero, suc, ◌+◌, ◌*◌, ◌/◌, ◌%◌, eqb, leb, ltb, length, get_or, take, drop, None, Option, Some}
use Rattle.settings.specs.Numbers.{in_range}
use Rattle.settings.specs.Checked.{settings_of}
use Rattle.settings.specs.declared.Settings.{Settings}
use Rattle.lists.specs.Lists.{same}

-- a key with its value
pub record Pair : Type 0 where
  pub key : ℕ
  pub value : ℕ

-- Writing

-- Files 1: a number in n bytes, the most significant first
unfoldable pub big_endian : ℕ → ℕ → List ℕ
big_endian zero v = []
big_endian (suc n) v = big_endian n (v / 256) ++ (v % 256 ∷ [])

-- Files 2: a body in the table of contents: its tag, its offset from the start of the file, its length
abbrev pub body_at : ℕ → ℕ → ℕ → List ℕ
body_at tag offset long = tag ∷ (big_endian 4 offset ++ big_endian 4 long)

-- Files 3: D, K and C
abbrev pub settings_body : Settings → List ℕ
settings_body s = big_endian 4 s.dimensions ++ (big_endian 4 s.largest ++ big_endian 4 s.cells)

-- Files 4: key and value of each pair, ..
unfoldable pub pair_bytes : List Pair → List ℕ
pair_bytes [] = []
pair_bytes (p ∷ pairs) = big_endian 4 p.key ++ (big_endian 4 p.value ++ pair_bytes pairs)

-- Files 4: .. and before them their number n, in two bytes under tag 2 or in four under tag 3
abbrev pub most_under_tag2 : ℕ
most_under_tag2 = 65535

unfoldable pub tag_for : ℕ → ℕ
tag_for n = cond (leb n most_under_tag2) 2 3

-- the bytes of the number follow the tag
unfoldable pub count_width : ℕ → ℕ
count_width tag = cond (eqb tag 3) 4 2

-- Files 2: where the bodies begin: the settings behind the table of contents, the entries behind the settings' twelve bytes
abbrev pub settings_start : ℕ
settings_start = 19

abbrev pub entries_start : ℕ
entries_start = 31

-- the bytes before n pairs, the place of pair i of n, and the bytes of the whole file
abbrev pub before : ℕ → ℕ
before n = entries_start + count_width (tag_for n)

abbrev pub place : ℕ → ℕ → ℕ
place n i = before n + 8 * i

abbrev pub file_length : ℕ → ℕ
file_length n = place n n

-- Files 2: the table of contents of a file with n pairs: two bodies
abbrev pub table_of : ℕ → List ℕ
table_of n = 2 ∷ (body_at 1 settings_start 12 ++ body_at (tag_for n) entries_start (count_width (tag_for n) + 8 * n))

-- Files 2 to 4: what stands before the pairs: the table of contents, the settings, the number n of the pairs
unfoldable pub front_of : Settings → ℕ → List ℕ
front_of s n = table_of n ++ (settings_body s ++ big_endian (count_width (tag_for n)) n)

-- Files 2: no gaps, and nothing after the last pair
unfoldable pub file_of : Settings → List Pair → List ℕ
file_of s pairs = front_of s (length pairs) ++ pair_bytes pairs

-- Reading

-- the number that bytes are, the most significant first, after the digits before
unfoldable pub number_on : ℕ → List ℕ → ℕ
number_on v [] = v
number_on v (byte ∷ bytes) = number_on (v * 256 + byte) bytes

-- the number in n bytes from place i on
abbrev pub number_at : ℕ → ℕ → List ℕ → ℕ
number_at n i bytes = number_on 0 (take n (drop i bytes))

abbrev pub settings_in : List ℕ → Settings
settings_in bytes = settings_of (number_at 4 19 bytes) (number_at 4 23 bytes) (number_at 4 27 bytes)

-- the bytes of the number of the pairs, by the tag of the second body, and the number in them
abbrev pub width_in : List ℕ → ℕ
width_in bytes = count_width (get_or bytes 10 0)

abbrev pub count_in : List ℕ → ℕ
count_in bytes = number_at (width_in bytes) entries_start bytes

-- n pairs from the start of some bytes on
unfoldable pub pairs_from : ℕ → List ℕ → List Pair
pairs_from zero bytes = []
pairs_from (suc n) bytes = record { key = number_at 4 0 bytes; value = number_at 4 4 bytes } ∷ pairs_from n (drop 8 bytes)

unfoldable pub pairs_in : List ℕ → List Pair
pairs_in bytes = pairs_from (count_in bytes) (drop (entries_start + width_in bytes) bytes)

-- Files 5: keys above `below`, each above the one before, up to K
unfoldable pub rising : ℕ → ℕ → List Pair → Bool
rising below K [] = true
rising below K (p ∷ pairs) = ltb below p.key && leb p.key K && rising p.key K pairs

-- Files 5: what may be kept with these settings: numbers in range, keys strictly ascending from 1 to K, fewer than the cells
unfoldable pub keeps : Settings → List Pair → Bool
keeps s pairs = in_range s.dimensions s.largest s.cells && ltb (length pairs) s.cells && rising 0 s.largest pairs

-- Files 5: bytes are a file if they may be kept and are what writing them gives.
unfoldable pub is_file : List ℕ → Bool
is_file bytes = keeps (settings_in bytes) (pairs_in bytes) && same (file_of (settings_in bytes) (pairs_in bytes)) bytes

-- what bytes are read as
unfoldable pub contents_of : List ℕ → Option (Settings × ℕ)
contents_of bytes = cond (is_file bytes) (Some (settings_in bytes, length (pairs_in bytes))) None
