-- What the programs print: refusal, key, value, count (The order program 1). A number is decimal, with no leading zeros.
use Rattle.std.specs.Prelude.{cond, List, [], ◌∷◌, ◌++◌, ◌≡◌, ℕ, zero, suc, ◌+◌, ◌*◌, ◌/◌, ◌%◌, ltb, length}
use Rattle.std.proofs.lemmas.List.Edits.{sets}
use Rattle.answers.specs.declared.Answer.{Answer}
use Rattle.text.specs.Fields.{space}
use Rattle.text.specs.Lines.{line_feed}

-- the most digits of a number of 64 bits
abbrev pub most_digits : ℕ
most_digits = 20

-- a number's digits as bytes, at most so many of them
unfoldable pub decimal_in : ℕ → ℕ → List ℕ
decimal_in zero n = []
decimal_in (suc most) n = cond (ltb n 10) ((48 + n) ∷ []) (decimal_in most (n / 10) ++ ((48 + n % 10) ∷ []))

abbrev pub decimal : ℕ → List ℕ
decimal n = decimal_in most_digits n

-- refusal, key, value and count with a space between, and a byte after them
unfoldable pub answer_text : Answer → ℕ → List ℕ
answer_text a after =
    decimal a.refusal
    ++ (space ∷ (decimal a.key ++ (space ∷ (decimal a.value ++ (space ∷ (decimal a.count ++ (after ∷ [])))))))

-- the room for a number of 64 bits and a byte after it
abbrev pub field_bytes : ℕ
field_bytes = most_digits + 1

-- the room for refusal, key, value and count
abbrev pub answer_bytes : ℕ
answer_bytes = 4 * field_bytes

-- the room for an answer and a checksum
abbrev pub checked_bytes : ℕ
checked_bytes = answer_bytes + field_bytes

-- Bytes have been put at `at`, and every other byte is as it was: r is the index after them.
pub record Put (before : List ℕ) (at : ℕ) (bytes after : List ℕ) (r : ℕ) : Type 0 where
  pub is : after ≡ sets before at bytes
  pub end : r ≡ at + length bytes

-- The checksum of a buffer's words, as the replay has it: for each word in order h becomes (h x 1,000,003 + word) mod 2,147,483,647, ..
unfoldable pub checksum_from : ℕ → List ℕ → ℕ
checksum_from h [] = h
checksum_from h (w ∷ ws) = checksum_from ((h * 1000003 + w) % 2147483647) ws

-- .. and h starts at the number of words
abbrev pub checksum_of : List ℕ → ℕ
checksum_of ws = checksum_from (length ws) ws

-- what elements convert into, one by one
unfoldable pub Converted : {A : Type 0} → (A → ℕ → Type 0) → List A → List ℕ → Type 0
Converted converts [] [] = Unit {0}
Converted converts [] (n ∷ ns) = ⊥
Converted converts (x ∷ xs) [] = ⊥
Converted converts (x ∷ xs) (n ∷ ns) = converts x n × Converted converts xs ns

-- The checksum of words or bytes, as the numbers that they convert into.
pub record ChecksumOf {A : Type 0} (converts : A → ℕ → Type 0) (part : List A) (r : ℕ) : Type 0 where
  pub numbers : List ℕ
  pub converted : Converted converts part numbers
  pub is : r ≡ checksum_of numbers

-- the end of a line that tells of a buffer's words: their checksum and a line feed
unfoldable pub checksum_text : List ℕ → List ℕ
checksum_text ws = decimal (checksum_of ws) ++ (line_feed ∷ [])

-- a line that tells of a call: its answer, and the checksum of the words that it leaves
unfoldable pub checked_text : Answer → List ℕ → List ℕ
checked_text a ws = answer_text a space ++ checksum_text ws
