-- Numbers in bytes: what is written is what is read, for a number that fits and for bytes that are bytes.
use mathlib.Core.Path.{◌≡◌, refl, sym, ap, ◌∙◌}
use mathlib.Core.List.{List, [], ◌∷◌, ◌++◌}
use Prim.Native.Nat.{ℕ, zero, suc, ◌+◌, ◌*◌, ◌-◌, ◌/◌, ◌%◌, ◌^◌, ◌≤◌, ◌<◌}
use native.Mathlib.Nat.{pow-suc}
use native.Mathlib.Omega.{arith}
use lib.Dec.{eqb}
use lib.ListN.{length, get_or, take, drop, replicate, length-append}
use lib.Seq.{take-suc, take_all, get_or-drop}
use borrow.Author.Tests.{eq-eqb, eqb-true}
use borrow.Rule.Slice.PartMut.{mid_of, put_mid}
use Rattle.std.specs.Int.{w32, from_be_bytes, to_be_bytes}
use Rattle.lists.specs.Lists.{same}
use Rattle.lists.proofs.Tests.{tests_same}
use Rattle.lists.proofs.Same.{same_refl, same_eq}
use Rattle.lists.proofs.All.{All, all_append}
use Rattle.files.specs.Files.{big_endian, number_on}

-- each member is a byte
abbrev pub Bytes : List ℕ → Type 0
Bytes bytes = (i : ℕ) → get_or bytes i 0 < 256

pub bytes_drop : (n : ℕ) (bytes : List ℕ) → Bytes bytes → Bytes (drop n bytes)
bytes_drop n bytes b i = rw (get_or-drop n bytes i 0) (b (n + i))

pub bytes_take : (n : ℕ) (bytes : List ℕ) → Bytes bytes → Bytes (take n bytes)
bytes_take zero bytes b i = omega arith
bytes_take (suc n) [] b i = omega arith
bytes_take (suc n) (byte ∷ bytes) b zero = b 0
bytes_take (suc n) (byte ∷ bytes) b (suc i) = bytes_take n bytes (λ j. b (suc j)) i

pub bytes_all : (bytes : List ℕ) → All (λ byte. byte < 256) bytes → Bytes bytes
bytes_all [] a i = omega arith
bytes_all (byte ∷ bytes) a zero = a.0
bytes_all (byte ∷ bytes) a (suc i) = bytes_all bytes a.1 i

-- Writing

pub big_endian_length : (n v : ℕ) → length (big_endian n v) ≡ n
unfolding big_endian
big_endian_length zero v = refl
big_endian_length (suc n) v = omega (arith, length-append (big_endian n (v / 256)) (v % 256 ∷ []), big_endian_length n (v / 256))

pub big_endian_bytes : (n v : ℕ) → All (λ byte. byte < 256) (big_endian n v)
unfolding big_endian
big_endian_bytes zero v = tt
big_endian_bytes (suc n) v =
    let least : v % 256 < 256 = omega arith in
    all_append (λ byte. byte < 256) (big_endian n (v / 256)) (v % 256 ∷ []) (big_endian_bytes n (v / 256)) (least, tt)

-- Reading

number_snoc : (u byte : ℕ) (bytes : List ℕ) → number_on u (bytes ++ (byte ∷ [])) ≡ number_on u bytes * 256 + byte
unfolding number_on
number_snoc u byte [] = refl
number_snoc u byte (first ∷ bytes) = number_snoc (u * 256 + first) byte bytes

-- one byte more
pub number_more : (bytes : List ℕ) (n : ℕ) → n < length bytes → number_on 0 (take (suc n) bytes) ≡ number_on 0 (take n bytes) * 256 + get_or bytes n 0
number_more bytes n h = rw (take-suc bytes n 0 h) (number_snoc 0 (get_or bytes n 0) (take n bytes))

pub number_below : (bytes : List ℕ) → Bytes bytes → (n : ℕ) → n ≤ length bytes → number_on 0 (take n bytes) < 256 ^ n
unfolding number_on
number_below bytes b zero h = omega arith
number_below bytes b (suc n) h = omega (arith, number_more bytes n h, number_below bytes b n (omega arith), b n, pow-suc 256 n)

-- Written and read

pub number_written : (n v : ℕ) → v < 256 ^ n → number_on 0 (big_endian n v) ≡ v
unfolding big_endian number_on
number_written zero v h = omega arith
number_written (suc n) v h =
    let p = pow-suc 256 n in
    let high : v / 256 < 256 ^ n = omega arith in
    number_snoc 0 (v % 256) (big_endian n (v / 256)) ∙ omega (arith, number_written n (v / 256) high)

pub written_front : (bytes : List ℕ) → Bytes bytes → (n : ℕ) → n ≤ length bytes → big_endian n (number_on 0 (take n bytes)) ≡ take n bytes
unfolding big_endian
written_front bytes b zero h = refl
written_front bytes b (suc n) h =
    let v = number_on 0 (take n bytes) in
    let byte = get_or bytes n 0 in
    let is = b n in
    let high : (v * 256 + byte) / 256 ≡ v = omega arith in
    let low : (v * 256 + byte) % 256 ≡ byte = omega arith in
    rw (number_more bytes n h, high, low, written_front bytes b n (omega arith)) (sym (take-suc bytes n 0 h))

-- the bytes of the number that bytes are
pub written_number : (bytes : List ℕ) → Bytes bytes → (n : ℕ) → length bytes ≡ n → big_endian n (number_on 0 bytes) ≡ bytes
written_number bytes b n h =
    let all = take_all n bytes (omega arith) in
    ap (λ l. big_endian n (number_on 0 l)) (sym all) ∙ written_front bytes b n (omega arith) ∙ all

-- to compare the bytes is to compare the numbers
pub number_same : (bytes : List ℕ) → Bytes bytes → (n v : ℕ) → length bytes ≡ n → v < 256 ^ n → same (big_endian n v) bytes ≡ eqb (number_on 0 bytes) v
number_same bytes b n v long fits =
    tests_same (same (big_endian n v) bytes) (eqb (number_on 0 bytes) v)
    (λ t. eq-eqb (number_on 0 bytes) v (ap (number_on 0) (sym (same_eq (big_endian n v) bytes t)) ∙ number_written n v fits))
    (λ t. rw (← eqb-true (number_on 0 bytes) v t, written_number bytes b n long) (same_refl bytes))

-- The library's four bytes of a number

-- some bytes, behind as many zeros as make them four
pub number_of_four :
    (part : List ℕ) {ys : List ℕ} → length part ≤ 4 → ys ≡ part →
    from_be_bytes w32 (put_mid (4 - length part) (4 - (4 - length part)) (replicate 4 0) ys) ≡ number_on 0 part
unfolding number_on
number_of_four part {ys} few e = rw e (at part few)
  where
    at : (xs : List ℕ) → length xs ≤ 4 → from_be_bytes w32 (put_mid (4 - length xs) (4 - (4 - length xs)) (replicate 4 0) xs) ≡ number_on 0 xs
    at [] h = refl
    at (a ∷ []) h = omega arith
    at (a ∷ b ∷ []) h = omega arith
    at (a ∷ b ∷ c ∷ []) h = omega arith
    at (a ∷ b ∷ c ∷ d ∷ []) h = omega arith
    at (a ∷ b ∷ c ∷ d ∷ e ∷ xs) h = absurd (omega arith)

-- the last n of them
pub last_of_four :
    {n : ℕ} (v : ℕ) {four part : List ℕ} → n ≤ 4 → four ≡ to_be_bytes w32 v → part ≡ mid_of (4 - n) (4 - (4 - n)) four → part ≡ big_endian n v
unfolding big_endian
last_of_four {n} v few is e = e ∙ rw is (at n few)
  where
    two : v / 65536 ≡ v / 256 / 256
    two = omega arith

    three : v / 16777216 ≡ v / 256 / 256 / 256
    three = omega arith

    at : (n : ℕ) → n ≤ 4 → mid_of (4 - n) (4 - (4 - n)) (to_be_bytes w32 v) ≡ big_endian n v
    at zero h = refl
    at (suc zero) h = refl
    at (suc (suc zero)) h = refl
    at (suc (suc (suc zero))) h = rw two refl
    at (suc (suc (suc (suc zero)))) h = rw (three, two) refl
    at (suc (suc (suc (suc (suc n))))) h = absurd (omega arith)
