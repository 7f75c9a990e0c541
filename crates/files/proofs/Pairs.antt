-- Pairs in bytes, one after the other: how many, their numbers at places, and whether their keys rise.
use mathlib.Core.Path.{◌≡◌, refl, sym, ap, ◌∙◌}
use mathlib.Core.Bool.{Bool, true, false, ◌&&◌}
use mathlib.Core.List.{List, [], ◌∷◌, ◌++◌}
use Prim.Native.Nat.{ℕ, zero, suc, ◌+◌, ◌*◌, ◌-◌, ◌≤◌, ◌<◌}
use native.Mathlib.Omega.{arith}
use lib.Dec.{ltb}
use lib.ListN.{length, get_or, drop, length-drop}
use lib.Seq.{drop-drop}
use borrow.Author.Tests.{lt-ltb, le-ltb, le-leb, lt-leb}
use Rattle.files.specs.Files.{Pair, big_endian, number_at, entries_start, width_in, count_in, pair_bytes, pairs_from, pairs_in, rising}
use Rattle.files.proofs.Numbers.{Bytes, bytes_drop}
use Rattle.files.proofs.Parts.{number_first}

-- the pair at place f + 8 i: pair i of those from place f on
abbrev pub pair_at : List ℕ → ℕ → ℕ → Pair
pair_at bytes f i = record { key = number_at 4 (f + 8 * i) bytes; value = number_at 4 (f + 8 * i + 4) bytes }

pub pairs_length : (n : ℕ) (bytes : List ℕ) → length (pairs_from n bytes) ≡ n
unfolding pairs_from
pairs_length zero bytes = refl
pairs_length (suc n) bytes = ap suc (pairs_length n (drop 8 bytes))

pub pairs_in_length : (bytes : List ℕ) → length (pairs_in bytes) ≡ count_in bytes
unfolding pairs_in
pairs_in_length bytes = pairs_length (count_in bytes) (drop (entries_start + width_in bytes) bytes)

-- the first of some pairs that begin with pair i, and the others
pairs_begin :
    (bytes : List ℕ) (f i n : ℕ) → pairs_from (suc n) (drop (f + 8 * i) bytes) ≡ pair_at bytes f i ∷ pairs_from n (drop (f + 8 * (i + 1)) bytes)
unfolding pairs_from
pairs_begin bytes f i n =
    let next : f + 8 * i + 8 ≡ f + 8 * (i + 1) = omega arith in
    rw (drop-drop 4 (f + 8 * i) bytes, drop-drop 8 (f + 8 * i) bytes, next) refl

pub pairs_next :
    (bytes : List ℕ) (f i n : ℕ) → i < n →
    pairs_from (n - i) (drop (f + 8 * i) bytes) ≡ pair_at bytes f i ∷ pairs_from (n - (i + 1)) (drop (f + 8 * (i + 1)) bytes)
pairs_next bytes f i n h =
    let more : n - i ≡ suc (n - (i + 1)) = omega arith in
    ap (λ m. pairs_from m (drop (f + 8 * i) bytes)) more ∙ pairs_begin bytes f i (n - (i + 1))

pub pairs_none : (bytes : List ℕ) (f i n : ℕ) → n ≤ i → pairs_from (n - i) (drop (f + 8 * i) bytes) ≡ []
unfolding pairs_from
pairs_none bytes f i n h =
    let none : n - i ≡ 0 = omega arith in
    ap (λ m. pairs_from m (drop (f + 8 * i) bytes)) none

-- the last of some pairs that begin with pair i, and those before
pairs_end :
    (bytes : List ℕ) (f n i : ℕ) {j : ℕ} → j ≡ i + n →
    pairs_from (suc n) (drop (f + 8 * i) bytes) ≡ pairs_from n (drop (f + 8 * i) bytes) ++ (pair_at bytes f j ∷ [])
unfolding pairs_from
pairs_end bytes f zero i e =
    let here : i ≡ i + 0 = omega arith in
    pairs_begin bytes f i 0 ∙ ap (λ k. pair_at bytes f k ∷ []) (here ∙ sym e)
pairs_end bytes f (suc n) i {j} e =
    pairs_begin bytes f i (suc n)
    ∙ ap (λ (l : List Pair). pair_at bytes f i ∷ l) (pairs_end bytes f n (i + 1) {j = j} (omega arith))
    ∙ ap (λ (l : List Pair). l ++ (pair_at bytes f j ∷ [])) (sym (pairs_begin bytes f i n))

-- n + 1 pairs are n pairs and pair n
pub pairs_more : (bytes : List ℕ) (f n : ℕ) → pairs_from (suc n) (drop f bytes) ≡ pairs_from n (drop f bytes) ++ (pair_at bytes f n ∷ [])
pairs_more bytes f n =
    let start : f ≡ f + 8 * 0 = omega arith in
    ap (λ i. pairs_from (suc n) (drop i bytes)) start
    ∙ pairs_end bytes f n 0 {j = n} (omega arith)
    ∙ ap (λ i. pairs_from n (drop i bytes) ++ (pair_at bytes f n ∷ [])) (sym start)

pairs_member : (bytes : List ℕ) (f n i j : ℕ) (z : Pair) → j < n → get_or (pairs_from n (drop (f + 8 * i) bytes)) j z ≡ pair_at bytes f (i + j)
pairs_member bytes f zero i j z h = absurd (omega arith)
pairs_member bytes f (suc n) i zero z h =
    let here : i ≡ i + 0 = omega arith in
    ap (λ (l : List Pair). get_or l 0 z) (pairs_begin bytes f i n) ∙ ap (pair_at bytes f) here
pairs_member bytes f (suc n) i (suc j) z h =
    let there : i + 1 + j ≡ i + suc j = omega arith in
    ap (λ (l : List Pair). get_or l (suc j) z) (pairs_begin bytes f i n) ∙ pairs_member bytes f n (i + 1) j z (omega arith) ∙ ap (pair_at bytes f) there

-- member i of the pairs in a file is pair i
pub pair_at_lem : (bytes : List ℕ) (i : ℕ) (z : Pair) → i < count_in bytes → get_or (pairs_in bytes) i z ≡ pair_at bytes (entries_start + width_in bytes) i
unfolding pairs_in
pair_at_lem bytes i z h =
    let f = entries_start + width_in bytes in
    let here : 0 + i ≡ i = omega arith in
    let start : f ≡ f + 8 * 0 = omega arith in
    ap (λ j. get_or (pairs_from (count_in bytes) (drop j bytes)) i z) start ∙ pairs_member bytes f (count_in bytes) 0 i z h ∙ ap (pair_at bytes f) here

-- as many bytes as n pairs have are the bytes of the n pairs read there
pub pairs_are : (n : ℕ) (bytes : List ℕ) → Bytes bytes → length bytes ≡ 8 * n → pair_bytes (pairs_from n bytes) ≡ bytes
unfolding pair_bytes pairs_from
pairs_are zero [] b e = refl
pairs_are zero (byte ∷ bytes) b e = absurd (omega arith)
pairs_are (suc n) bytes b e =
    let rest = drop 8 bytes in
    rw (pairs_are n rest (bytes_drop 8 bytes b) (omega (arith, length-drop 8 bytes)))
    (sym (number_first bytes b 0 4 {j = 4} (omega arith) (omega arith)
    ∙ ap (λ (l : List ℕ). big_endian 4 (number_at 4 0 bytes) ++ l) (number_first bytes b 4 4 {j = 8} (omega arith) (omega arith))))

-- Keys that rise

rising_low : (below K : ℕ) (p : Pair) (pairs : List Pair) → p.key ≤ below → rising below K (p ∷ pairs) ≡ false
unfolding rising
rising_low below K p pairs h = rw (le-ltb below p.key h) refl

rising_high : (below K : ℕ) (p : Pair) (pairs : List Pair) → K < p.key → rising below K (p ∷ pairs) ≡ false
unfolding rising
rising_high below K p pairs h = rw (lt-leb p.key K h) (at (ltb below p.key))
  where
    at : (t : Bool) → (t && false && rising p.key K pairs) ≡ false
    at true = refl
    at false = refl

rising_on : (below K : ℕ) (p : Pair) (pairs : List Pair) → below < p.key → p.key ≤ K → rising below K (p ∷ pairs) ≡ rising p.key K pairs
unfolding rising
rising_on below K p pairs h k = rw (lt-ltb below p.key h, le-leb p.key K k) refl

pub rising_ends : (bytes : List ℕ) (f below K i n : ℕ) → n ≤ i → rising below K (pairs_from (n - i) (drop (f + 8 * i) bytes)) ≡ true
unfolding rising
rising_ends bytes f below K i n h = ap (rising below K) (pairs_none bytes f i n h)

module _ (bytes : List ℕ) (f below K i n : ℕ) (more : i < n) {key : ℕ} (is : key ≡ number_at 4 (f + 8 * i) bytes) where
  first : rising below K (pairs_from (n - i) (drop (f + 8 * i) bytes)) ≡ rising below K (pair_at bytes f i ∷ pairs_from (n - (i + 1)) (drop (f + 8 * (i + 1)) bytes))
  first = ap (rising below K) (pairs_next bytes f i n more)

  pub rising_stops_low : key ≤ below → rising below K (pairs_from (n - i) (drop (f + 8 * i) bytes)) ≡ false
  rising_stops_low h = first ∙ rising_low below K (pair_at bytes f i) (pairs_from (n - (i + 1)) (drop (f + 8 * (i + 1)) bytes)) (omega arith)

  pub rising_stops_high : K < key → rising below K (pairs_from (n - i) (drop (f + 8 * i) bytes)) ≡ false
  rising_stops_high k = first ∙ rising_high below K (pair_at bytes f i) (pairs_from (n - (i + 1)) (drop (f + 8 * (i + 1)) bytes)) (omega arith)

  pub rising_turn :
      below < key → key ≤ K →
      rising below K (pairs_from (n - i) (drop (f + 8 * i) bytes)) ≡ rising key K (pairs_from (n - (i + 1)) (drop (f + 8 * (i + 1)) bytes))
  rising_turn h k =
      first
      ∙ rising_on below K (pair_at bytes f i) (pairs_from (n - (i + 1)) (drop (f + 8 * (i + 1)) bytes)) (omega arith) (omega arith)
      ∙ ap (λ b. rising b K (pairs_from (n - (i + 1)) (drop (f + 8 * (i + 1)) bytes))) (sym is)
