-- Writing: runs of bytes stored one behind the other are one run, and so the bytes before the pairs, a pair, and the whole file.
use mathlib.Core.Path.{◌≡◌, refl, sym, ap, ◌∙◌}
use mathlib.Core.List.{List, [], ◌∷◌, ◌++◌, append_assoc, append-nil}
use Prim.Native.Nat.{ℕ, suc, ◌+◌, ◌*◌}
use native.Mathlib.Numerals.{add-one}
use native.Mathlib.Omega.{arith}
use lib.ListN.{length, set, length-append}
use lib.Seq.{sets}
use Rattle.lists.proofs.Sets.{sets_append}
use Rattle.settings.specs.declared.Settings.{Settings}
use Rattle.files.specs.Files.{Pair, big_endian, body_at, settings_body, pair_bytes, tag_for, count_width, entries_start, before, file_length, table_of, front_of, file_of}
use Rattle.files.proofs.Numbers.{big_endian_length}
use Rattle.files.proofs.Table.{body_length, table_length}

sets_next : (l xs ys : List ℕ) (i : ℕ) {j : ℕ} → j ≡ i + length xs → sets (sets l i xs) j ys ≡ sets l i (xs ++ ys)
sets_next l xs ys i e = rw e (sym (sets_append l xs ys i))

pub body_written :
    (l : List ℕ) (i tag offset long : ℕ) →
    sets (sets (set l i tag) (i + 1) (big_endian 4 offset)) (i + 5) (big_endian 4 long) ≡ sets l i (body_at tag offset long)
body_written l i tag offset long =
    rw (add-one i) (sets_next (set l i tag) (big_endian 4 offset) (big_endian 4 long) (suc i) (omega (arith, big_endian_length 4 offset)))

pub table_written :
    (l : List ℕ) (n : ℕ) {tag width : ℕ} → tag ≡ tag_for n → width ≡ count_width tag →
    sets (sets (set l 0 2) 1 (body_at 1 19 12)) 10 (body_at tag entries_start (width + 8 * n)) ≡ sets l 0 (table_of n)
table_written l n {tag} {width} p q =
    rw (q, p) (sets_next (set l 0 2) (body_at 1 19 12) (body_at (tag_for n) entries_start (count_width (tag_for n) + 8 * n)) 1 (omega (arith, body_length 1 19 12)))

pub settings_written :
    (l : List ℕ) (s : Settings) →
    sets (sets (sets l 19 (big_endian 4 s.dimensions)) 23 (big_endian 4 s.largest)) 27 (big_endian 4 s.cells) ≡ sets l 19 (settings_body s)
settings_written l s =
    let d = big_endian 4 s.dimensions in
    let k = big_endian 4 s.largest in
    let c = big_endian 4 s.cells in
    sets_next (sets l 19 d) k c 23 (omega (arith, big_endian_length 4 s.largest))
    ∙ sets_next l d (k ++ c) 19 (omega (arith, big_endian_length 4 s.dimensions))

pub settings_length : (s : Settings) → length (settings_body s) ≡ 12
settings_length s =
    let d = big_endian 4 s.dimensions in
    let k = big_endian 4 s.largest in
    let c = big_endian 4 s.cells in
    omega (arith, length-append d (k ++ c), length-append k c, big_endian_length 4 s.dimensions, big_endian_length 4 s.largest, big_endian_length 4 s.cells)

-- the number of n pairs, in the bytes that it has under its tag
abbrev pub count_of : ℕ → List ℕ
count_of n = big_endian (count_width (tag_for n)) n

pub front_written :
    (l : List ℕ) (s : Settings) (n : ℕ) → sets (sets (sets l 0 (table_of n)) 19 (settings_body s)) entries_start (count_of n) ≡ sets l 0 (front_of s n)
unfolding front_of
front_written l s n =
    sets_next (sets l 0 (table_of n)) (settings_body s) (count_of n) 19 (omega (arith, settings_length s))
    ∙ sets_next l (table_of n) (settings_body s ++ count_of n) 0 (omega (arith, table_length n))

pub pair_written :
    (l : List ℕ) (i key value : ℕ) →
    sets (sets l i (big_endian 4 key)) (i + 4) (big_endian 4 value) ≡ sets l i (pair_bytes (record { key = key; value = value } ∷ []))
unfolding pair_bytes
pair_written l i key value =
    rw (append-nil (big_endian 4 value)) (sets_next l (big_endian 4 key) (big_endian 4 value) i (omega (arith, big_endian_length 4 key)))

-- Lengths

pub front_length : (s : Settings) (n : ℕ) → length (front_of s n) ≡ before n
unfolding front_of
front_length s n =
    omega (
      arith,
      length-append (table_of n) (settings_body s ++ count_of n),
      length-append (settings_body s) (count_of n),
      table_length n,
      settings_length s,
      big_endian_length (count_width (tag_for n)) n,
    )

pub pair_bytes_length : (pairs : List Pair) → length (pair_bytes pairs) ≡ 8 * length pairs
unfolding pair_bytes
pair_bytes_length [] = refl
pair_bytes_length (p ∷ pairs) =
    let k = big_endian 4 p.key in
    let v = big_endian 4 p.value in
    omega (
      arith,
      length-append k (v ++ pair_bytes pairs),
      length-append v (pair_bytes pairs),
      big_endian_length 4 p.key,
      big_endian_length 4 p.value,
      pair_bytes_length pairs,
    )

pub file_length_lem : (s : Settings) (pairs : List Pair) → length (file_of s pairs) ≡ file_length (length pairs)
unfolding file_of
file_length_lem s pairs =
    omega (arith, length-append (front_of s (length pairs)) (pair_bytes pairs), front_length s (length pairs), pair_bytes_length pairs)

-- The whole file

pub pair_bytes_append : (pairs more : List Pair) → pair_bytes (pairs ++ more) ≡ pair_bytes pairs ++ pair_bytes more
unfolding pair_bytes
pair_bytes_append [] more = refl
pair_bytes_append (p ∷ pairs) more =
    let k = big_endian 4 p.key in
    let v = big_endian 4 p.value in
    rw (pair_bytes_append pairs more)
    (sym (append_assoc k (v ++ pair_bytes pairs) (pair_bytes more) ∙ ap (λ (l : List ℕ). k ++ l) (append_assoc v (pair_bytes pairs) (pair_bytes more))))
