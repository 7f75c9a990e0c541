-- Files: the parts of one, that reading undoes writing, and what the tests of a file say together.
use Rattle.std.specs.Prelude.{None, Some}
use mathlib.Core.Path.{◌≡◌, refl, sym, ap, ap₂, ◌∙◌}
use mathlib.Core.Bool.{Bool, true, false, ◌&&◌}
use mathlib.Core.List.{List, [], ◌∷◌, ◌++◌, append_assoc}
use Prim.Native.Nat.{ℕ, ◌+◌, ◌*◌, ◌≤◌, ◌<◌}
use native.Mathlib.Omega.{arith}
use lib.Dec.{leb, ltb}
use lib.ListN.{length, take, drop, length-drop, take-append-drop}
use lib.Seq.{take_at, drop_at}
use borrow.Author.Tests.{ltb-true, leb-true, lt-ltb}
use Rattle.lists.specs.Lists.{same}
use Rattle.lists.proofs.Tests.{both}
use Rattle.lists.proofs.Same.{same_refl, same_eq}
use Rattle.lists.proofs.All.{All, all_append, all_zip, every_all}
use Rattle.settings.specs.Numbers.{in_range}
use Rattle.settings.specs.declared.Settings.{Settings}
use Rattle.settings.proofs.Numbers.{ranges}
use Rattle.files.specs.Files.{Pair, big_endian, body_at, settings_body, pair_bytes, tag_for, count_width, entries_start, before, file_length, table_of, front_of, file_of}
use Rattle.files.specs.Files.{number_at, settings_in, width_in, count_in, pairs_from, pairs_in, rising, keeps, is_file, contents_of}
use Rattle.files.specs.Promises.{Kept}
use Rattle.files.proofs.Numbers.{Bytes, bytes_drop, bytes_all, big_endian_bytes}
use Rattle.files.proofs.Parts.{number_there, next_there, number_first}
use Rattle.files.proofs.Tags.{tag_byte, count_fits}
use Rattle.files.proofs.Table.{body_bytes, table_length, table_tag}
use Rattle.files.proofs.Written.{count_of, file_length_lem}
use Rattle.files.proofs.Pairs.{pairs_in_length, pairs_are}

-- The parts of a file: the table of contents, the settings' three numbers, the number of the pairs, the pairs

pub file_parts :
    (s : Settings) (pairs : List Pair) →
    file_of s pairs
    ≡ table_of (length pairs)
    ++ (big_endian 4 s.dimensions ++ (big_endian 4 s.largest ++ (big_endian 4 s.cells ++ (count_of (length pairs) ++ pair_bytes pairs))))
unfolding file_of front_of
file_parts s pairs =
    let table = table_of (length pairs) in
    let d = big_endian 4 s.dimensions in
    let k = big_endian 4 s.largest in
    let c = big_endian 4 s.cells in
    let n = count_of (length pairs) in
    let rest = n ++ pair_bytes pairs in
    append_assoc table (settings_body s ++ n) (pair_bytes pairs)
    ∙ ap (λ (l : List ℕ). table ++ l) (
    append_assoc (settings_body s) n (pair_bytes pairs)
    ∙ append_assoc d (k ++ c) rest
    ∙ ap (λ (l : List ℕ). d ++ l) (append_assoc k c rest)
    )

pair_bytes_bytes : (pairs : List Pair) → All (λ byte. byte < 256) (pair_bytes pairs)
unfolding pair_bytes
pair_bytes_bytes [] = tt
pair_bytes_bytes (p ∷ pairs) =
    let k = big_endian 4 p.key in
    let v = big_endian 4 p.value in
    all_append (λ byte. byte < 256) k (v ++ pair_bytes pairs) (big_endian_bytes 4 p.key)
    (all_append (λ byte. byte < 256) v (pair_bytes pairs) (big_endian_bytes 4 p.value) (pair_bytes_bytes pairs))

-- a file's bytes are bytes
pub file_bytes : (s : Settings) (pairs : List Pair) → Bytes (file_of s pairs)
file_bytes s pairs =
    let table = table_of (length pairs) in
    let d = big_endian 4 s.dimensions in
    let k = big_endian 4 s.largest in
    let c = big_endian 4 s.cells in
    let n = count_of (length pairs) in
    let r31 = n ++ pair_bytes pairs in
    let r27 = c ++ r31 in
    let r23 = k ++ r27 in
    let tag = tag_for (length pairs) in
    let all = all_append (λ byte. byte < 256) in
    let b = body_bytes in
    rw (file_parts s pairs) (bytes_all (table ++ (d ++ r23)) (
    all table (d ++ r23) (
      omega arith,
      all (body_at 1 19 12) (body_at tag entries_start (count_width tag + 8 * length pairs)) (b 1 19 12 (omega arith))
          (b tag entries_start (count_width tag + 8 * length pairs) (tag_byte (length pairs))),
    ) (
    all d r23 (big_endian_bytes 4 s.dimensions) (
    all k r27 (big_endian_bytes 4 s.largest) (
    all c r31 (big_endian_bytes 4 s.cells) (
    all n (pair_bytes pairs) (big_endian_bytes (count_width tag) (length pairs)) (pair_bytes_bytes pairs)
    )
    )
    )
    )
    ))

-- Reading undoes writing

-- numbers that four bytes hold
abbrev Fitting : Pair → Type 0
Fitting p = (p.key < 4294967296) × (p.value < 4294967296)

pairs_written : (pairs : List Pair) → All Fitting pairs → pairs_from (length pairs) (pair_bytes pairs) ≡ pairs
unfolding pairs_from pair_bytes
pairs_written [] a = refl
pairs_written (p ∷ pairs) a =
    let v = big_endian 4 p.value in
    let rest = v ++ pair_bytes pairs in
    let bytes = big_endian 4 p.key ++ rest in
    let after = next_there bytes rest 0 4 p.key {j = 4} (omega arith) refl in
    rw (
      number_there bytes rest 0 4 p.key a.0.0 refl,
      number_there bytes (pair_bytes pairs) 4 4 p.value a.0.1 after,
      next_there bytes (pair_bytes pairs) 4 4 p.value {j = 8} (omega arith) after,
    )
    (ap (λ (l : List Pair). p ∷ l) (pairs_written pairs a.1))

rising_most : (below K : ℕ) (pairs : List Pair) → rising below K pairs ≡ true → All (λ p. p.key ≤ K) pairs
unfolding rising
rising_most below K [] e = tt
rising_most below K (p ∷ pairs) e =
    let t = both (ltb below p.key && leb p.key K) (rising p.key K pairs) e in
    let k = both (ltb below p.key) (leb p.key K) t.0 in
    (leb-true p.key K k.1, rising_most p.key K pairs t.1)

-- the tests of `keeps`, as facts
pub record Keepable (s : Settings) (pairs : List Pair) : Type 0 where
  pub ranges : in_range s.dimensions s.largest s.cells ≡ true
  pub room : length pairs < s.cells
  pub rises : rising 0 s.largest pairs ≡ true

pub keepable : (s : Settings) (pairs : List Pair) → keeps s pairs ≡ true → Keepable s pairs
unfolding keeps
keepable s pairs kept =
    let ranges = in_range s.dimensions s.largest s.cells in
    let room = ltb (length pairs) s.cells in
    let t = both (ranges && room) (rising 0 s.largest pairs) kept in
    let u = both ranges room t.0 in
    record { ranges = u.0; room = ltb-true (length pairs) s.cells u.1; rises = t.1 }

-- .. and so every number fits its bytes
record Fits (s : Settings) (pairs : List Pair) : Type 0 where
  dimensions : s.dimensions < 4294967296
  largest : s.largest < 4294967296
  cells : s.cells < 4294967296
  number : length pairs < 4294967296
  each : All Fitting pairs

fits : (s : Settings) (pairs : List Pair) → Kept s pairs → Fits s pairs
fits s pairs kept =
    let k = keepable s pairs kept.keeps_them in
    let few = k.room in
    let r = ranges s.dimensions s.largest s.cells k.ranges in
    let most = r.largest_most in
    let values = every_all (λ p. ltb p.value 4294967296) pairs kept.values in
    record {
      dimensions = omega (arith, r.dimensions_most);
      largest = omega arith;
      cells = omega (arith, r.cells_most);
      number = omega (arith, r.cells_most);
      each = all_zip (λ p key value. (omega arith, ltb-true p.value 4294967296 value)) pairs (rising_most 0 s.largest pairs k.rises) values;
    }

module _ (s : Settings) (pairs : List Pair) (kept : Kept s pairs) where
  file : List ℕ
  file = file_of s pairs

  from31 : List ℕ
  from31 = count_of (length pairs) ++ pair_bytes pairs

  from27 : List ℕ
  from27 = big_endian 4 s.cells ++ from31

  from23 : List ℕ
  from23 = big_endian 4 s.largest ++ from27

  at19 : drop 19 file ≡ big_endian 4 s.dimensions ++ from23
  unfolding file from23 from27 from31
  at19 =
      ap (drop 19) (file_parts s pairs)
      ∙ drop_at (table_of (length pairs)) (big_endian 4 s.dimensions ++ from23) 19 (table_length (length pairs))

  at23 : drop 23 file ≡ from23
  at23 = next_there file from23 19 4 s.dimensions {j = 23} (omega arith) at19

  at27 : drop 27 file ≡ from27
  unfolding from23
  at27 = next_there file from27 23 4 s.largest {j = 27} (omega arith) at23

  at31 : drop 31 file ≡ from31
  unfolding from27
  at31 = next_there file from31 27 4 s.cells {j = 31} (omega arith) at27

  at_pairs : drop (before (length pairs)) file ≡ pair_bytes pairs
  unfolding from31
  at_pairs = next_there file (pair_bytes pairs) 31 (count_width (tag_for (length pairs))) (length pairs) {j = before (length pairs)} (omega arith) at31

  width_read : width_in file ≡ count_width (tag_for (length pairs))
  unfolding file from23 from27 from31
  width_read =
      ap count_width (table_tag file (length pairs) (
      ap (take 19) (file_parts s pairs)
      ∙ take_at (table_of (length pairs)) (big_endian 4 s.dimensions ++ from23) 19 (table_length (length pairs))
      ))

  number_read : count_in file ≡ length pairs
  unfolding from31
  number_read =
      let n = length pairs in
      ap (λ w. number_at w 31 file) width_read
      ∙ number_there file (pair_bytes pairs) 31 (count_width (tag_for n)) n (count_fits n (fits s pairs kept).number) at31

  pub settings_read : settings_in (file_of s pairs) ≡ s
  unfolding file from23 from27
  settings_read =
      let f = fits s pairs kept in
      rw (
        number_there file from23 19 4 s.dimensions f.dimensions at19,
        number_there file from27 23 4 s.largest f.largest at23,
        number_there file from31 27 4 s.cells f.cells at27,
        ← kept.base,
      )
      refl

  pub pairs_read : pairs_in (file_of s pairs) ≡ pairs
  unfolding pairs_in file
  pairs_read =
      ap₂ (λ n w. pairs_from n (drop (entries_start + w) file)) number_read width_read
      ∙ ap (pairs_from (length pairs)) at_pairs
      ∙ pairs_written pairs (fits s pairs kept).each

  pub file_is_file : is_file (file_of s pairs) ≡ true
  unfolding is_file
  file_is_file = rw (settings_read, pairs_read, kept.keeps_them) (same_refl (file_of s pairs))

  pub contents_read : contents_of (file_of s pairs) ≡ Some (s, length pairs)
  unfolding contents_of
  contents_read = rw (file_is_file, settings_read, pairs_read) refl

-- Bytes that pass the tests

pub record Tested (bytes : List ℕ) : Type 0 where
  pub range : in_range (number_at 4 19 bytes) (number_at 4 23 bytes) (number_at 4 27 bytes) ≡ true
  pub few : count_in bytes < number_at 4 27 bytes
  pub rise : rising 0 (number_at 4 23 bytes) (pairs_in bytes) ≡ true
  pub is : file_of (settings_in bytes) (pairs_in bytes) ≡ bytes

pub tested : (bytes : List ℕ) → is_file bytes ≡ true → Tested bytes
unfolding is_file
tested bytes e =
    let t = both (keeps (settings_in bytes) (pairs_in bytes)) (same (file_of (settings_in bytes) (pairs_in bytes)) bytes) e in
    let k = keepable (settings_in bytes) (pairs_in bytes) t.0 in
    let few = k.room in
    record {
      range = k.ranges;
      few = omega (arith, few, pairs_in_length bytes);
      rise = k.rises;
      is = same_eq (file_of (settings_in bytes) (pairs_in bytes)) bytes t.1;
    }

pub file_keeps : (bytes : List ℕ) → is_file bytes ≡ true → keeps (settings_in bytes) (pairs_in bytes) ≡ true
unfolding is_file
file_keeps bytes e = (both (keeps (settings_in bytes) (pairs_in bytes)) (same (file_of (settings_in bytes) (pairs_in bytes)) bytes) e).0

pub file_written : (bytes : List ℕ) → is_file bytes ≡ true → file_of (settings_in bytes) (pairs_in bytes) ≡ bytes
file_written bytes e = (tested bytes e).is

pub tested_is_file : (bytes : List ℕ) → Tested bytes → is_file bytes ≡ true
unfolding is_file keeps
tested_is_file bytes t =
    let few : length (pairs_in bytes) < number_at 4 27 bytes = omega (arith, t.few, pairs_in_length bytes) in
    rw (t.range, lt-ltb (length (pairs_in bytes)) (number_at 4 27 bytes) few, t.rise, t.is) (same_refl bytes)

-- the bytes of a file are as many as those of its pairs ask, and begin with their table
pub tested_length : (bytes : List ℕ) → Tested bytes → length bytes ≡ file_length (count_in bytes)
tested_length bytes t =
    ap length (sym t.is) ∙ file_length_lem (settings_in bytes) (pairs_in bytes) ∙ ap (λ n. file_length n) (pairs_in_length bytes)

pub tested_table : (bytes : List ℕ) → Tested bytes → take 19 bytes ≡ table_of (count_in bytes)
tested_table bytes t =
    let s = settings_in bytes in
    let n = length (pairs_in bytes) in
    ap (take 19) (sym t.is ∙ file_parts s (pairs_in bytes))
    ∙ take_at (table_of n)
    (big_endian 4 s.dimensions ++ (big_endian 4 s.largest ++ (big_endian 4 s.cells ++ (count_of n ++ pair_bytes (pairs_in bytes))))) 19
    (table_length n)
    ∙ ap table_of (pairs_in_length bytes)

-- where the tag is that of the number, the pairs begin behind the bytes that the number has under it
pub pairs_behind : (bytes : List ℕ) → take 19 bytes ≡ table_of (count_in bytes) → pairs_in bytes ≡ pairs_from (count_in bytes) (drop (before (count_in bytes)) bytes)
unfolding pairs_in
pairs_behind bytes table =
    ap (λ tag. pairs_from (count_in bytes) (drop (entries_start + count_width tag) bytes)) (table_tag bytes (count_in bytes) table)

-- and bytes that are so many and begin so are what writing what is read gives
pub written_again :
    (bytes : List ℕ) → Bytes bytes → length bytes ≡ file_length (count_in bytes) → take 19 bytes ≡ table_of (count_in bytes) →
    file_of (settings_in bytes) (pairs_in bytes) ≡ bytes
written_again bytes b long table =
    let n = count_in bytes in
    let w = count_width (tag_for n) in
    let rest = drop (before n) bytes in
    let d = big_endian 4 (number_at 4 19 bytes) in
    let k = big_endian 4 (number_at 4 23 bytes) in
    let c = big_endian 4 (number_at 4 27 bytes) in
    let count : number_at w 31 bytes ≡ n = ap (λ tag. number_at (count_width tag) 31 bytes) (sym (table_tag bytes n table)) in
    file_parts (settings_in bytes) (pairs_in bytes)
    ∙ ap₂ (λ m (pairs : List Pair). table_of m ++ (d ++ (k ++ (c ++ (count_of m ++ pair_bytes pairs))))) (pairs_in_length bytes) (pairs_behind bytes table)
    ∙ ap (λ (l : List ℕ). table_of n ++ (d ++ (k ++ (c ++ (count_of n ++ l)))))
    (pairs_are n rest (bytes_drop (before n) bytes b) (omega (arith, length-drop (before n) bytes)))
    ∙ ap (λ m. table_of n ++ (d ++ (k ++ (c ++ (big_endian w m ++ rest))))) (sym count)
    ∙ ap (λ (l : List ℕ). table_of n ++ (d ++ (k ++ (c ++ l)))) (sym (number_first bytes b 31 w {j = before n} (omega arith) (omega arith)))
    ∙ ap (λ (l : List ℕ). table_of n ++ (d ++ (k ++ l))) (sym (number_first bytes b 27 4 {j = 31} (omega arith) (omega arith)))
    ∙ ap (λ (l : List ℕ). table_of n ++ (d ++ l)) (sym (number_first bytes b 23 4 {j = 27} (omega arith) (omega arith)))
    ∙ ap (λ (l : List ℕ). table_of n ++ l) (sym (number_first bytes b 19 4 {j = 23} (omega arith) (omega arith)))
    ∙ ap (λ (l : List ℕ). l ++ drop 19 bytes) (sym table)
    ∙ take-append-drop 19 bytes

-- What bytes are read as

not_file : (bytes : List ℕ) → is_file bytes ≡ false → contents_of bytes ≡ None
unfolding contents_of
not_file bytes e = rw e refl

pub no_file : (bytes : List ℕ) → (Tested bytes → ⊥) → contents_of bytes ≡ None
no_file bytes never = at (is_file bytes) refl
  where
    at : (t : Bool) → is_file bytes ≡ t → contents_of bytes ≡ None
    at true e = absurd (never (tested bytes e))
    at false e = not_file bytes e

pub a_file : (bytes : List ℕ) → Tested bytes → contents_of bytes ≡ Some (settings_in bytes, count_in bytes)
unfolding contents_of
a_file bytes t = rw (tested_is_file bytes t, pairs_in_length bytes) refl
