-- The table of contents, compared with bytes body by body, and a body number by number.
use mathlib.Core.Path.{◌≡◌, refl, sym, ap, ◌∙◌}
use mathlib.Core.Bool.{◌&&◌}
use mathlib.Core.List.{List, ◌∷◌, ◌++◌}
use Prim.Native.Nat.{ℕ, suc, ◌+◌, ◌*◌, ◌≤◌, ◌<◌}
use native.Mathlib.Numerals.{add-one}
use native.Mathlib.Omega.{arith}
use lib.Dec.{eqb}
use lib.ListN.{length, get_or, take, drop, length-append, length-drop, take-append-drop}
use lib.Seq.{drop-cons, drop-drop, take-add, length-take-le}
use Rattle.lists.specs.Lists.{same}
use Rattle.lists.proofs.All.{All, all_append}
use Rattle.files.specs.Files.{big_endian, body_at, tag_for, count_width, entries_start, table_of, number_at}
use Rattle.files.proofs.Numbers.{Bytes, bytes_drop, bytes_take, big_endian_length, big_endian_bytes, number_same}
use Rattle.files.proofs.Parts.{same_append}

pub body_length : (tag offset long : ℕ) → length (body_at tag offset long) ≡ 9
body_length tag offset long =
    omega (arith, length-append (big_endian 4 offset) (big_endian 4 long), big_endian_length 4 offset, big_endian_length 4 long)

-- the second body of a file with n pairs
abbrev pub entries_at : ℕ → List ℕ
entries_at n = body_at (tag_for n) entries_start (count_width (tag_for n) + 8 * n)

pub table_length : (n : ℕ) → length (table_of n) ≡ 19
table_length n =
    omega (arith, length-append (body_at 1 19 12) (entries_at n), body_length 1 19 12, body_length (tag_for n) entries_start (count_width (tag_for n) + 8 * n))

-- the tag of the second body stands at place 10
pub table_tag : (bytes : List ℕ) (n : ℕ) → take 19 bytes ≡ table_of n → get_or bytes 10 0 ≡ tag_for n
unfolding big_endian
table_tag bytes n e = ap (λ (l : List ℕ). get_or l 10 0) (sym (take-append-drop 19 bytes) ∙ ap (λ (l : List ℕ). l ++ drop 19 bytes) e)

pub body_bytes : (tag offset long : ℕ) → tag < 256 → All (λ byte. byte < 256) (body_at tag offset long)
body_bytes tag offset long h =
    (h, all_append (λ byte. byte < 256) (big_endian 4 offset) (big_endian 4 long) (big_endian_bytes 4 offset) (big_endian_bytes 4 long))

-- the bytes of a body at place i
body_parts :
    (bytes : List ℕ) (i : ℕ) → i + 9 ≤ length bytes →
    take 9 (drop i bytes) ≡ get_or bytes i 0 ∷ (take 4 (drop (i + 1) bytes) ++ take 4 (drop (i + 5) bytes))
body_parts bytes i h =
    let five : suc i + 4 ≡ i + 5 = omega arith in
    rw (drop-cons bytes i 0 (omega arith), add-one i, ← five, ← drop-drop 4 (suc i) bytes)
    (ap (λ (l : List ℕ). get_or bytes i 0 ∷ l) (take-add 4 4 (drop (suc i) bytes)))

four_same :
    (bytes : List ℕ) → Bytes bytes → (i v : ℕ) → i + 4 ≤ length bytes → v < 4294967296 →
    same (big_endian 4 v) (take 4 (drop i bytes)) ≡ eqb (number_at 4 i bytes) v
four_same bytes b i v h fits =
    let rest = drop i bytes in
    let long = length-take-le 4 rest (omega (arith, length-drop i bytes)) in
    number_same (take 4 rest) (bytes_take 4 rest (bytes_drop i bytes b)) 4 v long (omega arith)

pub body_same :
    (bytes : List ℕ) → Bytes bytes → (i tag offset long : ℕ) → i + 9 ≤ length bytes → offset < 4294967296 → long < 4294967296 →
    same (body_at tag offset long) (take 9 (drop i bytes))
    ≡ (eqb tag (get_or bytes i 0) && (eqb (number_at 4 (i + 1) bytes) offset && eqb (number_at 4 (i + 5) bytes) long))
unfolding same
body_same bytes b i tag offset long h p q =
    let first = length-take-le 4 (drop (i + 1) bytes) (omega (arith, length-drop (i + 1) bytes)) in
    rw (
      body_parts bytes i h,
      same_append (big_endian 4 offset) (take 4 (drop (i + 1) bytes)) (big_endian 4 long) (take 4 (drop (i + 5) bytes)) (big_endian_length 4 offset ∙ sym first),
      four_same bytes b (i + 1) offset (omega arith) p,
      four_same bytes b (i + 5) long (omega arith) q,
    )
    refl

table_parts :
    (bytes : List ℕ) → 19 ≤ length bytes → take 19 bytes ≡ get_or bytes 0 0 ∷ (take 9 (drop 1 bytes) ++ take 9 (drop 10 bytes))
table_parts bytes h =
    ap (take 19) (drop-cons bytes 0 0 (omega arith))
    ∙ ap (λ (l : List ℕ). get_or bytes 0 0 ∷ l) (take-add 9 9 (drop 1 bytes) ∙ ap (λ (l : List ℕ). take 9 (drop 1 bytes) ++ take 9 l) (drop-drop 9 1 bytes))

same_cons : (x y : ℕ) (xs ys : List ℕ) → same (x ∷ xs) (y ∷ ys) ≡ (eqb x y && same xs ys)
unfolding same
same_cons x y xs ys = refl

pub table_same :
    (bytes : List ℕ) (n : ℕ) → 19 ≤ length bytes →
    same (table_of n) (take 19 bytes)
    ≡ (eqb 2 (get_or bytes 0 0) && (same (body_at 1 19 12) (take 9 (drop 1 bytes)) && same (entries_at n) (take 9 (drop 10 bytes))))
table_same bytes n h =
    let body = body_at 1 19 12 in
    let next = entries_at n in
    let first = length-take-le 9 (drop 1 bytes) (omega (arith, length-drop 1 bytes)) in
    ap (same (table_of n)) (table_parts bytes h)
    ∙ same_cons 2 (get_or bytes 0 0) (body ++ next) (take 9 (drop 1 bytes) ++ take 9 (drop 10 bytes))
    ∙ ap (λ t. eqb 2 (get_or bytes 0 0) && t) (same_append body (take 9 (drop 1 bytes)) next (take 9 (drop 10 bytes)) (body_length 1 19 12 ∙ sym first))
