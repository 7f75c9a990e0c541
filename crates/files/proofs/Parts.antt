-- Parts of some bytes: what a number at a place is in them, written and read.
use mathlib.Core.Path.{◌≡◌, refl, sym, ap, ◌∙◌}
use mathlib.Core.Bool.{Bool, true, false, ◌&&◌}
use mathlib.Core.List.{List, [], ◌∷◌, ◌++◌, append_assoc}
use Prim.Native.Nat.{ℕ, ◌+◌, ◌-◌, ◌^◌, ◌≤◌, ◌<◌}
use native.Mathlib.Nat.{suc_inj}
use native.Mathlib.Omega.{arith}
use lib.Dec.{eqb}
use lib.ListN.{length, take, drop, length-drop, take-append-drop}
use lib.Seq.{sets, sets-eq, take_at, drop_at, drop-drop}
use borrow.Rule.Slice.PartMut.{mid_of, put_mid, mid_len}
use Rattle.lists.specs.Lists.{same}
use Rattle.files.specs.Files.{big_endian, number_on, number_at}
use Rattle.files.proofs.Numbers.{Bytes, bytes_drop, big_endian_length, number_written, written_front, number_below}

-- a part of n bytes from place i on, lent from `start` to `end`
pub part_read : (bytes : List ℕ) (i n : ℕ) {start end : ℕ} → start ≡ i → end ≡ i + n → number_on 0 (mid_of start (end - start) bytes) ≡ number_at n i bytes
part_read bytes i n {start} {end} p q =
    let k : end - start ≡ n = omega arith in
    rw (k, p) refl

-- a number written over such a part
pub part_written :
    (bytes : List ℕ) (i n v : ℕ) {start end : ℕ} {ys : List ℕ} → start ≡ i → end ≡ i + n → i + n ≤ length bytes →
    ys ≡ big_endian (length (mid_of start (end - start) bytes)) v → put_mid start (end - start) bytes ys ≡ sets bytes i (big_endian n v)
part_written bytes i n v {start} {end} {ys} p q h e =
    let long : length (mid_of start (end - start) bytes) ≡ n = omega (arith, mid_len start end bytes (omega arith)) in
    let is : ys ≡ big_endian n v = e ∙ ap (λ m. big_endian m v) long in
    let new = big_endian_length n v in
    let k : start + (end - start) ≡ i + length (big_endian n v) = omega arith in
    let fits : i + length (big_endian n v) ≤ length bytes = omega arith in
    rw (is, drop-drop (end - start) start bytes, k, p)
    (sym (sets-eq (big_endian n v) bytes i fits ∙ append_assoc (take i bytes) (big_endian n v) (drop (i + length (big_endian n v)) bytes)))

-- where the bytes from place i on begin with a number, it is read there, and the others begin after it
pub number_there : (bytes rest : List ℕ) (i n v : ℕ) → v < 256 ^ n → drop i bytes ≡ big_endian n v ++ rest → number_at n i bytes ≡ v
number_there bytes rest i n v fits e =
    ap (λ l. number_on 0 (take n l)) e ∙ ap (number_on 0) (take_at (big_endian n v) rest n (big_endian_length n v)) ∙ number_written n v fits

pub next_there : (bytes rest : List ℕ) (i n v : ℕ) {j : ℕ} → j ≡ i + n → drop i bytes ≡ big_endian n v ++ rest → drop j bytes ≡ rest
next_there bytes rest i n v p e =
    rw p (sym (drop-drop n i bytes) ∙ ap (drop n) e ∙ drop_at (big_endian n v) rest n (big_endian_length n v))

-- bytes from place i on are those of the number there, and those after it
pub number_first :
    (bytes : List ℕ) → Bytes bytes → (i n : ℕ) {j : ℕ} → j ≡ i + n → j ≤ length bytes → drop i bytes ≡ big_endian n (number_at n i bytes) ++ drop j bytes
number_first bytes b i n p h =
    let rest = drop i bytes in
    let long : n ≤ length rest = omega (arith, length-drop i bytes) in
    rw (p, written_front rest (bytes_drop i bytes b) n long, ← drop-drop n i bytes) (sym (take-append-drop n rest))

pub number_at_below : (bytes : List ℕ) → Bytes bytes → (i n : ℕ) → i + n ≤ length bytes → number_at n i bytes < 256 ^ n
number_at_below bytes b i n h = number_below (drop i bytes) (bytes_drop i bytes b) n (omega (arith, length-drop i bytes))

pub same_append : (xs ys : List ℕ) (us vs : List ℕ) → length xs ≡ length ys → same (xs ++ us) (ys ++ vs) ≡ (same xs ys && same us vs)
unfolding same
same_append [] [] us vs e = refl
same_append [] (y ∷ ys) us vs e = absurd (omega arith)
same_append (x ∷ xs) [] us vs e = absurd (omega arith)
same_append (x ∷ xs) (y ∷ ys) us vs e = at (eqb x y) (same_append xs ys us vs (suc_inj e))
  where
    at : (t : Bool) → same (xs ++ us) (ys ++ vs) ≡ (same xs ys && same us vs) → (t && same (xs ++ us) (ys ++ vs)) ≡ ((t && same xs ys) && same us vs)
    at true ih = ih
    at false ih = refl
