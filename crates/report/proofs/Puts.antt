-- Bytes put after others: what is put twice, each time at the index after the last, is put at once.
use mathlib.Core.Path.{◌≡◌, refl, sym, ◌∙◌, ap, ap₂}
use mathlib.Core.List.{List, [], ◌∷◌, ◌++◌, append_assoc}
use Prim.Native.Nat.{ℕ, ◌+◌, ◌-◌, ◌≤◌}
use native.Mathlib.Omega.{arith}
use lib.ListN.{length, set, take, drop, length-append}
use lib.Seq.{append_snoc, take_at, drop-drop, sets, sets-eq, length-sets}
use borrow.Rule.Slice.PartMut.{put_mid}
use Rattle.lists.proofs.Sets.{sets_append}
use Rattle.report.specs.Report.{Put}

pub put_length : {before after : List ℕ} {at r : ℕ} {bytes : List ℕ} → Put before at bytes after r → length after ≡ length before
put_length {before} {at = at} {bytes = bytes} p = ap length p.is ∙ length-sets before at bytes

pub put_byte : (before : List ℕ) (at byte : ℕ) → Put before at (byte ∷ []) (set before at byte) (at + 1)
put_byte before at byte = record { is = refl; end = refl }

pub put_more :
    {before middle after : List ℕ} {at between r : ℕ} {xs ys : List ℕ} → Put before at xs middle between → Put middle between ys after r →
    Put before at (xs ++ ys) after r
put_more {before} {at = at} {xs = xs} {ys} p q =
    record {
      is = q.is ∙ ap₂ (λ l n. sets l n ys) p.is p.end ∙ sym (sets_append before xs ys at);
      end = omega (arith, p.end, q.end, length-append xs ys);
    }

-- a field, the byte after it, and what follows
pub put_field :
    {before middle after : List ℕ} {at between r : ℕ} (xs : List ℕ) (byte : ℕ) {ys : List ℕ} →
    Put before at (xs ++ (byte ∷ [])) middle between → Put middle between ys after r → Put before at (xs ++ (byte ∷ ys)) after r
put_field xs byte {ys} p q = rw (← append_snoc xs byte ys) (put_more p q)

-- a part of an array, lent to its end, to which the bytes were copied
pub put_part :
    (before : List ℕ) (at : ℕ) (bytes : List ℕ) {copied : List ℕ} → copied ≡ bytes → at + length bytes ≤ length before →
    Put before at bytes (put_mid at (at + length bytes - at) before copied) (at + length bytes)
put_part before at bytes {copied} e h =
    let k : at + length bytes - at ≡ length bytes = omega arith in
    record {
      is =
          rw (e, k, drop-drop (length bytes) at before)
          (sym (sets-eq bytes before at h ∙ append_assoc (take at before) bytes (drop (at + length bytes) before)));
      end = refl;
    }

-- What is put at the start of an array is its first bytes, up to the index after it.
pub put_start :
    {before after : List ℕ} {r : ℕ} {bytes : List ℕ} → Put before 0 bytes after r → r ≤ length before → (take r after ≡ bytes) × (r ≤ length after)
put_start {before} {r = r} {bytes} p h =
    let long : length bytes ≡ r = omega (arith, p.end) in (
      ap (take r) (p.is ∙ sets-eq bytes before 0 (omega (arith, long))) ∙ take_at bytes (drop (0 + length bytes) before) r long,
      omega (arith, h, put_length p),
    )
