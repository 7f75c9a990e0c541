-- The two tags of the entries: how many bytes the number of the pairs has under each, and that it fits them.
use mathlib.Core.Path.{◌≡◌, refl}
use mathlib.Core.Bool.{Bool, true, false, cond}
use Prim.Native.Nat.{ℕ, ◌^◌, ◌≤◌, ◌<◌}
use native.Mathlib.Omega.{arith}
use lib.Dec.{eqb, leb}
use borrow.Author.Tests.{le-leb, lt-leb, leb-true, leb-false}
use Rattle.files.specs.Files.{most_under_tag2, tag_for, count_width}

pub width_most : (tag : ℕ) → count_width tag ≤ 4
unfolding count_width
width_most tag = at (eqb tag 3)
  where
    at : (t : Bool) → cond t 4 2 ≤ 4
    at true = omega arith
    at false = omega arith

pub few_tag : (n : ℕ) → n ≤ most_under_tag2 → tag_for n ≡ 2
unfolding tag_for
few_tag n h = rw (le-leb n most_under_tag2 h) refl

pub many_tag : (n : ℕ) → most_under_tag2 < n → tag_for n ≡ 3
unfolding tag_for
many_tag n h = rw (lt-leb n most_under_tag2 h) refl

-- each tag has a byte of its own, and the number of the pairs fits the bytes that it has under its tag
module _ (n : ℕ) where
  by_tag : (P : ℕ → Type 0) → (n ≤ most_under_tag2 → P 2) → (most_under_tag2 < n → P 3) → P (tag_for n)
  by_tag P few many = at (leb n most_under_tag2) refl
    where
      at : (t : Bool) → leb n most_under_tag2 ≡ t → P (tag_for n)
      at true e = let h = leb-true n most_under_tag2 e in rw (few_tag n h) (few h)
      at false e = let h = leb-false n most_under_tag2 e in rw (many_tag n h) (many h)

  pub tag_byte : tag_for n < 256
  tag_byte = by_tag (λ tag. tag < 256) (λ h. omega arith) (λ h. omega arith)

  pub count_fits : n < 4294967296 → n < 256 ^ count_width (tag_for n)
  unfolding count_width
  count_fits fits = by_tag (λ tag. n < 256 ^ count_width tag) (λ h. omega arith) (λ h. omega arith)
