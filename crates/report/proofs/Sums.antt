-- The checksum, element by element. Its start may be taken modulo 2,147,483,647: the first element's step does so, and without one it is 0.
use mathlib.Core.Path.{◌≡◌, refl, sym, ◌∙◌, ap, ap₂}
use mathlib.Core.List.{List, [], ◌∷◌, ◌++◌}
use Prim.Native.Nat.{ℕ, suc, ◌+◌, ◌*◌, ◌/◌, ◌%◌, ◌≤◌, ◌<◌}
use native.Mathlib.Nat.{add-mul-mod_self_left}
use native.Mathlib.Numerals.{add-one}
use native.Mathlib.Omega.{arith}
use lib.ListN.{length, get_or, take}
use lib.Seq.{take-suc, take_all}
use Rattle.report.specs.Report.{checksum_from, checksum_of, Converted, ChecksumOf}

step_of_remainder : (n w : ℕ) → (n % 2147483647 * 1000003 + w) % 2147483647 ≡ (n * 1000003 + w) % 2147483647
step_of_remainder n w =
    let whole : n * 1000003 + w ≡ n % 2147483647 * 1000003 + w + 2147483647 * (n / 2147483647 * 1000003) = omega arith in
    sym (ap (λ k. k % 2147483647) whole ∙ add-mul-mod_self_left (n % 2147483647 * 1000003 + w) 2147483647 (n / 2147483647 * 1000003))

start_is : (all : List ℕ) → checksum_of all ≡ checksum_from (length all % 2147483647) all
unfolding checksum_from
start_is [] = refl
start_is (w ∷ ws) = ap (λ h. checksum_from h ws) (sym (step_of_remainder (suc (length ws)) w))

-- one element more

converted_more :
    {A : Type 0} (converts : A → ℕ → Type 0) (xs : List A) (ns : List ℕ) {x : A} {n : ℕ} → Converted converts xs ns → converts x n →
    Converted converts (xs ++ (x ∷ [])) (ns ++ (n ∷ []))
unfolding Converted
converted_more converts [] [] done one = (one, tt)
converted_more converts [] (n ∷ ns) done one = absurd done
converted_more converts (x ∷ xs) [] done one = absurd done
converted_more converts (x ∷ xs) (n ∷ ns) done one = (done.0, converted_more converts xs ns done.1 one)

summed_more : (h : ℕ) (ns : List ℕ) (n : ℕ) → checksum_from h (ns ++ (n ∷ [])) ≡ (checksum_from h ns * 1000003 + n) % 2147483647
unfolding checksum_from
summed_more h [] n = refl
summed_more h (m ∷ ns) n = summed_more ((h * 1000003 + m) % 2147483647) ns n

converted_length :
    {A : Type 0} (converts : A → ℕ → Type 0) (xs : List A) (ns : List ℕ) → Converted converts xs ns → length ns ≡ length xs
unfolding Converted
converted_length converts [] [] done = refl
converted_length converts [] (n ∷ ns) done = absurd done
converted_length converts (x ∷ xs) [] done = absurd done
converted_length converts (x ∷ xs) (n ∷ ns) done = ap suc (converted_length converts xs ns done.1)

-- Of the elements so far the numbers that they convert into have been summed, from h on. The sum is below 2,147,483,647, so that nothing wraps.
pub record Summed {A : Type 0} (converts : A → ℕ → Type 0) (xs : List A) (h r : ℕ) : Type 0 where
  pub numbers : List ℕ
  pub converted : Converted converts xs numbers
  pub below : r < 2147483647
  pub is : r ≡ checksum_from h numbers

module _ {A : Type 0} (converts : A → ℕ → Type 0) where
  pub summed_start : {h : ℕ} → h < 2147483647 → Summed converts [] h h
  unfolding Converted checksum_from
  summed_start below = record { numbers = []; converted = tt; below = below; is = refl }

  pub summed_next :
      (all : List A) {i h s n r : ℕ} {x : A} → Summed converts (take i all) h s → i < length all → x ≡ get_or all i x → converts x n →
      r ≡ (s * 1000003 + n) % 2147483647 → Summed converts (take (i + 1) all) h r
  summed_next all {i} {h} {n = n} {x = x} s k there one e =
      let more : take (i + 1) all ≡ take i all ++ (x ∷ []) = rw (add-one i) (take-suc all i x k ∙ ap (λ y. take i all ++ (y ∷ [])) (sym there)) in
      record {
        numbers = s.numbers ++ (n ∷ []);
        converted = rw more (converted_more converts (take i all) s.numbers s.converted one);
        below = omega (arith, e);
        is = e ∙ rw s.is (sym (summed_more h s.numbers n));
      }

  pub summed_all :
      (all : List A) {i r : ℕ} → Summed converts (take i all) (length all % 2147483647) r → length all ≤ i → ChecksumOf converts all r
  summed_all all {i} s k =
      let converted = rw (take_all i all k) at s.converted in
      record {
        numbers = s.numbers;
        converted = converted;
        is = s.is ∙ rw (sym (converted_length converts all s.numbers converted)) (sym (start_is s.numbers));
      }

-- Words and bytes are the numbers that they convert into.
pub same_numbers : {ns : List ℕ} {r : ℕ} → ChecksumOf (λ n m. m ≡ n) ns r → r ≡ checksum_of ns
unfolding Converted
same_numbers {ns} sum = sum.is ∙ ap checksum_of (at ns sum.numbers sum.converted)
  where
    at : (xs ms : List ℕ) → Converted (λ n m. m ≡ n) xs ms → ms ≡ xs
    at [] [] done = refl
    at [] (m ∷ ms) done = absurd done
    at (x ∷ xs) [] done = absurd done
    at (x ∷ xs) (m ∷ ms) done = ap₂ (λ n l. n ∷ l) done.0 (at xs ms done.1)
