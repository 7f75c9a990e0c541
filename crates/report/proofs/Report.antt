-- What a customer may rely on. A number is printed as the grammar of lines reads it (The order program 2), and it reads as that
-- number. So a line that the programs print is four fields with one space between, and they read as refusal, key, value and count.
use mathlib.Core.Path.{◌≡◌, refl, ◌∙◌, ap}
use mathlib.Core.Bool.{Bool, true, false, cond, ◌&&◌, ◌||◌, or-true}
use mathlib.Core.List.{List, [], ◌∷◌, ◌++◌, map, append_assoc}
use Prim.Native.Nat.{ℕ, zero, suc, ◌+◌, ◌*◌, ◌-◌, ◌/◌, ◌%◌, ◌^◌, ◌≤◌, ◌<◌}
use native.Mathlib.Nat.{pow-suc}
use native.Mathlib.Omega.{arith}
use lib.Dec.{eqb, leb, ltb}
use lib.ListN.{length, get_or, take, length-append}
use lib.Seq.{take_at}
use borrow.Author.Tests.{ltb-true, ltb-false, leb-true, le-leb, lt-ltb, ne_eqb}
use Rattle.settings.proofs.Numbers.{and_left, and_right}
use Rattle.text.specs.Fields.{space, is_digit, fields_of, all_digits, decimal_from, is_decimal}
use Rattle.answers.specs.declared.Answer.{Answer}
use Rattle.report.specs.Report.{most_digits, decimal_in, decimal, answer_text}

-- One digit more, behind the others

digit_behind : (field : List ℕ) (d : ℕ) → d < 10 → all_digits (field ++ ((48 + d) ∷ [])) ≡ all_digits field
unfolding all_digits
digit_behind [] d h = rw (le-leb 48 (48 + d) (omega arith), le-leb (48 + d) 57 (omega arith)) refl
digit_behind (byte ∷ field) d h = ap (λ t. is_digit byte && t) (digit_behind field d h)

read_behind : (n : ℕ) (field : List ℕ) (d : ℕ) → decimal_from n (field ++ ((48 + d) ∷ [])) ≡ decimal_from n field * 10 + d
unfolding decimal_from
read_behind n [] d = omega arith
read_behind n (byte ∷ field) d = read_behind (n * 10 + (byte - 48)) field d

first_before : (xs ys : List ℕ) → 0 < get_or xs 0 0 → get_or (xs ++ ys) 0 0 ≡ get_or xs 0 0
first_before [] ys h = absurd (omega arith)
first_before (x ∷ xs) ys h = refl

some_first : (xs : List ℕ) → 0 < get_or xs 0 0 → 0 < length xs
some_first [] h = h
some_first (x ∷ xs) h = omega arith

-- A field of digits that is read as the number n, and its first digit.
record Read (n : ℕ) (field : List ℕ) : Type 0 where
  some : 0 < length field
  digits : all_digits field ≡ true
  number : decimal_from 0 field ≡ n
  leading : 0 < n → 48 < get_or field 0 0
  plain : (eqb (length field) 1 || ltb 48 (get_or field 0 0)) ≡ true

one_digit : {n : ℕ} → n < 10 → Read n ((48 + n) ∷ [])
unfolding decimal_from
one_digit {n} h =
    record {
      some = omega arith;
      digits = digit_behind [] n h ∙ unfold all_digits in refl;
      number = omega arith;
      leading = λ some. omega arith;
      plain = refl;
    }

digit_more : {n : ℕ} {front : List ℕ} → 10 ≤ n → Read (n / 10) front → Read n (front ++ ((48 + n % 10) ∷ []))
digit_more {n} {front} h r =
    let field = front ++ ((48 + n % 10) ∷ []) in
    let before = r.leading (omega arith) in
    let first : 48 < get_or field 0 0 = omega (arith, before, first_before front ((48 + n % 10) ∷ []) (omega arith)) in
    record {
      some = some_first field (omega arith);
      digits = digit_behind front (n % 10) (omega arith) ∙ r.digits;
      number = omega (arith, r.number, read_behind 0 front (n % 10));
      leading = λ some. first;
      plain = rw (lt-ltb 48 (get_or field 0 0) first) (or-true (eqb (length field) 1));
    }

-- with room for one digit more
digits_in_lem : (most n : ℕ) → (10 ≤ n → Read (n / 10) (decimal_in most (n / 10))) → Read n (decimal_in (suc most) n)
unfolding decimal_in
digits_in_lem most n front = at_test (ltb n 10) refl
  where
    at_test : (t : Bool) → ltb n 10 ≡ t → Read n (cond t ((48 + n) ∷ []) (decimal_in most (n / 10) ++ ((48 + n % 10) ∷ [])))
    at_test true one = one_digit (ltb-true n 10 one)
    at_test false several = let h = ltb-false n 10 several in digit_more h (front h)

decimal_read : (most n : ℕ) → n < 10 ^ suc most → Read n (decimal_in (suc most) n)
decimal_read zero n h = digits_in_lem zero n (λ several. absurd (omega arith))
decimal_read (suc most) n h =
    digits_in_lem (suc most) n (λ several. decimal_read most (n / 10) (omega (arith, h, pow-suc 10 (suc most))))

-- What is printed for a number is a number of the grammar of lines, and is read as that number.
pub decimal_reads : (n : ℕ) → n < 10 ^ most_digits → (is_decimal (decimal n) ≡ true) × (decimal_from 0 (decimal n) ≡ n)
unfolding is_decimal
decimal_reads n h =
    let field = decimal n in
    let r = decimal_read 19 n h in
    (rw (lt-ltb 0 (length field) r.some, r.digits, r.plain) refl, r.number)

-- The fields of a line

digit_no_space : (byte : ℕ) (rest : Bool) → is_digit byte && rest ≡ true → eqb byte space ≡ false
digit_no_space byte rest e =
    let low = leb-true 48 byte (and_left (leb 48 byte) (leb byte 57) (and_left (is_digit byte) rest e)) in
    ne_eqb byte space (λ h. omega arith)

digits_cut : (field rest : List ℕ) → all_digits field ≡ true → fields_of (field ++ (space ∷ rest)) ≡ field ∷ fields_of rest
unfolding all_digits fields_of
digits_cut [] rest e = refl
digits_cut (byte ∷ field) rest e =
    rw (digit_no_space byte (all_digits field) e, digits_cut field rest (and_right (is_digit byte) (all_digits field) e)) refl

digits_whole : (field : List ℕ) → all_digits field ≡ true → fields_of field ≡ field ∷ []
unfolding all_digits fields_of
digits_whole [] e = refl
digits_whole (byte ∷ field) e =
    rw (digit_no_space byte (all_digits field) e, digits_whole field (and_right (is_digit byte) (all_digits field) e)) refl

-- An answer of numbers that 20 digits hold, as every number of 64 bits is.
pub record Holds (a : Answer) : Type 0 where
  pub refusal : a.refusal < 10 ^ most_digits
  pub key : a.key < 10 ^ most_digits
  pub value : a.value < 10 ^ most_digits
  pub count : a.count < 10 ^ most_digits

-- without the byte after it
four : Answer → List ℕ
four a = decimal a.refusal ++ (space ∷ (decimal a.key ++ (space ∷ (decimal a.value ++ (space ∷ decimal a.count)))))

text_four : (a : Answer) (after : ℕ) → answer_text a after ≡ four a ++ (after ∷ [])
unfolding answer_text four
text_four a after = simp append_assoc

before_last : (line : List ℕ) (after : ℕ) → take (length (line ++ (after ∷ [])) - 1) (line ++ (after ∷ [])) ≡ line
before_last line after =
    take_at line (after ∷ []) (length (line ++ (after ∷ [])) - 1) (omega (arith, length-append line (after ∷ [])))

four_fields :
    (a : Answer) → Holds a →
    fields_of (four a) ≡ decimal a.refusal ∷ decimal a.key ∷ decimal a.value ∷ decimal a.count ∷ []
unfolding four
four_fields a h =
    rw (
      digits_cut (decimal a.refusal) _ (decimal_read 19 _ h.refusal).digits,
      digits_cut (decimal a.key) _ (decimal_read 19 _ h.key).digits,
      digits_cut (decimal a.value) _ (decimal_read 19 _ h.value).digits,
      digits_whole (decimal a.count) (decimal_read 19 _ h.count).digits,
    )
    refl

-- What is printed for an answer, without the byte after it, is four fields. Each is a number of the grammar of lines, and they are read as
-- refusal, key, value and count.
pub answer_reads :
    (a : Answer) (after : ℕ) → Holds a →
    let text = answer_text a after in
    let fields = fields_of (take (length text - 1) text) in
    (map is_decimal fields ≡ true ∷ true ∷ true ∷ true ∷ [])
    × (map (decimal_from 0) fields ≡ a.refusal ∷ a.key ∷ a.value ∷ a.count ∷ [])
answer_reads a after h =
    let r = decimal_reads a.refusal h.refusal in
    let k = decimal_reads a.key h.key in
    let v = decimal_reads a.value h.value in
    let c = decimal_reads a.count h.count in
    rw (text_four a after, before_last (four a) after, four_fields a h)
    (rw (r.0, k.0, v.0, c.0) refl, rw (r.1, k.1, v.1, c.1) refl)
