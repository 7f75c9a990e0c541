-- What holds of the lines of the order program. The grammar speaks of all the fields of a line at once; the parser takes them one after the
-- other, and each step hands on the fields that are left.
use Rattle.std.specs.Prelude.{None, Some, Option}
use mathlib.Core.Path.{◌≡◌, refl, sym, ◌∙◌}
use mathlib.Core.Bool.{Bool, true, false, cond, ◌&&◌, and-false}
use mathlib.Core.List.{List, [], ◌∷◌}
use Prim.Native.Nat.{ℕ, ◌+◌, ◌-◌, ◌≤◌, ◌<◌}
use native.Mathlib.Omega.{arith}
use lib.Dec.{leb, ltb, eqb}
use lib.ListN.{length, get_or, take, drop, length-take}
use borrow.Author.Tests.{le-leb, lt-leb, lt-ltb, le-ltb, ltb-true, ltb-false}
use Rattle.lists.specs.Lists.{same}
use Rattle.text.specs.Fields.{fields_of, decimal_from, is_number}
use Rattle.text.specs.Lines.{most_bytes}
use Rattle.text.specs.Answers.{FieldEnd, number_of}
use Rattle.text.proofs.Numerals.{last_field, next_field, some_field, number_value}
use Rattle.entries.specs.Entries.{least_class, most_class, least_unit, most_unit, least_serial, most_serial, is_class, is_unit, is_serial, InRange, entry}
use Rattle.entries.specs.declared.Entry.{Entry}
use Rattle.entries.proofs.Ranges.{entry_in_range}
use Rattle.lines.specs.Grammar.{is_value, least_value, most_value, readable, insert_fields, entry_fields, no_fields, kind_of, parsed_of, KindInRange}
use Rattle.lines.specs.Answers.{fields_after, first_number, first_entry, ReadAfter}
use Rattle.lines.specs.declared.Kind.{Kind}
use Rattle.lines.specs.declared.Line.{Line}
use Rattle.lines.specs.declared.Kind.TheVariants.{Insert, Find, Finish, Take, Sweep}

-- The fields that are left

-- the bytes from `start` to `end`
abbrev pub part : List ℕ → ℕ → ℕ → List ℕ
part line start end = take (end - start) (drop start line)

-- none after a field that ends with the line
pub none_after : (line : List ℕ) (at : ℕ) → length line ≤ at → fields_after line at ≡ []
unfolding fields_after
none_after line at h = rw (le-ltb at (length line) h) refl

-- a field that starts at `start` is the first, and those after its end are the others
pub field_from :
    {line : List ℕ} {start end : ℕ} → FieldEnd line start end →
    fields_of (drop start line) ≡ part line start end ∷ fields_after line end
unfolding fields_after
field_from {line} {start} {end} ends = at_test (ltb end (length line)) refl
  where
    at_test :
        (t : Bool) → ltb end (length line) ≡ t →
        fields_of (drop start line) ≡ part line start end ∷ cond t (fields_of (drop (end + 1) line)) []
    at_test true e = next_field ends (ltb-true end (length line) e)
    at_test false e = let h = ltb-false end (length line) e in let g = ends.within in last_field ends (omega arith)

-- Numbers

-- nothing is a number where no field is left
pub number_missing :
    {line : List ℕ} {at : ℕ} (least most : ℕ) → length line ≤ at → ReadAfter line (first_number least most (fields_after line at)) None
unfolding first_number
number_missing {line} {at} least most h = record { is = rw (none_after line at h) refl; within = omega arith }

-- The field after the one that ends at `at`, with a space between them.
module _ {line : List ℕ} {at end : ℕ} (least most : ℕ) (more : at < length line) (ends : FieldEnd line (at + 1) end) where
  first_field : fields_after line at ≡ part line (at + 1) end ∷ fields_after line end
  unfolding fields_after
  first_field = rw (lt-ltb at (length line) more) (field_from ends)

  pub number_read :
      {n : ℕ} → number_of least most (part line (at + 1) end) ≡ Some n →
      ReadAfter line (first_number least most (fields_after line at)) (Some (n, end))
  unfolding first_number
  number_read e =
      let v = number_value least most (part line (at + 1) end) e in
      record { is = rw (first_field, v.0, v.1) refl; within = ends.within }

  pub number_none :
      number_of least most (part line (at + 1) end) ≡ None → ReadAfter line (first_number least most (fields_after line at)) None
  unfolding first_number number_of
  number_none e = record { is = rw first_field (at_test (is_number least most field) e); within = omega arith }
    where
      field : List ℕ
      field = part line (at + 1) end

      at_test :
          (t : Bool) → cond t (Some (decimal_from 0 field)) None ≡ None →
          ◌≡◌ {A = Option (ℕ × List (List ℕ))} None (cond t (Some (decimal_from 0 field, fields_after line end)) None)
      at_test true v = cc
      at_test false v = refl

-- Entries

-- a class, then a unit, and then a serial
abbrev with_serial : ℕ → ℕ → Option (ℕ × List (List ℕ)) → Option (Entry × List (List ℕ))
with_serial class unit (Some (serial, fields)) = Some (record { class = class; unit = unit; serial = serial }, fields)
with_serial class unit None = None

abbrev with_unit : ℕ → Option (ℕ × List (List ℕ)) → Option (Entry × List (List ℕ))
with_unit class (Some (unit, fields)) = with_serial class unit (first_number least_serial most_serial fields)
with_unit class None = None

abbrev with_class : Option (ℕ × List (List ℕ)) → Option (Entry × List (List ℕ))
with_class (Some (class, fields)) = with_unit class (first_number least_unit most_unit fields)
with_class None = None

pub entry_steps : (fields : List (List ℕ)) → first_entry fields ≡ with_class (first_number least_class most_class fields)
unfolding first_entry first_number
entry_steps [] = refl
entry_steps (class ∷ []) = at-class (is_class class)
  where
    at-class : (t : Bool) → None ≡ with_class (cond t (Some (decimal_from 0 class, [])) None)
    at-class true = refl
    at-class false = refl
entry_steps (class ∷ unit ∷ []) = at-class (is_class class)
  where
    at_unit : (t : Bool) → None ≡ with_unit (decimal_from 0 class) (cond t (Some (decimal_from 0 unit, [])) None)
    at_unit true = refl
    at_unit false = refl

    at-class : (t : Bool) → None ≡ with_class (cond t (Some (decimal_from 0 class, unit ∷ [])) None)
    at-class true = at_unit (is_unit unit)
    at-class false = refl
entry_steps (class ∷ unit ∷ serial ∷ fields) = at-class (is_class class)
  where
    whole : Option (Entry × List (List ℕ))
    whole = Some (entry class unit serial, fields)

    at-serial :
        (t : Bool) → cond t whole None ≡ with_serial (decimal_from 0 class) (decimal_from 0 unit) (cond t (Some (decimal_from 0 serial, fields)) None)
    at-serial true = refl
    at-serial false = refl

    at_unit :
        (t : Bool) → cond (t && is_serial serial) whole None
        ≡ with_unit (decimal_from 0 class) (cond t (Some (decimal_from 0 unit, serial ∷ fields)) None)
    at_unit true = at-serial (is_serial serial)
    at_unit false = refl

    at-class :
        (t : Bool) → cond (t && (is_unit unit && is_serial serial)) whole None
        ≡ with_class (cond t (Some (decimal_from 0 class, unit ∷ serial ∷ fields)) None)
    at-class true = at_unit (is_unit unit)
    at-class false = refl

-- Lines

-- an entry, and then the end
abbrev of_entry : (Entry → Kind) → Option (Entry × List (List ℕ)) → Option Line
of_entry kind (Some (e, fields)) = no_fields (kind e) fields
of_entry kind None = None

pub entry_line_steps : (kind : Entry → Kind) (fields : List (List ℕ)) → entry_fields kind fields ≡ of_entry kind (first_entry fields)
unfolding entry_fields first_entry no_fields
entry_line_steps kind [] = refl
entry_line_steps kind (class ∷ []) = refl
entry_line_steps kind (class ∷ unit ∷ []) = refl
entry_line_steps kind (class ∷ unit ∷ serial ∷ []) = at_test (is_class class && (is_unit unit && is_serial serial))
  where
    at_test : (t : Bool) → readable t (kind (entry class unit serial)) ≡ of_entry kind (cond t (Some (entry class unit serial, [])) None)
    at_test true = refl
    at_test false = refl
entry_line_steps kind (class ∷ unit ∷ serial ∷ further ∷ fields) = at_test (is_class class && (is_unit unit && is_serial serial))
  where
    at_test : (t : Bool) → None ≡ of_entry kind (cond t (Some (entry class unit serial, further ∷ fields)) None)
    at_test true = refl
    at_test false = refl

-- an entry, a value, and then the end
abbrev of_value : Entry → Option (ℕ × List (List ℕ)) → Option Line
of_value e (Some (value, fields)) = no_fields (Insert e value) fields
of_value e None = None

abbrev of_insert : Option (Entry × List (List ℕ)) → Option Line
of_insert (Some (e, fields)) = of_value e (first_number least_value most_value fields)
of_insert None = None

pub insert_line_steps : (fields : List (List ℕ)) → insert_fields fields ≡ of_insert (first_entry fields)
unfolding insert_fields first_entry first_number no_fields
insert_line_steps [] = refl
insert_line_steps (class ∷ []) = refl
insert_line_steps (class ∷ unit ∷ []) = refl
insert_line_steps (class ∷ unit ∷ serial ∷ []) = at_test (is_class class && (is_unit unit && is_serial serial))
  where
    at_test : (t : Bool) → None ≡ of_insert (cond t (Some (entry class unit serial, [])) None)
    at_test true = refl
    at_test false = refl
insert_line_steps (class ∷ unit ∷ serial ∷ value ∷ []) = at_entry (is_class class) (is_unit unit) (is_serial serial)
  where
    kind : Kind
    kind = Insert (entry class unit serial) (decimal_from 0 value)

    at_value : (t : Bool) → readable t kind ≡ of_value (entry class unit serial) (cond t (Some (decimal_from 0 value, [])) None)
    at_value true = refl
    at_value false = refl

    at_entry :
        (t u w : Bool) → readable (t && (u && (w && is_value value))) kind
        ≡ of_insert (cond (t && (u && w)) (Some (entry class unit serial, value ∷ [])) None)
    at_entry true true true = at_value (is_value value)
    at_entry true true false = refl
    at_entry true false w = refl
    at_entry false u w = refl
insert_line_steps (class ∷ unit ∷ serial ∷ value ∷ further ∷ fields) = at_entry (is_class class && (is_unit unit && is_serial serial))
  where
    at_value :
        (t : Bool) → None ≡ of_value (entry class unit serial) (cond t (Some (decimal_from 0 value, further ∷ fields)) None)
    at_value true = refl
    at_value false = refl

    at_entry : (t : Bool) → None ≡ of_insert (cond t (Some (entry class unit serial, value ∷ further ∷ fields)) None)
    at_entry true = at_value (is_value value)
    at_entry false = refl

-- The end of a line, and its start

module _ (line : List ℕ) (at : ℕ) (kind : Kind) where
  pub line_ends : length line ≤ at → Some (record { kind = kind }) ≡ no_fields kind (fields_after line at)
  unfolding no_fields
  line_ends h = rw (none_after line at h) refl

  -- there is always a field behind a space, be it empty
  pub line_goes_on : at < length line → None ≡ no_fields kind (fields_after line at)
  unfolding no_fields fields_after
  line_goes_on h = rw (lt-ltb at (length line) h, (some_field (drop (at + 1) line)).2) refl

-- a first field that is not one byte is no letter
not_letter : (letter : List ℕ) (fields : List (List ℕ)) → (length letter ≡ 1 → ⊥) → kind_of (letter ∷ fields) ≡ None
unfolding kind_of same
not_letter [] fields h = refl
not_letter (byte ∷ []) fields h = absurd (h refl)
not_letter (byte ∷ other ∷ letter) fields h =
    rw (and-false (eqb byte 78), and-false (eqb byte 70), and-false (eqb byte 65), and-false (eqb byte 84), and-false (eqb byte 83)) refl

first_byte : (line : List ℕ) → 1 ≤ length line → take 1 line ≡ get_or line 0 0 ∷ []
first_byte [] h = absurd (omega arith)
first_byte (byte ∷ line) h = refl

module _ (line : List ℕ) where
  pub parsed_empty : length line < 1 → None ≡ parsed_of line
  unfolding parsed_of
  parsed_empty h = rw (lt-leb 1 (length line) h) refl

  pub parsed_long : most_bytes < length line → None ≡ parsed_of line
  unfolding parsed_of
  parsed_long h = rw (lt-leb (length line) most_bytes h, and-false (leb 1 (length line))) refl

  module _ {end : ℕ} (some : 1 ≤ length line) (short : length line ≤ most_bytes) (ends : FieldEnd line 0 end) where
    parsed_first : parsed_of line ≡ kind_of (part line 0 end ∷ fields_after line end)
    unfolding parsed_of
    parsed_first = rw (le-leb 1 (length line) some, le-leb (length line) most_bytes short, field_from ends) refl

    pub parsed_no_letter : (end ≡ 1 → ⊥) → None ≡ parsed_of line
    parsed_no_letter h =
        let within = ends.within in
        let long : length (part line 0 end) ≡ end = simp length-take (omega arith) in
        rw (parsed_first, not_letter (part line 0 end) (fields_after line end) (λ e. h (sym long ∙ e))) refl

    pub parsed_letter : end ≡ 1 → kind_of ((get_or line 0 0 ∷ []) ∷ fields_after line 1) ≡ parsed_of line
    parsed_letter e = rw (parsed_first, e, first_byte line some) refl

-- Entries in range

abbrev ParsedInRange : Option Line → Type 0
ParsedInRange (Some l) = KindInRange l.kind
ParsedInRange None = Unit {0}

readable_in_range : (t : Bool) (kind : Kind) → (t ≡ true → KindInRange kind) → ParsedInRange (readable t kind)
readable_in_range true kind h = h refl
readable_in_range false kind h = tt

both_in_range :
    (t u : Bool) (kind : Kind) → (t ≡ true → ParsedInRange (readable u kind)) → ParsedInRange (readable (t && u) kind)
both_in_range true u kind h = h refl
both_in_range false u kind h = tt

insert_fields_in_range : (fields : List (List ℕ)) → ParsedInRange (insert_fields fields)
unfolding insert_fields
insert_fields_in_range [] = tt
insert_fields_in_range (class ∷ []) = tt
insert_fields_in_range (class ∷ unit ∷ []) = tt
insert_fields_in_range (class ∷ unit ∷ serial ∷ []) = tt
insert_fields_in_range (class ∷ unit ∷ serial ∷ value ∷ []) =
    both_in_range (is_class class) (is_unit unit && (is_serial serial && is_value value)) _ (λ c.
    both_in_range (is_unit unit) (is_serial serial && is_value value) _ (λ u.
    both_in_range (is_serial serial) (is_value value) _ (λ s. readable_in_range (is_value value) _ (λ v. entry_in_range class unit serial c u s))))
insert_fields_in_range (class ∷ unit ∷ serial ∷ value ∷ further ∷ fields) = tt

entry_fields_in_range :
    (kind : Entry → Kind) → ((e : Entry) → InRange e → KindInRange (kind e)) → (fields : List (List ℕ)) →
    ParsedInRange (entry_fields kind fields)
unfolding entry_fields
entry_fields_in_range kind h [] = tt
entry_fields_in_range kind h (class ∷ []) = tt
entry_fields_in_range kind h (class ∷ unit ∷ []) = tt
entry_fields_in_range kind h (class ∷ unit ∷ serial ∷ []) =
    both_in_range (is_class class) (is_unit unit && is_serial serial) _ (λ c.
    both_in_range (is_unit unit) (is_serial serial) _ (λ u.
    readable_in_range (is_serial serial) _ (λ s. h (entry class unit serial) (entry_in_range class unit serial c u s))))
entry_fields_in_range kind h (class ∷ unit ∷ serial ∷ further ∷ fields) = tt

no_fields_in_range : (kind : Kind) → KindInRange kind → (fields : List (List ℕ)) → ParsedInRange (no_fields kind fields)
unfolding no_fields
no_fields_in_range kind h [] = h
no_fields_in_range kind h (further ∷ fields) = tt

either : (t : Bool) (a b : Option Line) → ParsedInRange a → ParsedInRange b → ParsedInRange (cond t a b)
either true a b p q = p
either false a b p q = q

kind_in_range : (fields : List (List ℕ)) → ParsedInRange (kind_of fields)
unfolding kind_of
kind_in_range [] = tt
kind_in_range (letter ∷ fields) =
    either (same letter (78 ∷ [])) _ _ (insert_fields_in_range fields)
    (either (same letter (70 ∷ [])) _ _ (entry_fields_in_range Find (λ e h. h) fields)
    (either (same letter (65 ∷ [])) _ _ (entry_fields_in_range Finish (λ e h. h) fields)
    (either (same letter (84 ∷ [])) _ _ (no_fields_in_range Take tt fields)
    (either (same letter (83 ∷ [])) _ _ (no_fields_in_range Sweep tt fields) tt))))

parsed_in_range : (line : List ℕ) → ParsedInRange (parsed_of line)
unfolding parsed_of
parsed_in_range line = either (leb 1 (length line) && leb (length line) most_bytes) _ _ (kind_in_range (fields_of line)) tt

-- A line that `parse` reads has its entry in range, so that it has a key.
pub read_in_range : (line : List ℕ) {l : Line} → parsed_of line ≡ Some l → KindInRange l.kind
read_in_range line reads = rw reads at (parsed_in_range line)
