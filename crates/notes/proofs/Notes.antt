-- The reading of a record byte by byte notes what the record's fields say: the bytes of a field take its place on as far as its digits do, and
-- from place to place the five fields are gone through.
use Rattle.std.specs.Prelude.{None, Some}
use mathlib.Core.Path.{◌≡◌, refl, ◌∙◌}
use mathlib.Core.Bool.{Bool, true, false, cond, ◌&&◌}
use mathlib.Core.List.{List, [], ◌∷◌}
use Prim.Native.Nat.{ℕ}
use Rattle.text.specs.Parts.{after_all}
use Rattle.text.specs.Fields.{decimal_from, is_number}
use Rattle.text.specs.Answers.{digit_on, digits_on, ended_at, number_of}
use Rattle.text.specs.declared.fields.Begun.{Begun}
use Rattle.text.specs.declared.fields.Begun.TheVariants.{NoDigit}
use Rattle.text.proofs.Numerals.{number_by_digits, number_within}
use Rattle.entries.specs.Entries.{least_class, most_class, least_unit, most_unit, least_serial, most_serial, is_class, is_unit, is_serial, entry_of, entry}
use Rattle.entries.specs.declared.Entry.{Entry}
use Rattle.entries.proofs.Ranges.{entry_in_range}
use Rattle.records.specs.Reading.{Said, fields, no_record, added, may_end, said_from, said_by, step_on}
use Rattle.records.specs.declared.Stand.{Stand}
use Rattle.records.specs.declared.Stand.TheVariants.{AtField}
use Rattle.records.specs.declared.Adds.{Adds}
use Rattle.records.specs.declared.Adds.TheVariants.{ItsByte, AField, NoPart}
use Rattle.notes.specs.Notes.{least_number, most_number, is_logger_number, five_fields, note_of, note_by, Within}
use Rattle.notes.specs.Reader.{place_on, past, place_after, place_by, reader_from, reader_on, reader_after, numbered, note_in, note_at}
use Rattle.notes.specs.Promises.{NotesWithin}
use Rattle.notes.specs.Notes.{Logged}
use Rattle.notes.specs.declared.Place.{Place}
use Rattle.notes.specs.declared.Place.TheVariants.{AtClass, AtUnit, AtSerial, AtText, AtNumber, NoPlace}
use Rattle.notes.specs.declared.Reader.{Reader}

-- From a place on

-- the place after the bytes of a field
abbrev place_over : Place → List ℕ → Place
place_over = after_all place_on

-- what fields note from a place on, the first of them being what is left of the field at hand
unfoldable note_from : Place → List (List ℕ) → Logged
note_from place [] = None
note_from place (field ∷ []) = note_in (place_over place field)
note_from place (field ∷ next ∷ values) = note_from (place_after (place_over place field)) (next ∷ values)

abbrev said_from_place : Place → Said → Logged
said_from_place place (fields values) = note_from place values
said_from_place place no_record = None

-- there is always a field
abbrev SomeField : Said → Type 0
SomeField (fields []) = ⊥
SomeField (fields (field ∷ values)) = Unit {0}
SomeField no_record = Unit {0}

some_field : (adds : Adds) (byte : ℕ) (said : Said) → SomeField said → SomeField (added adds byte said)
some_field NoPart byte said some = some
some_field ItsByte byte no_record some = tt
some_field ItsByte byte (fields []) some = elim some [ ]
some_field ItsByte byte (fields (field ∷ values)) some = tt
some_field AField byte no_record some = tt
some_field AField byte (fields values) some = tt

some_said : (stand : Stand) (bytes : List ℕ) → SomeField (said_from stand bytes)
unfolding said_from
some_said stand [] = at (may_end stand)
  where
    at : (t : Bool) → SomeField (cond t (fields ([] ∷ [])) no_record)
    at true = tt
    at false = tt
some_said stand (byte ∷ bytes) = some_field (step_on stand byte).adds byte _ (some_said (step_on stand byte).stand bytes)

-- what a byte adds to the fields, it does to the place
byte_on :
    (adds : Adds) (place : Place) (byte : ℕ) (said : Said) → SomeField said →
    said_from_place (place_by adds place byte) said ≡ said_from_place place (added adds byte said)
unfolding note_from after_all
byte_on NoPart place byte said some = refl
byte_on ItsByte place byte no_record some = refl
byte_on ItsByte place byte (fields []) some = elim some [ ]
byte_on ItsByte place byte (fields (field ∷ [])) some = refl
byte_on ItsByte place byte (fields (field ∷ next ∷ values)) some = refl
byte_on AField place byte no_record some = refl
byte_on AField place byte (fields []) some = elim some [ ]
byte_on AField place byte (fields (field ∷ values)) some = refl

reader_says : (bytes : List ℕ) (reader : Reader) → note_at (reader_after reader bytes) ≡ said_from_place reader.place (said_from reader.stand bytes)
unfolding after_all reader_on said_from note_at note_from
reader_says [] reader = at (may_end reader.stand)
  where
    at : (t : Bool) → cond t (note_in reader.place) None ≡ said_from_place reader.place (cond t (fields ([] ∷ [])) no_record)
    at true = refl
    at false = refl
reader_says (byte ∷ bytes) reader =
    reader_says bytes (reader_on reader byte) ∙
    byte_on (step_on reader.stand byte).adds reader.place byte _ (some_said (step_on reader.stand byte).stand bytes)

-- Through the five fields

class_over : (begun : Begun) (field : List ℕ) → place_over (AtClass begun) field ≡ AtClass (digits_on most_class begun field)
unfolding after_all place_on
class_over begun [] = refl
class_over begun (byte ∷ field) = class_over (digit_on most_class begun byte) field

unit_over : (class : ℕ) (begun : Begun) (field : List ℕ) → place_over (AtUnit class begun) field ≡ AtUnit class (digits_on most_unit begun field)
unfolding after_all place_on
unit_over class begun [] = refl
unit_over class begun (byte ∷ field) = unit_over class (digit_on most_unit begun byte) field

serial_over :
    (class unit : ℕ) (begun : Begun) (field : List ℕ) →
    place_over (AtSerial class unit begun) field ≡ AtSerial class unit (digits_on most_serial begun field)
unfolding after_all place_on
serial_over class unit begun [] = refl
serial_over class unit begun (byte ∷ field) = serial_over class unit (digit_on most_serial begun byte) field

text_over : (e : Entry) (field : List ℕ) → place_over (AtText e) field ≡ AtText e
unfolding after_all place_on
text_over e [] = refl
text_over e (byte ∷ field) = text_over e field

number_over : (e : Entry) (begun : Begun) (field : List ℕ) → place_over (AtNumber e begun) field ≡ AtNumber e (digits_on most_number begun field)
unfolding after_all place_on
number_over e begun [] = refl
number_over e begun (byte ∷ field) = number_over e (digit_on most_number begun byte) field

none_over : (field : List ℕ) → place_over NoPlace field ≡ NoPlace
unfolding after_all place_on
none_over [] = refl
none_over (byte ∷ field) = none_over field

no_place : (values : List (List ℕ)) → note_from NoPlace values ≡ None
unfolding note_from note_in place_after
no_place [] = refl
no_place (field ∷ []) = rw (none_over field) refl
no_place (field ∷ next ∷ values) = rw (none_over field) (no_place (next ∷ values))

-- a field that has to be a number
past_number :
    (least most : ℕ) (field : List ℕ) (place : ℕ → Place) (values : List (List ℕ)) →
    note_from (past (ended_at least (digits_on most NoDigit field)) place) values ≡
    cond (is_number least most field) (note_from (place (decimal_from 0 field)) values) None
unfolding number_of
past_number least most field place values = rw (number_by_digits least most field) (at (is_number least most field))
  where
    at :
        (t : Bool) →
        note_from (past (cond t (Some (decimal_from 0 field)) None) place) values ≡
        cond t (note_from (place (decimal_from 0 field)) values) None
    at true = refl
    at false = no_place values

module _ (next : List ℕ) (values : List (List ℕ)) where
  past_class :
      (class : List ℕ) →
      note_from (AtClass NoDigit) (class ∷ next ∷ values) ≡
      cond (is_class class) (note_from (AtUnit (decimal_from 0 class) NoDigit) (next ∷ values)) None
  unfolding note_from place_after
  past_class class =
      rw (class_over NoDigit class) (past_number least_class most_class class (λ n. AtUnit n NoDigit) (next ∷ values))

  past_unit :
      (class : ℕ) (unit : List ℕ) →
      note_from (AtUnit class NoDigit) (unit ∷ next ∷ values) ≡
      cond (is_unit unit) (note_from (AtSerial class (decimal_from 0 unit) NoDigit) (next ∷ values)) None
  unfolding note_from place_after
  past_unit class unit =
      rw (unit_over class NoDigit unit) (past_number least_unit most_unit unit (λ n. AtSerial class n NoDigit) (next ∷ values))

  past_serial :
      (class unit : ℕ) (serial : List ℕ) →
      note_from (AtSerial class unit NoDigit) (serial ∷ next ∷ values) ≡
      cond (is_serial serial) (note_from (AtText (entry_of class unit (decimal_from 0 serial))) (next ∷ values)) None
  unfolding note_from place_after
  past_serial class unit serial =
      rw (serial_over class unit NoDigit serial)
      (past_number least_serial most_serial serial (λ n. AtText (entry_of class unit n)) (next ∷ values))

  past_text : (e : Entry) (text : List ℕ) → note_from (AtText e) (text ∷ next ∷ values) ≡ note_from (AtNumber e NoDigit) (next ∷ values)
  unfolding note_from place_after
  past_text e text = rw (text_over e text) refl

  past_fifth : (e : Entry) (number : List ℕ) → note_from (AtNumber e NoDigit) (number ∷ next ∷ values) ≡ None
  unfolding note_from place_after
  past_fifth e number = rw (number_over e NoDigit number) (no_place (next ∷ values))

-- the fifth field
last_number :
    (e : Entry) (number : List ℕ) →
    note_from (AtNumber e NoDigit) (number ∷ []) ≡ cond (is_logger_number number) (Some (e, decimal_from 0 number)) None
unfolding note_from note_in number_of
last_number e number =
    rw (number_over e NoDigit number, number_by_digits least_number most_number number) (at (is_logger_number number))
  where
    at : (t : Bool) → numbered e (cond t (Some (decimal_from 0 number)) None) ≡ cond t (Some (e, decimal_from 0 number)) None
    at true = refl
    at false = refl

-- a field before it that is the last one
module _ (field : List ℕ) where
  last_class : note_from (AtClass NoDigit) (field ∷ []) ≡ None
  unfolding note_from note_in
  last_class = rw (class_over NoDigit field) refl

  last_unit : (class : ℕ) → note_from (AtUnit class NoDigit) (field ∷ []) ≡ None
  unfolding note_from note_in
  last_unit class = rw (unit_over class NoDigit field) refl

  last_serial : (class unit : ℕ) → note_from (AtSerial class unit NoDigit) (field ∷ []) ≡ None
  unfolding note_from note_in
  last_serial class unit = rw (serial_over class unit NoDigit field) refl

  last_text : (e : Entry) → note_from (AtText e) (field ∷ []) ≡ None
  unfolding note_from note_in
  last_text e = rw (text_over e field) refl

either : (t : Bool) → cond {A = Logged} t None None ≡ None
either true = refl
either false = refl

both : (t u : Bool) (x : Logged) → cond t (cond u x None) None ≡ cond (t && u) x None
both true u x = refl
both false u x = refl

from_the_first : (values : List (List ℕ)) → note_from (AtClass NoDigit) values ≡ five_fields values
unfolding note_from five_fields
from_the_first [] = refl
from_the_first (class ∷ []) = last_class class
from_the_first (class ∷ unit ∷ []) = past_class unit [] class ∙ rw (last_unit unit (decimal_from 0 class)) (either (is_class class))
from_the_first (class ∷ unit ∷ serial ∷ []) =
    past_class unit (serial ∷ []) class ∙
    rw (past_unit serial [] (decimal_from 0 class) unit, last_serial serial (decimal_from 0 class) (decimal_from 0 unit), either (is_unit unit))
    (either (is_class class))
from_the_first (class ∷ unit ∷ serial ∷ text ∷ []) =
    past_class unit (serial ∷ text ∷ []) class ∙
    rw (
      past_unit serial (text ∷ []) (decimal_from 0 class) unit,
      past_serial text [] (decimal_from 0 class) (decimal_from 0 unit) serial,
      last_text text (entry class unit serial),
      either (is_serial serial),
      either (is_unit unit),
    )
    (either (is_class class))
from_the_first (class ∷ unit ∷ serial ∷ text ∷ number ∷ []) =
    past_class unit (serial ∷ text ∷ number ∷ []) class ∙
    rw (
      past_unit serial (text ∷ number ∷ []) (decimal_from 0 class) unit,
      past_serial text (number ∷ []) (decimal_from 0 class) (decimal_from 0 unit) serial,
      past_text number [] (entry class unit serial) text,
      last_number (entry class unit serial) number,
      both (is_serial serial) (is_logger_number number) (Some (entry class unit serial, decimal_from 0 number)),
      both (is_unit unit) (is_serial serial && is_logger_number number) (Some (entry class unit serial, decimal_from 0 number)),
    )
    (both (is_class class) (is_unit unit && (is_serial serial && is_logger_number number)) (Some (entry class unit serial, decimal_from 0 number)))
from_the_first (class ∷ unit ∷ serial ∷ text ∷ number ∷ further ∷ values) =
    past_class unit (serial ∷ text ∷ number ∷ further ∷ values) class ∙
    rw (
      past_unit serial (text ∷ number ∷ further ∷ values) (decimal_from 0 class) unit,
      past_serial text (number ∷ further ∷ values) (decimal_from 0 class) (decimal_from 0 unit) serial,
      past_text number (further ∷ values) (entry class unit serial) text,
      past_fifth further values (entry class unit serial) number,
      either (is_serial serial),
      either (is_unit unit),
    )
    (either (is_class class))

-- The bytes of a record, read one after the other, note what the record does.
pub reader_notes : (bytes : List ℕ) → note_at (reader_after reader_from bytes) ≡ note_by bytes
unfolding note_by said_by
reader_notes bytes = reader_says bytes reader_from ∙ at (said_from AtField bytes)
  where
    at : (said : Said) → said_from_place (AtClass NoDigit) said ≡ note_of said
    at (fields values) = from_the_first values
    at no_record = refl

-- A note's entry and number are in range.

both_within : (t u : Bool) (x : Logged) → (t ≡ true → Within (cond u x None)) → Within (cond (t && u) x None)
both_within true u x h = h refl
both_within false u x h = tt

one_within : (t : Bool) (x : Logged) → (t ≡ true → Within x) → Within (cond t x None)
one_within true x h = h refl
one_within false x h = tt

five_within : (values : List (List ℕ)) → Within (five_fields values)
unfolding five_fields number_of
five_within [] = tt
five_within (class ∷ []) = tt
five_within (class ∷ unit ∷ []) = tt
five_within (class ∷ unit ∷ serial ∷ []) = tt
five_within (class ∷ unit ∷ serial ∷ text ∷ []) = tt
five_within (class ∷ unit ∷ serial ∷ text ∷ number ∷ []) =
    both_within (is_class class) (is_unit unit && (is_serial serial && is_logger_number number)) _ (λ c.
    both_within (is_unit unit) (is_serial serial && is_logger_number number) _ (λ u.
    both_within (is_serial serial) (is_logger_number number) _ (λ s.
    one_within (is_logger_number number) _ (λ n. record {
      entry = entry_in_range class unit serial c u s;
      number = (number_within least_number most_number number {n = decimal_from 0 number} (rw n refl)).1;
    }))))
five_within (class ∷ unit ∷ serial ∷ text ∷ number ∷ further ∷ values) = tt

pub notes_within : NotesWithin
unfolding note_by
notes_within bytes = at (said_by bytes)
  where
    at : (said : Said) → Within (note_of said)
    at (fields values) = five_within values
    at no_record = tt
