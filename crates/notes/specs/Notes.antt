-- What a record notes: an entry, and the number that the logger gave it.
use Rattle.std.specs.Prelude.{Bool, cond, ◌&&◌, List, [], ◌∷◌, ℕ, ◌≤◌, None, Option, Some}
use Rattle.text.specs.Fields.{decimal_from, is_number}
use Rattle.entries.specs.Entries.{is_class, is_unit, is_serial, entry, InRange}
use Rattle.entries.specs.declared.Entry.{Entry}
use Rattle.records.specs.Reading.{Said, fields, no_record, said_by}

-- What a record notes: an entry and the logger's number; nothing where it breaks the grammar or a field's range.
abbrev pub Logged : Type 0
Logged = Option (Entry × ℕ)

-- The logger's number has 16 bits.
abbrev pub least_number : ℕ
least_number = 0

abbrev pub most_number : ℕ
most_number = 65535

abbrev pub is_logger_number : List ℕ → Bool
is_logger_number field = is_number least_number most_number field

-- Exactly five fields: class, unit, serial, text, logger number. The text may be any.
unfoldable pub five_fields : List (List ℕ) → Logged
five_fields [] = None
five_fields (class ∷ []) = None
five_fields (class ∷ unit ∷ []) = None
five_fields (class ∷ unit ∷ serial ∷ []) = None
five_fields (class ∷ unit ∷ serial ∷ text ∷ []) = None
five_fields (class ∷ unit ∷ serial ∷ text ∷ number ∷ []) =
    cond (is_class class && (is_unit unit && (is_serial serial && is_logger_number number)))
    (Some (entry class unit serial, decimal_from 0 number)) None
five_fields (class ∷ unit ∷ serial ∷ text ∷ number ∷ further ∷ values) = None

abbrev pub note_of : Said → Logged
note_of (fields values) = five_fields values
note_of no_record = None

-- what the bytes of a record note
unfoldable pub note_by : List ℕ → Logged
note_by bytes = note_of (said_by bytes)

-- a note's entry and number are in range
pub record NoteWithin (e : Entry) (n : ℕ) : Type 0 where
  pub entry : InRange e
  pub number : n ≤ most_number

abbrev pub Within : Logged → Type 0
Within (Some (e, number)) = NoteWithin e number
Within None = Unit {0}
