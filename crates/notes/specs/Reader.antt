-- The reading of a record's five fields byte by byte: what is known so far, and what a byte makes of it. No byte need be kept.
use Rattle.std.specs.Prelude.{cond, List, ℕ, None, Option, Some}
use Rattle.text.specs.Parts.{after_all}
use Rattle.text.specs.Answers.{digit_on, ended_at}
use Rattle.text.specs.declared.fields.Begun.TheVariants.{NoDigit}
use Rattle.entries.specs.Entries.{least_class, most_class, least_unit, most_unit, least_serial, most_serial, entry_of}
use Rattle.entries.specs.declared.Entry.{Entry}
use Rattle.records.specs.Reading.{step_on, may_end}
use Rattle.records.specs.declared.Stand.TheVariants.{AtField}
use Rattle.records.specs.declared.Adds.{Adds}
use Rattle.records.specs.declared.Adds.TheVariants.{ItsByte, AField, NoPart}
use Rattle.notes.specs.Notes.{least_number, most_number}
use Rattle.notes.specs.Notes.{Logged}
use Rattle.notes.specs.declared.Place.{Place}
use Rattle.notes.specs.declared.Place.TheVariants.{AtClass, AtUnit, AtSerial, AtText, AtNumber, NoPlace}
use Rattle.notes.specs.declared.Reader.{Reader}

-- a byte of the field at hand
unfoldable pub place_on : Place → ℕ → Place
place_on (AtClass begun) byte = AtClass (digit_on most_class begun byte)
place_on (AtUnit class begun) byte = AtUnit class (digit_on most_unit begun byte)
place_on (AtSerial class unit begun) byte = AtSerial class unit (digit_on most_serial begun byte)
place_on (AtText e) byte = AtText e
place_on (AtNumber e begun) byte = AtNumber e (digit_on most_number begun byte)
place_on NoPlace byte = NoPlace

-- a field that has to be a number, and the place after it
abbrev pub past : Option ℕ → (ℕ → Place) → Place
past (Some n) place = place n
past None place = NoPlace

-- the field at hand has ended, and another begins
unfoldable pub place_after : Place → Place
place_after (AtClass begun) = past (ended_at least_class begun) (λ class. AtUnit class NoDigit)
place_after (AtUnit class begun) = past (ended_at least_unit begun) (λ unit. AtSerial class unit NoDigit)
place_after (AtSerial class unit begun) =
    past (ended_at least_serial begun) (λ serial. AtText (entry_of class unit serial))
place_after (AtText e) = AtNumber e NoDigit
place_after (AtNumber e begun) = NoPlace
place_after NoPlace = NoPlace

abbrev pub place_by : Adds → Place → ℕ → Place
place_by ItsByte place byte = place_on place byte
place_by AField place byte = place_after place
place_by NoPart place byte = place

abbrev pub reader_from : Reader
reader_from = record { stand = AtField; place = AtClass NoDigit }

-- one byte of a record
unfoldable pub reader_on : Reader → ℕ → Reader
reader_on reader byte =
    record { stand = (step_on reader.stand byte).stand; place = place_by (step_on reader.stand byte).adds reader.place byte }

-- the bytes of a record
abbrev pub reader_after : Reader → List ℕ → Reader
reader_after = after_all reader_on

abbrev pub numbered : Entry → Option ℕ → Logged
numbered e (Some number) = Some (e, number)
numbered e None = None

-- what a record notes whose last field ends here
unfoldable pub note_in : Place → Logged
note_in (AtClass begun) = None
note_in (AtUnit class begun) = None
note_in (AtSerial class unit begun) = None
note_in (AtText e) = None
note_in (AtNumber e begun) = numbered e (ended_at least_number begun)
note_in NoPlace = None

-- what a record notes that ends here
unfoldable pub note_at : Reader → Logged
note_at reader = cond (may_end reader.stand) (note_in reader.place) None
