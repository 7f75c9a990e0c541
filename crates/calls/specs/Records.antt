-- The seventh operation, record: it puts what a record of the logger notes into the list, and keeps the last full number. The operations 7,
-- Records.
use Rattle.settings.specs.declared.Settings.{Settings}
use Rattle.std.specs.Prelude.{cond, List, ℕ, eqb, None, Option, Some}
use Rattle.entries.specs.Entries.{entry_key}
use Rattle.entries.specs.declared.Entry.{Entry}
use Rattle.notes.specs.Notes.{note_by}
use Rattle.full_number.specs.FullNumber.{full_number}
use Rattle.notes.specs.Notes.{Logged}
use Rattle.meaning.specs.Reading.{reading_of}
use Rattle.answers.specs.Refusals.{Outcome, refused}
use Rattle.answers.specs.declared.Refusal.{Refusal}
use Rattle.answers.specs.declared.Refusal.TheVariants.{NotAList, BadRecord, NumberOutside}
use Rattle.meaning.specs.Operations.{insert_out}

-- All that is lent to a call: the words of a list; beside them, to record, the bytes of a record and the last full number; to write and
-- read, the bytes of a file.
pub record Lent : Type 0 where
  pub words : List ℕ
  pub bytes : List ℕ
  pub last : ℕ

abbrev pub lent_of : List ℕ → List ℕ → ℕ → Lent
lent_of words bytes last = record { words = words; bytes = bytes; last = last }

-- What a record asks for: nothing, for refusal 13 or 14; or that a key be inserted with its full number as the value.
pub data Asked : Type 0 where
  nothing : Refusal → Asked
  insertion : (key number : ℕ) → Asked

abbrev pub number_asks : Entry → Option ℕ → Asked
number_asks e (Some number) = insertion (entry_key e) number
number_asks e None = nothing NumberOutside

abbrev pub note_asks : ℕ → Logged → Asked
note_asks last (Some (e, own)) = number_asks e (full_number last own)
note_asks last None = nothing BadRecord

-- An accepted record makes the last number its full number; a refused one alters neither list nor number.
abbrev pub recorded : Lent → ℕ → Outcome (List ℕ) → Outcome Lent
recorded lent number o =
    record { answered = o.answered; left = lent_of o.left lent.bytes (cond (eqb o.answered.refusal 0) number lent.last) }

abbrev pub asked_out : Lent → Asked → Outcome Lent
asked_out lent (nothing refusal) = refused refusal lent
asked_out lent (insertion key number) = recorded lent number (insert_out lent.words key number)

-- Refusals 1: first 3, then 13 and 14, then insert's own.
abbrev pub note_on : Lent → Logged → Option Settings → Outcome Lent
note_on lent logged (Some s) = asked_out lent (note_asks lent.last logged)
note_on lent logged None = refused NotAList lent

-- what a note does
unfoldable pub note_out : Logged → Lent → Outcome Lent
note_out logged lent = note_on lent logged (reading_of lent.words)

-- The operations 7: a record does what it notes.
unfoldable pub record_out : Lent → Outcome Lent
record_out lent = note_out (note_by lent.bytes) lent
