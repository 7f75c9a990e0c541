-- What is promised of what records and exports note. proofs/Notes.antt and proofs/Feeding.antt prove it.
use Rattle.std.specs.Prelude.{◌≡◌, ℕ}
use mathlib.Core.List.{List, [], flatten}
use Rattle.text.specs.Parts.{handed_by_parts}
use Rattle.notes.specs.Notes.{note_by, Within}
use Rattle.notes.specs.Export.{notes_of}
use Rattle.notes.specs.Feeding.{record_handing}

-- however an export is cut into parts, what its records note is handed on
abbrev pub ExportInParts : Type 0
ExportInParts = (parts : List (List ℕ)) → handed_by_parts record_handing [] parts ≡ notes_of (flatten parts)

-- a note's entry and number are in range
abbrev pub NotesWithin : Type 0
NotesWithin = (bytes : List ℕ) → Within (note_by bytes)
