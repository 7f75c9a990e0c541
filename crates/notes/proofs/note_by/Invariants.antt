-- `notes::note_by` meets its contract: reading the record from its start is reading what is left of it after the bytes so far.
use mathlib.Core.Path.{◌≡◌}
use lib.ListN.{drop}
use Rattle.notes.specs.Reader.{reader_from, reader_after}
use Rattle.notes.proofs.note_by.Given as goal

abbrev pub invariant-loop-byte : goal.invariant-loop-byte
invariant-loop-byte l = reader_after reader_from l.bytes ≡ reader_after l.reader (drop l.byte-index l.bytes)
