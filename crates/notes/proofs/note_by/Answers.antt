-- `notes::note_by` meets its contract: reading the record from its start is reading what is left of it after the bytes so far.
use mathlib.Core.Path.{sym, ◌∙◌, ap}
use Prim.Native.Nat.{◌+◌}
use lib.ListN.{drop}
use borrow.Author.Rules.{rules}
use Rattle.text.proofs.Parts.{after_more, after_none}
use Rattle.notes.specs.Reader.{reader_on, reader_after, note_at}
use Rattle.notes.proofs.Notes.{reader_notes}
use Rattle.notes.proofs.note_by.Goals as goal

pub loop-byte-preserved : goal.loop-byte-preserved
loop-byte-preserved c =
    let v = c.loop-byte in
    let a = c.args in
    let more = after_more reader_on v.reader a.bytes.now v.byte-index (search rules) in
    v.invariant ∙ (more ∙ ap (λ reader. reader_after reader (drop (v.byte-index + 1) a.bytes.now)) (sym c.reader_on-reader.ensures))

pub returns : goal.returns
returns c =
    let v = c.loop-byte in
    let a = c.args in
    let all = after_none reader_on v.reader a.bytes.now v.byte-index (search rules) in
    c.note_at.ensures ∙ (ap note_at (sym (v.invariant ∙ all)) ∙ reader_notes a.bytes.now)
