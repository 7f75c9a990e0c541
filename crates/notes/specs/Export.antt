-- The records of an export, and what they note.
use Rattle.std.specs.Prelude.{Bool, true, false, cond, ◌&&◌, not, List, [], ◌∷◌, ◌++◌, map, ℕ, eqb}
use Rattle.text.specs.Lines.{line_feed}
use Rattle.records.specs.Grammar.{quote, carriage_return}
use Rattle.notes.specs.Notes.{note_by}
use Rattle.notes.specs.Notes.{Logged}

-- an even number of quotes
unfoldable pub even_quotes : List ℕ → Bool
even_quotes [] = true
even_quotes (byte ∷ bytes) = cond (eqb byte quote) (not (even_quotes bytes)) (even_quotes bytes)

-- the last byte is a carriage return
unfoldable pub ends_in_return : List ℕ → Bool
ends_in_return [] = false
ends_in_return (byte ∷ []) = eqb byte carriage_return
ends_in_return (byte ∷ next ∷ bytes) = ends_in_return (next ∷ bytes)

-- a byte ends the record begun: it is the line feed of a CRLF, with an even number of quotes before it
abbrev pub closes : List ℕ → ℕ → Bool
closes begun byte = eqb byte line_feed && (ends_in_return begun && even_quotes begun)

-- The records of an export after the bytes `begun` of its first: each ends with the first CRLF that closes it; what follows the last of
-- these is a record if there is any.
unfoldable pub records_after : List ℕ → List ℕ → List (List ℕ)
records_after [] [] = []
records_after (b ∷ begun) [] = (b ∷ begun) ∷ []
records_after begun (byte ∷ export) =
    cond (closes begun byte) ((begun ++ (byte ∷ [])) ∷ records_after [] export) (records_after (begun ++ (byte ∷ [])) export)

unfoldable pub records_of : List ℕ → List (List ℕ)
records_of export = records_after [] export

-- what the records of an export note
unfoldable pub notes_of : List ℕ → List Logged
notes_of export = map note_by (records_of export)
