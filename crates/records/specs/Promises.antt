-- What is promised of the reading of a record. proofs/Promises.antt proves each.
use Rattle.std.specs.Prelude.{◌≡◌, Bool, true, cond, ◌||◌, List, [], ◌∷◌, ◌++◌, map, ◌↔◌, ℕ, eqb}
use Rattle.lists.specs.Lists.{every}
use Rattle.records.specs.Grammar.{comma, quote, is_text, stands_in_quotes, line_end, Record}
use Rattle.records.specs.Reading.{fields, said_by}

-- the reading accepts exactly the bytes that the grammar derives, with the same fields
abbrev pub ReadingIsGrammar : Type 0
ReadingIsGrammar = (bytes : List ℕ) (values : List (List ℕ)) → (said_by bytes ≡ fields values) ↔ Record bytes values

-- no bytes have two derivations that differ in their fields
abbrev pub OneRecord : Type 0
OneRecord = (bytes : List ℕ) (values others : List (List ℕ)) → Record bytes values → Record bytes others → values ≡ others

-- a field to write: as it is, or between quotes
pub data Writing : Type 0 where
  plainly : List ℕ → Writing
  between_quotes : List ℕ → Writing

abbrev pub value_of : Writing → List ℕ
value_of (plainly value) = value
value_of (between_quotes value) = value

-- between quotes a quote is written twice
unfoldable pub doubled : List ℕ → List ℕ
doubled [] = []
doubled (byte ∷ value) = cond (eqb byte quote) (quote ∷ quote ∷ doubled value) (byte ∷ doubled value)

abbrev pub written : Writing → List ℕ
written (plainly value) = value
written (between_quotes value) = quote ∷ (doubled value ++ (quote ∷ []))

-- which values can be written so
abbrev pub can_write : Writing → Bool
can_write (plainly value) = every is_text value
can_write (between_quotes value) = every (λ byte. eqb byte quote || stands_in_quotes byte) value

-- a first field and further ones, each after a comma
unfoldable pub written_all : Writing → List Writing → List ℕ
written_all first [] = written first
written_all first (next ∷ writings) = written first ++ (comma ∷ written_all next writings)

-- what is written reads back, closed or not
abbrev pub WrittenReadsBack : Type 0
WrittenReadsBack =
    (first : Writing) (writings : List Writing) → every can_write (first ∷ writings) ≡ true →
    (said_by (written_all first writings) ≡ fields (map value_of (first ∷ writings))) ×
    (said_by (written_all first writings ++ line_end) ≡ fields (map value_of (first ∷ writings)))
