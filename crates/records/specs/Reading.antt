-- The reading of a record, byte by byte, and the fields that it gives. Promises.antt: it accepts what the grammar derives, and gives the same fields.
use Rattle.std.specs.Prelude.{Bool, true, false, cond, List, [], ◌∷◌, ℕ, eqb}
use Rattle.text.specs.Fields.{in_first}
use Rattle.text.specs.Lines.{line_feed}
use Rattle.records.specs.Grammar.{comma, quote, carriage_return, is_text, stands_in_quotes}
use Rattle.records.specs.declared.Stand.{Stand}
use Rattle.records.specs.declared.Stand.TheVariants.{AtField, InPlain, InQuotes, AtQuote, AtReturn, Closed, Broken}
use Rattle.records.specs.declared.Adds.{Adds}
use Rattle.records.specs.declared.Adds.TheVariants.{ItsByte, AField, NoPart}
use Rattle.records.specs.declared.Step.{Step}

-- the stand after a byte, and what the byte adds
abbrev pub to : Stand → Adds → Step
to stand adds = record { stand = stand; adds = adds }

-- a byte right after a field: a comma, or the first of CRLF
unfoldable pub after_field : ℕ → Step
after_field byte =
    cond (eqb byte comma) (to AtField AField)
    (cond (eqb byte carriage_return) (to AtReturn NoPart) (to Broken NoPart))

-- one byte of a record
unfoldable pub step_on : Stand → ℕ → Step
step_on AtField byte = cond (is_text byte) (to InPlain ItsByte) (cond (eqb byte quote) (to InQuotes NoPart) (after_field byte))
step_on InPlain byte = cond (is_text byte) (to InPlain ItsByte) (after_field byte)
step_on InQuotes byte =
    cond (stands_in_quotes byte) (to InQuotes ItsByte)
    (cond (eqb byte quote) (to AtQuote NoPart) (to Broken NoPart))
step_on AtQuote byte = cond (eqb byte quote) (to InQuotes ItsByte) (after_field byte)
step_on AtReturn byte = cond (eqb byte line_feed) (to Closed NoPart) (to Broken NoPart)
step_on Closed byte = to Broken NoPart
step_on Broken byte = to Broken NoPart

-- whether a record may end here
abbrev pub may_end : Stand → Bool
may_end AtField = true
may_end InPlain = true
may_end InQuotes = false
may_end AtQuote = true
may_end AtReturn = false
may_end Closed = true
may_end Broken = false

-- what a record says: its fields, or nothing, since it breaks the grammar
pub data Said : Type 0 where
  fields : List (List ℕ) → Said
  no_record : Said

abbrev pub added : Adds → ℕ → Said → Said
added NoPart byte said = said
added ItsByte byte no_record = no_record
added ItsByte byte (fields values) = fields (in_first byte values)
added AField byte no_record = no_record
added AField byte (fields values) = fields ([] ∷ values)

-- the fields that bytes give after a stand, the first of them from there on
unfoldable pub said_from : Stand → List ℕ → Said
said_from stand [] = cond (may_end stand) (fields ([] ∷ [])) no_record
said_from stand (byte ∷ bytes) = added (step_on stand byte).adds byte (said_from (step_on stand byte).stand bytes)

unfoldable pub said_by : List ℕ → Said
said_by bytes = said_from AtField bytes
