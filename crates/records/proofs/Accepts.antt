-- What the grammar derives, the reading accepts, with the same fields.
use mathlib.Core.Path.{◌≡◌, refl, sym, ap, ◌∙◌}
use mathlib.Core.List.{List, [], ◌∷◌, ◌++◌, append_assoc, append-nil}
use Prim.Native.Nat.{ℕ}
use Rattle.records.specs.Grammar.{comma, quote, is_text, line_end, Plain, no_text, text}
use Rattle.records.specs.Grammar.{Quoted, nothing, itself, two_quotes}
use Rattle.records.specs.Grammar.{Field, escaped, non_escaped, Fields, last, more, Record, unclosed, closed}
use Rattle.records.specs.Reading.{step_on, after_field, Said, fields, added, said_from, said_by}
use Rattle.records.specs.declared.Stand.TheVariants.{AtField, InPlain, InQuotes, AtQuote}
use Rattle.records.specs.declared.Adds.TheVariants.{ItsByte}

-- bytes put in front of the first field
abbrev pub front : List ℕ → Said → Said
front [] said = said
front (byte ∷ bytes) said = added ItsByte byte (front bytes said)

front_fields : (value : List ℕ) (first : List ℕ) (values : List (List ℕ)) → front value (fields (first ∷ values)) ≡ fields ((value ++ first) ∷ values)
front_fields [] first values = refl
front_fields (byte ∷ value) first values = rw (front_fields value first values) refl

plain_read : {bytes : List ℕ} → Plain bytes → (rest : List ℕ) → said_from InPlain (bytes ++ rest) ≡ front bytes (said_from InPlain rest)
unfolding said_from step_on
plain_read no_text rest = refl
plain_read (text t plain) rest = rw (t, plain_read plain rest) refl

quoted_read : {bytes value : List ℕ} → Quoted bytes value → (rest : List ℕ) → said_from InQuotes (bytes ++ rest) ≡ front value (said_from InQuotes rest)
unfolding said_from step_on is_text after_field
quoted_read nothing rest = refl
quoted_read (itself t quoted) rest = rw (t, quoted_read quoted rest) refl
quoted_read (two_quotes quoted) rest = rw (quoted_read quoted rest) refl

-- what can follow a field reads the same after a plain field and after a quoted one as at the start of an empty one
record Follows (rest : List ℕ) : Type 0 where
  plain : said_from InPlain rest ≡ said_from AtField rest
  quoted : said_from AtQuote rest ≡ said_from AtField rest

field_read :
    {bytes value : List ℕ} → Field bytes value → (rest : List ℕ) → Follows rest →
    said_from AtField (bytes ++ rest) ≡ front value (said_from AtField rest)
unfolding said_from step_on is_text after_field
field_read (escaped {bytes} {value} q) rest f =
    rw (append_assoc bytes (quote ∷ []) rest, quoted_read q (quote ∷ rest)) (ap (front value) f.quoted)
field_read (non_escaped no_text) rest f = refl
field_read (non_escaped (text {byte} {bytes} t p)) rest f = rw (t, plain_read p rest, f.plain) refl

-- fields, before what ends a record
fields_read :
    {bytes : List ℕ} {values : List (List ℕ)} → Fields bytes values → (rest : List ℕ) → Follows rest → said_from AtField rest ≡ fields ([] ∷ []) →
    said_from AtField (bytes ++ rest) ≡ fields values
unfolding said_from step_on is_text after_field
fields_read (last {bytes} {value} field) rest f ends =
    rw (field_read field rest f, ends, front_fields value [] [], append-nil value) refl
fields_read (more {bytes} {value} {rest = others} {values} field on) rest f ends =
    rw (
      append_assoc bytes (comma ∷ others) rest,
      field_read field (comma ∷ (others ++ rest)) (record { plain = refl; quoted = refl }),
      fields_read on rest f ends,
      front_fields value [] values,
      append-nil value,
    ) refl

pub accepts : {bytes : List ℕ} {values : List (List ℕ)} → Record bytes values → said_by bytes ≡ fields values
unfolding said_by said_from step_on is_text after_field
accepts (unclosed {bytes} {values} on) =
    ap (said_from AtField) (sym (append-nil bytes)) ∙ fields_read on [] (record { plain = refl; quoted = refl }) refl
accepts (closed {bytes} {values} on) = fields_read on line_end (record { plain = refl; quoted = refl }) refl
