-- What the reading accepts, the grammar derives, with the same fields.
use mathlib.Core.Path.{◌≡◌, refl, sym, subst}
use mathlib.Core.Bool.{Bool, true, false}
use mathlib.Core.List.{List, [], ◌∷◌, ◌++◌, append_assoc, append-nil}
use Prim.Native.Nat.{ℕ}
use lib.Dec.{eqb}
use borrow.Author.Tests.{eqb-true}
use Rattle.text.specs.Lines.{line_feed}
use Rattle.records.specs.Grammar.{comma, quote, carriage_return, is_text, stands_in_quotes, line_end, Plain, no_text, text}
use Rattle.records.specs.Grammar.{Quoted, nothing, itself, two_quotes}
use Rattle.records.specs.Grammar.{Field, escaped, non_escaped, last, more, Record, unclosed, closed}
use Rattle.records.specs.Reading.{step_on, after_field, Said, fields, no_record, added, said_from, said_by}
use Rattle.records.specs.declared.Stand.{Stand}
use Rattle.records.specs.declared.Stand.TheVariants.{AtField, InPlain, InQuotes, AtQuote, AtReturn, Closed, Broken}
use Rattle.records.specs.declared.Adds.TheVariants.{ItsByte, AField}

-- what follows a field: nothing, CRLF, or a comma and further fields
data Rest : List ℕ → List (List ℕ) → Type 0 where
  no_more : Rest [] []
  by_line_end : Rest line_end []
  comma_on : {bytes : List ℕ} {values : List (List ℕ)} → Record bytes values → Rest (comma ∷ bytes) values

record_of : {bytes value rest : List ℕ} {values : List (List ℕ)} → Field bytes value → Rest rest values → Record (bytes ++ rest) (value ∷ values)
record_of {bytes} field no_more = rw (append-nil bytes) (unclosed (last field))
record_of field by_line_end = closed (last field)
record_of field (comma_on (unclosed on)) = unclosed (more field on)
record_of {bytes} field (comma_on (closed {bytes = others} on)) = rw (sym (append_assoc bytes (comma ∷ others) line_end)) (closed (more field on))

-- what is read after each stand, as the grammar has it; the first field from there on
data PlainOn : List ℕ → List (List ℕ) → Type 0 where
  plain_on : {bytes rest : List ℕ} {values : List (List ℕ)} → Plain bytes → Rest rest values → PlainOn (bytes ++ rest) (bytes ∷ values)

data QuotedOn : List ℕ → List (List ℕ) → Type 0 where
  quoted_on :
      {bytes value rest : List ℕ} {values : List (List ℕ)} → Quoted bytes value → Rest rest values →
      QuotedOn (bytes ++ (quote ∷ rest)) (value ∷ values)

data AtQuoteOn : List ℕ → List (List ℕ) → Type 0 where
  ends : {rest : List ℕ} {values : List (List ℕ)} → Rest rest values → AtQuoteOn rest ([] ∷ values)
  goes_on :
      {bytes value : List ℕ} {values : List (List ℕ)} → QuotedOn bytes (value ∷ values) → AtQuoteOn (quote ∷ bytes) ((quote ∷ value) ∷ values)

data AtReturnOn : List ℕ → List (List ℕ) → Type 0 where
  by_line_feed : AtReturnOn (line_feed ∷ []) ([] ∷ [])

data ClosedOn : List ℕ → List (List ℕ) → Type 0 where
  ended : ClosedOn [] ([] ∷ [])

abbrev On : Stand → List ℕ → List (List ℕ) → Type 0
On AtField bytes values = Record bytes values
On InPlain bytes values = PlainOn bytes values
On InQuotes bytes values = QuotedOn bytes values
On AtQuote bytes values = AtQuoteOn bytes values
On AtReturn bytes values = AtReturnOn bytes values
On Closed bytes values = ClosedOn bytes values
On Broken bytes values = ⊥

-- a reading that says fields says those that the grammar has
abbrev Says : Stand → List ℕ → Said → Type 0
Says stand bytes no_record = Unit {0}
Says stand bytes (fields values) = On stand bytes values

broken_says : (bytes : List ℕ) (said : Said) → Says Broken bytes said → (stand : Stand) (others : List ℕ) → Says stand others said
broken_says bytes no_record s stand others = tt
broken_says bytes (fields values) s stand others = absurd s

-- a byte of a plain field
text_at_field :
    (byte : ℕ) → is_text byte ≡ true → (bytes : List ℕ) (said : Said) → Says InPlain bytes said → Says AtField (byte ∷ bytes) (added ItsByte byte said)
text_at_field byte t bytes no_record s = tt
text_at_field byte t bytes (fields values) (plain_on p r) = record_of (non_escaped (text t p)) r

text_in_plain :
    (byte : ℕ) → is_text byte ≡ true → (bytes : List ℕ) (said : Said) → Says InPlain bytes said → Says InPlain (byte ∷ bytes) (added ItsByte byte said)
text_in_plain byte t bytes no_record s = tt
text_in_plain byte t bytes (fields values) (plain_on p r) = plain_on (text t p) r

-- a quote
quote_at_field : (bytes : List ℕ) (said : Said) → Says InQuotes bytes said → Says AtField (quote ∷ bytes) said
quote_at_field bytes no_record s = tt
quote_at_field bytes (fields values) (quoted_on {bytes = inner} {rest} q r) =
    rw (sym (append_assoc inner (quote ∷ []) rest)) (record_of (escaped q) r)

quote_in_quotes : (bytes : List ℕ) (said : Said) → Says AtQuote bytes said → Says InQuotes (quote ∷ bytes) said
quote_in_quotes bytes no_record s = tt
quote_in_quotes bytes (fields values) (ends r) = quoted_on nothing r
quote_in_quotes bytes (fields values) (goes_on (quoted_on q r)) = quoted_on (two_quotes q) r

quote_at_quote : (bytes : List ℕ) (said : Said) → Says InQuotes bytes said → Says AtQuote (quote ∷ bytes) (added ItsByte quote said)
quote_at_quote bytes no_record s = tt
quote_at_quote bytes (fields values) (quoted_on q r) = goes_on (quoted_on q r)

-- a byte that stands for itself between quotes
byte_in_quotes :
    (byte : ℕ) → stands_in_quotes byte ≡ true → (bytes : List ℕ) (said : Said) →
    Says InQuotes bytes said → Says InQuotes (byte ∷ bytes) (added ItsByte byte said)
byte_in_quotes byte b bytes no_record s = tt
byte_in_quotes byte b bytes (fields values) (quoted_on q r) = quoted_on (itself b q) r

-- the second byte of CRLF
feed_at_return : (bytes : List ℕ) (said : Said) → Says Closed bytes said → Says AtReturn (line_feed ∷ bytes) said
feed_at_return bytes no_record s = tt
feed_at_return bytes (fields values) ended = by_line_feed

-- a byte right after a field
module _ (stand : Stand) (embed : (rest : List ℕ) (values : List (List ℕ)) → Rest rest values → On stand rest ([] ∷ values)) where
  comma_says : (bytes : List ℕ) (said : Said) → Says AtField bytes said → Says stand (comma ∷ bytes) (added AField comma said)
  comma_says bytes no_record s = tt
  comma_says bytes (fields values) s = embed _ _ (comma_on s)

  return_says : (bytes : List ℕ) (said : Said) → Says AtReturn bytes said → Says stand (carriage_return ∷ bytes) said
  return_says bytes no_record s = tt
  return_says bytes (fields values) by_line_feed = embed _ _ by_line_end

  after_says :
      (byte : ℕ) (bytes : List ℕ) → ((s : Stand) → Says s bytes (said_from s bytes)) →
      Says stand (byte ∷ bytes) (added (after_field byte).adds byte (said_from (after_field byte).stand bytes))
  unfolding after_field
  after_says byte bytes on = at (eqb byte comma) (eqb byte carriage_return) refl refl
    where
      at :
          (c r : Bool) → eqb byte comma ≡ c → eqb byte carriage_return ≡ r →
          Says stand (byte ∷ bytes) (added (after_field byte).adds byte (said_from (after_field byte).stand bytes))
      at true r e f = rw (eqb-true byte comma e) (comma_says bytes (said_from AtField bytes) (on AtField))
      at false true e f = rw (eqb-true byte carriage_return f) (return_says bytes (said_from AtReturn bytes) (on AtReturn))
      at false false e f = rw (e, f) (broken_says bytes (said_from Broken bytes) (on Broken) stand (byte ∷ bytes))

-- the cases of a byte, by the tests that `step_on` makes
module _ (byte : ℕ) (bytes : List ℕ) (on : (s : Stand) → Says s bytes (said_from s bytes)) where
  at_field : (t q : Bool) → is_text byte ≡ t → eqb byte quote ≡ q → Says AtField (byte ∷ bytes) (said_from AtField (byte ∷ bytes))
  unfolding said_from step_on
  at_field true q e f = rw (e) (text_at_field byte e bytes (said_from InPlain bytes) (on InPlain))
  at_field false true e f =
      rw (e, f)
      (subst (λ c. Says AtField (c ∷ bytes) (said_from InQuotes bytes)) (sym (eqb-true byte quote f))
      (quote_at_field bytes (said_from InQuotes bytes) (on InQuotes)))
  at_field false false e f = rw (e, f) (after_says AtField (λ rest values r. record_of (non_escaped no_text) r) byte bytes on)

  in_plain : (t : Bool) → is_text byte ≡ t → Says InPlain (byte ∷ bytes) (said_from InPlain (byte ∷ bytes))
  unfolding said_from step_on
  in_plain true e = rw (e) (text_in_plain byte e bytes (said_from InPlain bytes) (on InPlain))
  in_plain false e = rw (e) (after_says InPlain (λ rest values r. plain_on no_text r) byte bytes on)

  in_quotes :
      (t q : Bool) → stands_in_quotes byte ≡ t → eqb byte quote ≡ q →
      Says InQuotes (byte ∷ bytes) (said_from InQuotes (byte ∷ bytes))
  unfolding said_from step_on
  in_quotes true q e f = rw (e) (byte_in_quotes byte e bytes (said_from InQuotes bytes) (on InQuotes))
  in_quotes false true e f =
      rw (e, f)
      (subst (λ c. Says InQuotes (c ∷ bytes) (said_from AtQuote bytes)) (sym (eqb-true byte quote f))
      (quote_in_quotes bytes (said_from AtQuote bytes) (on AtQuote)))
  in_quotes false false e f = rw (e, f) (broken_says bytes (said_from Broken bytes) (on Broken) InQuotes (byte ∷ bytes))

  at_quote : (q : Bool) → eqb byte quote ≡ q → Says AtQuote (byte ∷ bytes) (said_from AtQuote (byte ∷ bytes))
  unfolding said_from step_on
  at_quote true e = rw (eqb-true byte quote e) (quote_at_quote bytes (said_from InQuotes bytes) (on InQuotes))
  at_quote false e = rw (e) (after_says AtQuote (λ rest values r. ends r) byte bytes on)

  at_return : (l : Bool) → eqb byte line_feed ≡ l → Says AtReturn (byte ∷ bytes) (said_from AtReturn (byte ∷ bytes))
  unfolding said_from step_on
  at_return true e = rw (eqb-true byte line_feed e) (feed_at_return bytes (said_from Closed bytes) (on Closed))
  at_return false e = rw (e) (broken_says bytes (said_from Broken bytes) (on Broken) AtReturn (byte ∷ bytes))

says : (bytes : List ℕ) (stand : Stand) → Says stand bytes (said_from stand bytes)
unfolding said_from step_on
says [] AtField = unclosed (last (non_escaped no_text))
says [] InPlain = plain_on no_text no_more
says [] InQuotes = tt
says [] AtQuote = ends no_more
says [] AtReturn = tt
says [] Closed = ended
says [] Broken = tt
says (byte ∷ bytes) AtField = at_field byte bytes (says bytes) (is_text byte) (eqb byte quote) refl refl
says (byte ∷ bytes) InPlain = in_plain byte bytes (says bytes) (is_text byte) refl
says (byte ∷ bytes) InQuotes =
    in_quotes byte bytes (says bytes) (stands_in_quotes byte) (eqb byte quote) refl refl
says (byte ∷ bytes) AtQuote = at_quote byte bytes (says bytes) (eqb byte quote) refl
says (byte ∷ bytes) AtReturn = at_return byte bytes (says bytes) (eqb byte line_feed) refl
says (byte ∷ bytes) Closed = broken_says bytes (said_from Broken bytes) (says bytes Broken) Closed (byte ∷ bytes)
says (byte ∷ bytes) Broken = broken_says bytes (said_from Broken bytes) (says bytes Broken) Broken (byte ∷ bytes)

pub derives : (bytes : List ℕ) (values : List (List ℕ)) → said_by bytes ≡ fields values → Record bytes values
unfolding said_by
derives bytes values e = subst (Says AtField bytes) e (says bytes AtField)
