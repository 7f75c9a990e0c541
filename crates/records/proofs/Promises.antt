-- The promises of specs/Promises.antt.
use mathlib.Core.Path.{◌≡◌, refl, sym, ◌∙◌}
use mathlib.Core.Bool.{Bool, true, false, ◌||◌}
use mathlib.Core.List.{List, [], ◌∷◌, map}
use Prim.Native.Nat.{ℕ}
use lib.Dec.{eqb}
use borrow.Author.Tests.{eqb-true}
use Rattle.lists.proofs.All.{All, every_all}
use Rattle.records.specs.Grammar.{quote, is_text, stands_in_quotes, Plain, no_text, text, Quoted, nothing, itself, two_quotes}
use Rattle.records.specs.Grammar.{Field, escaped, non_escaped, Fields, last, more, unclosed, closed}
use Rattle.records.specs.Reading.{fields}
use Rattle.records.specs.Promises.{ReadingIsGrammar, OneRecord, Writing, plainly, between_quotes}
use Rattle.records.specs.Promises.{value_of, doubled, written, can_write, written_all, WrittenReadsBack}
use Rattle.records.proofs.Accepts.{accepts}
use Rattle.records.proofs.Derives.{derives}

pub reading_is_grammar : ReadingIsGrammar
reading_is_grammar bytes values = (derives bytes values, accepts)

pub one_record : OneRecord
one_record bytes values others r s = let e : fields values ≡ fields others = sym (accepts r) ∙ accepts s in cc

plain_value : (value : List ℕ) → All (λ byte. is_text byte ≡ true) value → Plain value
plain_value [] a = no_text
plain_value (byte ∷ value) a = text a.0 (plain_value value a.1)

quoted_value : (value : List ℕ) → All (λ byte. (eqb byte quote || stands_in_quotes byte) ≡ true) value → Quoted (doubled value) value
unfolding doubled
quoted_value [] a = nothing
quoted_value (byte ∷ value) a = at (eqb byte quote) refl a.0 (quoted_value value a.1)
  where
    at :
        (q : Bool) → eqb byte quote ≡ q → (q || stands_in_quotes byte) ≡ true → Quoted (doubled value) value →
        Quoted (doubled (byte ∷ value)) (byte ∷ value)
    at true e s on = rw (eqb-true byte quote e) (two_quotes on)
    at false e s on = rw (e) (itself s on)

written_field : (writing : Writing) → can_write writing ≡ true → Field (written writing) (value_of writing)
written_field (plainly value) h = non_escaped (plain_value value (every_all _ value h))
written_field (between_quotes value) h = escaped (quoted_value value (every_all _ value h))

written_fields :
    (first : Writing) (writings : List Writing) → All (λ writing. can_write writing ≡ true) (first ∷ writings) →
    Fields (written_all first writings) (map value_of (first ∷ writings))
unfolding written_all
written_fields first [] a = last (written_field first a.0)
written_fields first (next ∷ writings) a = more (written_field first a.0) (written_fields next writings a.1)

pub written_reads_back : WrittenReadsBack
written_reads_back first writings h =
    let f = written_fields first writings (every_all can_write (first ∷ writings) h) in (accepts (unclosed f), accepts (closed f))
