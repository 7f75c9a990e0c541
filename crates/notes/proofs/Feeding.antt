-- The feed hands on what the records of an export note, however the export is cut into parts: what it knows of the record begun is what its
-- bytes say, and each byte keeps that so.
use Rattle.std.specs.Prelude.{None, Option, Some}
use mathlib.Core.Path.{◌≡◌, refl, sym, ◌∙◌, ap}
use mathlib.Core.Bool.{Bool, true, false, cond, ◌&&◌, not}
use mathlib.Core.List.{List, [], ◌∷◌, ◌++◌, map, flatten, append_assoc}
use Prim.Native.Nat.{ℕ}
use lib.Dec.{eqb}
use Rattle.text.specs.Lines.{line_feed}
use Rattle.text.specs.Parts.{after_all, given_by_all, begun_after_part, handed_by_part, handed_by_whole}
use Rattle.text.proofs.Parts.{after_append, parts_join}
use Rattle.records.specs.Grammar.{quote, carriage_return}
use Rattle.notes.specs.Notes.{note_by}
use Rattle.notes.specs.Reader.{reader_from, reader_on, reader_after, note_at}
use Rattle.notes.specs.Export.{even_quotes, ends_in_return, closes, records_after, records_of, notes_of}
use Rattle.notes.specs.Feeding.{begun_after, handed_by, handed_at_end, record_handing, is_begun, feed_of, Holds, Stepped, FeedEnded, told_in}
use Rattle.notes.specs.Promises.{ExportInParts}
use Rattle.notes.specs.Notes.{Logged}
use Rattle.notes.specs.declared.Reader.{Reader}
use Rattle.notes.specs.declared.feed.Feed.{Feed}
use Rattle.notes.specs.declared.feed.Fed.{Fed}
use Rattle.notes.proofs.Notes.{reader_notes}

-- An export

end_hands : (begun : List ℕ) → handed_at_end begun ≡ map note_by (records_after begun [])
unfolding handed_at_end records_after
end_hands [] = refl
end_hands (byte ∷ begun) = refl

records_more :
    (begun : List ℕ) (byte : ℕ) (export : List ℕ) →
    records_after begun (byte ∷ export) ≡
    cond (closes begun byte) ((begun ++ (byte ∷ [])) ∷ records_after [] export) (records_after (begun ++ (byte ∷ [])) export)
unfolding records_after
records_more [] byte export = refl
records_more (b ∷ begun) byte export = refl

hands_after : (begun export : List ℕ) → handed_by_whole record_handing begun export ≡ map note_by (records_after begun export)
unfolding given_by_all after_all handed_by begun_after
hands_after begun [] = end_hands begun
hands_after begun (byte ∷ export) = rw (records_more begun byte export) (at (closes begun byte) (λ b. hands_after b export))
  where
    more : List ℕ
    more = begun ++ (byte ∷ [])

    at :
        (t : Bool) →
        ((b : List ℕ) → handed_by_whole record_handing b export ≡ map note_by (records_after b export)) →
        (cond t (note_by more ∷ []) [] ++ handed_by_part record_handing (cond t [] more) export) ++
        handed_at_end (begun_after_part record_handing (cond t [] more) export) ≡
        map note_by (cond t (more ∷ records_after [] export) (records_after more export))
    at true again = ap (λ (notes : List Logged). note_by more ∷ notes) (again [])
    at false again = again more

-- The bytes of an export and then its end hand on what its records note.
pub export_hands : (export : List ℕ) → handed_by_whole record_handing [] export ≡ notes_of export
unfolding notes_of records_of
export_hands export = hands_after [] export

-- However an export is cut into parts, they hand on what its records note.
pub export_in_parts : ExportInParts
export_in_parts parts = parts_join record_handing [] parts ∙ export_hands (flatten parts)

-- A byte more of the record begun

even_more : (begun : List ℕ) (byte : ℕ) → even_quotes (begun ++ (byte ∷ [])) ≡ cond (eqb byte quote) (not (even_quotes begun)) (even_quotes begun)
unfolding even_quotes
even_more [] byte = refl
even_more (b ∷ begun) byte = rw (even_more begun byte) (at (eqb b quote) (eqb byte quote) (even_quotes begun))
  where
    at : (s t u : Bool) → cond s (not (cond t (not u) u)) (cond t (not u) u) ≡ cond t (not (cond s (not u) u)) (cond s (not u) u)
    at true true u = refl
    at true false u = refl
    at false true u = refl
    at false false u = refl

return_more : (begun : List ℕ) (byte : ℕ) → ends_in_return (begun ++ (byte ∷ [])) ≡ eqb byte carriage_return
unfolding ends_in_return
return_more [] byte = refl
return_more (b ∷ []) byte = refl
return_more (b ∷ next ∷ begun) byte = return_more (next ∷ begun) byte

begun_more : (begun : List ℕ) (byte : ℕ) → is_begun (begun ++ (byte ∷ [])) ≡ true
begun_more [] byte = refl
begun_more (b ∷ begun) byte = refl

reader_more : (begun : List ℕ) (byte : ℕ) → reader_after reader_from (begun ++ (byte ∷ [])) ≡ reader_on (reader_after reader_from begun) byte
unfolding after_all
reader_more begun byte = after_append reader_on reader_from begun (byte ∷ [])

nothing_begun : (begun : List ℕ) → (feed_of begun).begun ≡ false → handed_at_end begun ≡ []
unfolding feed_of handed_at_end
nothing_begun [] e = refl
nothing_begun (b ∷ begun) e = cc

-- what a feed says of the record begun
module _ (begun : List ℕ) (byte : ℕ) where
  pub feed_more :
      feed_of (begun ++ (byte ∷ [])) ≡ record {
        reader = reader_on (feed_of begun).reader byte;
        even = cond (eqb byte quote) (not (feed_of begun).even) (feed_of begun).even;
        returned = eqb byte carriage_return;
        begun = true;
      }
  unfolding feed_of
  feed_more = rw (reader_more begun byte, even_more begun byte, return_more begun byte, begun_more begun byte) refl

  pub feed_closes : closes begun byte ≡ eqb byte line_feed && ((feed_of begun).returned && (feed_of begun).even)
  unfolding feed_of
  feed_closes = refl

  feed_closing :
      {feed : Feed} {t : Bool} → feed ≡ feed_of begun → eqb byte line_feed && (feed.returned && feed.even) ≡ t → closes begun byte ≡ t
  feed_closing is test = feed_closes ∙ (ap (λ (f : Feed). eqb byte line_feed && (f.returned && f.even)) (sym is) ∙ test)

  pub note_more : note_at (reader_on (feed_of begun).reader byte) ≡ note_by (begun ++ (byte ∷ []))
  unfolding feed_of
  note_more = sym (ap note_at (reader_more begun byte)) ∙ reader_notes (begun ++ (byte ∷ []))

  -- a byte that closes the record
  pub closed_begun : closes begun byte ≡ true → begun_after begun byte ≡ []
  unfolding begun_after
  closed_begun e = rw e refl

  pub closed_hands : closes begun byte ≡ true → handed_by begun byte ≡ note_by (begun ++ (byte ∷ [])) ∷ []
  unfolding handed_by
  closed_hands e = rw e refl

  -- .. and one that does not
  pub open_begun : closes begun byte ≡ false → begun_after begun byte ≡ begun ++ (byte ∷ [])
  unfolding begun_after
  open_begun e = rw e refl

  pub open_hands : closes begun byte ≡ false → handed_by begun byte ≡ []
  unfolding handed_by
  open_hands e = rw e refl

-- The feed's functions, case by case of their tests.

module _ {feed : Feed} {byte : ℕ} {reader : Reader} where
  pub steps_closed :
      {logged : Logged} {next : Feed} → eqb byte line_feed && (feed.returned && feed.even) ≡ true → reader ≡ reader_on feed.reader byte →
      next ≡ feed_of [] → logged ≡ note_at reader → Stepped feed byte (record { feed = next; told = Some logged })
  steps_closed test read starts notes =
      record {
        begun = λ begun is. starts ∙ ap feed_of (sym (closed_begun begun byte (feed_closing begun byte is test)));
        told = λ begun is.
            let same = read ∙ ap (λ (f : Feed). reader_on f.reader byte) is in
            ap (λ (l : Logged). l ∷ []) (notes ∙ (ap note_at same ∙ note_more begun byte)) ∙
            sym (closed_hands begun byte (feed_closing begun byte is test));
      }

  pub steps_open :
      {even : Bool} → eqb byte line_feed && (feed.returned && feed.even) ≡ false → reader ≡ reader_on feed.reader byte →
      even ≡ cond (eqb byte quote) (not feed.even) feed.even →
      Stepped feed byte (record {
        feed = record { reader = reader; even = even; returned = eqb byte carriage_return; begun = true };
        told = None;
      })
  steps_open test read evens =
      record {
        begun = λ begun is.
            rw (read, evens, is) (sym (ap feed_of (open_begun begun byte (feed_closing begun byte is test)) ∙ feed_more begun byte));
        told = λ begun is. sym (open_hands begun byte (feed_closing begun byte is test));
      }

module _ {feed : Feed} where
  pub begun_ends : {logged : Logged} → feed.begun ≡ true → logged ≡ note_at feed.reader → FeedEnded feed (Some logged)
  unfolding feed_of handed_at_end
  begun_ends {logged} some notes = record { told = at }
    where
      at : (begun : List ℕ) → feed ≡ feed_of begun → logged ∷ [] ≡ handed_at_end begun
      at [] is = let never : true ≡ false = sym some ∙ ap (λ (f : Feed). f.begun) is in cc
      at (b ∷ begun) is = ap (λ (l : Logged). l ∷ []) (notes ∙ (ap (λ (f : Feed). note_at f.reader) is ∙ reader_notes (b ∷ begun)))

  pub none_ends : feed.begun ≡ false → FeedEnded feed None
  none_ends none = record { told = λ begun is. sym (nothing_begun begun (ap (λ (f : Feed). f.begun) (sym is) ∙ none)) }

-- `feed_byte` was called with each byte of an export, one after the other, and then `finish`; `told` is what they told of, in order.
pub data Run : Feed → List ℕ → List Logged → Type 0 where
  ends : {feed : Feed} {r : Option Logged} {told : List Logged} → FeedEnded feed r → told ≡ told_in r → Run feed [] told
  goes :
      {feed : Feed} {byte : ℕ} {r : Fed} {export : List ℕ} {told more : List Logged} →
      Stepped feed byte r → Run r.feed export more → told ≡ told_in r.told ++ more → Run feed (byte ∷ export) told

run_on :
    {feed : Feed} {export : List ℕ} {told : List Logged} → (begun : List ℕ) → Holds feed begun → Run feed export told →
    told ≡ handed_by_whole record_handing begun export
unfolding given_by_all after_all
run_on begun is (ends finished e) = e ∙ finished.told begun is
run_on begun is (goes {byte = byte} step run e) =
    rw (e, run_on (begun_after begun byte) (step.begun begun is) run, step.told begun is) (simp append_assoc)

-- A run from the start hands on exactly what the records of its export note.
pub run_hands : {export : List ℕ} {told : List Logged} → Run (feed_of []) export told → told ≡ notes_of export
run_hands {export} run = run_on [] refl run ∙ export_hands export
