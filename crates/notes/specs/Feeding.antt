-- The feed: what is known of a record while its bytes come in, and what each byte hands on.
use Rattle.std.specs.Prelude.{◌≡◌, Bool, true, false, cond, List, [], ◌∷◌, ◌++◌, ℕ, None, Option, Some}
use Rattle.text.specs.Parts.{Handing}
use Rattle.notes.specs.Notes.{note_by, Within}
use Rattle.notes.specs.Reader.{reader_from, reader_after}
use Rattle.notes.specs.Export.{even_quotes, ends_in_return, closes}
use Rattle.notes.specs.Notes.{Logged}
use Rattle.notes.specs.declared.feed.Feed.{Feed}
use Rattle.notes.specs.declared.feed.Fed.{Fed}

-- the record begun after one byte of the export
unfoldable pub begun_after : List ℕ → ℕ → List ℕ
begun_after begun byte = cond (closes begun byte) [] (begun ++ (byte ∷ []))

-- what one byte hands on: what the record begun notes, if it closes it
unfoldable pub handed_by : List ℕ → ℕ → List Logged
handed_by begun byte = cond (closes begun byte) (note_by (begun ++ (byte ∷ [])) ∷ []) []

-- what the end of the export hands on: what the record begun notes, if it has any byte
unfoldable pub handed_at_end : List ℕ → List Logged
handed_at_end [] = []
handed_at_end (b ∷ begun) = note_by (b ∷ begun) ∷ []

-- how an export hands on what its records note
abbrev pub record_handing : Handing (List ℕ) Logged
record_handing = record { on = begun_after; by = handed_by; at_end = handed_at_end }

-- What the code's values mean.

abbrev pub is_begun : List ℕ → Bool
is_begun [] = false
is_begun (b ∷ begun) = true

-- what a feed knows of the record begun
unfoldable pub feed_of : List ℕ → Feed
feed_of begun = record { reader = reader_after reader_from begun; even = even_quotes begun; returned = ends_in_return begun; begun = is_begun begun }

-- A feed holds this record begun.
abbrev pub Holds : Feed → List ℕ → Type 0
Holds feed begun = feed ≡ feed_of begun

-- what is told of
abbrev pub told_in : Option Logged → List Logged
told_in None = []
told_in (Some logged) = logged ∷ []

-- what is told of is in range
abbrev pub ToldWithin : Option Logged → Type 0
ToldWithin None = Unit {0}
ToldWithin (Some logged) = Within logged

-- A byte takes a feed one step on, whatever record is begun.
pub record Stepped (feed : Feed) (byte : ℕ) (r : Fed) : Type 0 where
  pub begun : (begun : List ℕ) → Holds feed begun → Holds r.feed (begun_after begun byte)
  pub told : (begun : List ℕ) → Holds feed begun → told_in r.told ≡ handed_by begun byte

-- The end of the export.
pub record FeedEnded (feed : Feed) (r : Option Logged) : Type 0 where
  pub told : (begun : List ℕ) → Holds feed begun → told_in r ≡ handed_at_end begun
