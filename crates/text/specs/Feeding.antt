-- The feed: what is known of a line while its bytes come in, and what each byte hands on.
use Rattle.std.specs.Prelude.{false, cond, List, [], ◌∷◌, ◌++◌, ◌≡◌, ℕ, ◌≤◌, eqb, length, take}
use Rattle.text.specs.Parts.{Handing}
use Rattle.text.specs.Lines.{line_feed, most_bytes, Handed, line, too_long, handed}
use Rattle.text.specs.declared.feed.Feed.{Feed}
use Rattle.text.specs.declared.feed.Fed.{Fed}
use Rattle.text.specs.declared.feed.Told.{Told}
use Rattle.text.specs.declared.feed.Told.TheVariants.{NoLine, Line, LongLine}

-- A line begun is known as it would be handed on: by its bytes, or only as too long.

-- a line begun, with one byte more
abbrev pub longer : Handed → ℕ → Handed
longer (line bytes) byte = handed (bytes ++ (byte ∷ []))
longer too_long byte = too_long

-- the line begun after one byte of the input
unfoldable pub begun_after : Handed → ℕ → Handed
begun_after begun byte = cond (eqb byte line_feed) (line []) (longer begun byte)

-- the lines that one byte hands on: the line begun, if it is a line feed
unfoldable pub handed_by : Handed → ℕ → List Handed
handed_by begun byte = cond (eqb byte line_feed) (begun ∷ []) []

-- the lines that the end of the input hands on: the line begun, if it has any byte
unfoldable pub handed_at_end : Handed → List Handed
handed_at_end (line []) = []
handed_at_end (line (b ∷ bytes)) = line (b ∷ bytes) ∷ []
handed_at_end too_long = too_long ∷ []

-- how an input hands on its lines
abbrev pub line_handing : Handing Handed Handed
line_handing = record { on = begun_after; by = handed_by; at_end = handed_at_end }

-- What the code's values mean.

abbrev pub started : Feed
started = record { fill = 0; over = false }

-- the line begun that a feed and its buffer hold
unfoldable pub begun_in : List ℕ → Feed → Handed
begun_in buffer feed = cond feed.over too_long (line (take feed.fill buffer))

-- the lines that are told of, out of the buffer
unfoldable pub told_in : List ℕ → Told → List Handed
told_in buffer NoLine = []
told_in buffer (Line n) = line (take n buffer) ∷ []
told_in buffer LongLine = too_long ∷ []

-- what a line feed tells of a feed
abbrev pub ended_of : Feed → Told
ended_of feed = cond feed.over LongLine (Line feed.fill)

-- The buffer has room for a line, and the feed says no more of it than that.
pub record Ready (buffer : List ℕ) (feed : Feed) : Type 0 where
  pub long : length buffer ≡ most_bytes
  pub fits : feed.fill ≤ most_bytes

-- A feed and its buffer hold this line begun.
pub record Holds (buffer : List ℕ) (feed : Feed) (begun : Handed) : Type 0 where
  pub ready : Ready buffer feed
  pub is : begun_in buffer feed ≡ begun

-- A byte that is no line feed, after a line begun of `fill` bytes.
pub record Kept (before after : List ℕ) (fill byte : ℕ) (r : Feed) : Type 0 where
  pub begun : begun_in after r ≡ longer (line (take fill before)) byte
  pub ready : Ready after r

-- A byte takes the feed and its buffer one step on.
pub record Stepped (before after : List ℕ) (feed : Feed) (byte : ℕ) (r : Fed) : Type 0 where
  pub begun : begun_in after r.feed ≡ begun_after (begun_in before feed) byte
  pub told : told_in after r.told ≡ handed_by (begun_in before feed) byte
  pub ready : Ready after r.feed
  pub line_fits : (n : ℕ) → r.told ≡ Line n → n ≤ most_bytes

-- The end of the input.
pub record FeedEnded (feed : Feed) (r : Told) : Type 0 where
  pub told : (buffer : List ℕ) → length buffer ≡ most_bytes → told_in buffer r ≡ handed_at_end (begun_in buffer feed)
  pub line_fits : (n : ℕ) → r ≡ Line n → n ≤ most_bytes

-- a line that is told of lies within the bytes that the feed was lent
pub record LineIn (line : List ℕ) (ended : Told) : Type 0 where
  pub fits : (n : ℕ) → ended ≡ Line n → n ≤ length line
