-- What the replay prints for a line: refusal, key, value and count, or `- - - -` for a line that makes no call; then the checksum of the words
-- afterwards; and for the lines that tell of the bytes, the checksum of the bytes and the last number after it.
use Rattle.answers.specs.declared.Answer.{Answer}
use Rattle.std.specs.Prelude.{Bool, true, false, cond, List, [], ◌∷◌, ◌++◌, ◌≡◌, ℕ, ◌+◌, ◌*◌, ◌≤◌, length, take, None, Option, Some}
use Rattle.text.specs.Fields.{space}
use Rattle.text.specs.Lines.{line_feed}
use Rattle.text.specs.declared.feed.Told.{Told}
use Rattle.text.specs.declared.feed.Told.TheVariants.{NoLine, Line, LongLine}
use Rattle.calls.specs.Records.{Lent}
use Rattle.calls.specs.declared.Call.{Call}
use Rattle.calls.specs.declared.Call.TheVariants.{SetUp, Operate, Record, Write, Read}
use Rattle.report.specs.Report.{decimal, answer_text, checksum_of, field_bytes, answer_bytes}
use Rattle.trace.specs.Lines.{most_words, most_held}
use Rattle.trace.specs.declared.Kind.{Kind}
use Rattle.trace.specs.declared.Kind.TheVariants.{Fresh, Make, Put, Length, Bytes, Add, PutByte, Last, Unreadable}
use Rattle.trace_held.specs.Held.{Holds, altered_by}
use Rattle.trace_call.specs.Calling.{reply_of, after_call}
use Rattle.trace_step.specs.declared.Answered.{Answered}

abbrev pub dash : ℕ
dash = 45

-- the first four fields, and a space
unfoldable pub head_text : Option Answer → List ℕ
head_text (Some a) = answer_text a space
head_text None = dash ∷ space ∷ dash ∷ space ∷ dash ∷ space ∷ dash ∷ space ∷ []

-- the checksum of the words and that of the bytes, and the last number, with a byte after it
unfoldable pub lent_text : Lent → ℕ → List ℕ
lent_text lent after =
    decimal (checksum_of lent.words) ++ (space ∷ (decimal (checksum_of lent.bytes) ++ (space ∷ (decimal lent.last ++ (after ∷ [])))))

-- B, H, Q, O, G, W and R tell of the bytes and the last number
abbrev pub on_bytes : Call → Bool
on_bytes (SetUp D K C) = false
on_bytes (Operate operation) = false
on_bytes Record = true
on_bytes Write = true
on_bytes Read = true

abbrev pub tells : Kind → Bool
tells (Fresh n call) = false
tells (Make call) = on_bytes call
tells (Put index value) = false
tells (Length n) = false
tells (Bytes n) = true
tells Add = true
tells (PutByte index value) = true
tells (Last number) = true
tells Unreadable = false

-- the fields after the first four, with a byte after them
abbrev pub tail_text : Bool → Lent → ℕ → List ℕ
tail_text told lent after = cond told (lent_text lent after) (decimal (checksum_of lent.words) ++ (after ∷ []))

-- what is held after a line: what the line itself does to it, and then its call
unfoldable pub left_by : Kind → List ℕ → Lent → Lent
left_by kind line lent = after_call kind (altered_by kind line lent)

-- the bytes printed for a line, on what is held before it
unfoldable pub line_text : Kind → List ℕ → Lent → List ℕ
line_text kind line lent = head_text (reply_of kind (altered_by kind line lent)) ++ tail_text (tells kind) (left_by kind line lent) line_feed

-- the room for a line
abbrev pub line_bytes : ℕ
line_bytes = answer_bytes + 3 * field_bytes

-- A line was done on what was held: the first words and bytes are what it leaves, and so is the last number; the first bytes of `out` are
-- what is printed.
pub record LineAnswered (kind : Kind) (line : List ℕ) (before : Lent) (words bytes : List ℕ) (last : ℕ) (out : List ℕ) (r : Answered) : Type 0 where
  pub words_are : Holds most_words words r.sizes.used (left_by kind line before).words
  pub bytes_are : Holds most_held bytes r.sizes.filled (left_by kind line before).bytes
  pub last_is : last ≡ (left_by kind line before).last
  pub is : take r.text out ≡ line_text kind line before
  pub within : r.text ≤ length out

-- Bytes are what is printed for a line, which took what was held to this.
pub record TextOf (bytes : List ℕ) (kind : Kind) (line : List ℕ) (after : Lent) : Type 0 where
  pub before : Lent
  pub left : after ≡ left_by kind line before
  pub is : bytes ≡ line_text kind line before

-- What is told of is read as this kind: a line that is too long is not readable, and where no line ended there is nothing to read.
abbrev pub ReadAs : Told → Kind → Type 0
ReadAs NoLine kind = ⊥
ReadAs (Line n) kind = Unit {0}
ReadAs LongLine kind = kind ≡ Unreadable
