-- What a line of a trace does to a plain row: the replay's lines for words and calls; those for bytes, records and files are not readable here.
use Rattle.answers.specs.declared.Answer.{Answer}
use Rattle.std.specs.Prelude.{◌≡◌, List, ◌++◌, ℕ, ◌+◌, None, Option, Some}
use Rattle.answers.specs.Refusals.{Outcome, refused, answer_of}
use Rattle.answers.specs.declared.Refusal.TheVariants.{LineNotReadable}
use Rattle.calls.specs.declared.Call.{Call}
use Rattle.calls.specs.declared.Call.TheVariants.{SetUp, Operate, Record, Write, Read}
use Rattle.report.specs.Report.{checksum_text, field_bytes, answer_bytes}
use Rattle.trace.specs.Lines.{most_words}
use Rattle.trace.specs.declared.Kind.{Kind}
use Rattle.trace.specs.declared.Kind.TheVariants.{Fresh, Make, Put, Length, Bytes, Add, PutByte, Last, Unreadable}
use Rattle.trace_held.specs.Held.{buffer_after, Holds}
use Rattle.trace_step.specs.Printed.{head_text}
use Rattle.row.specs.Row.{row_set_up_out, row_out}
use Rattle.row_step.specs.declared.Done.{Done}

-- a call on a row
abbrev pub row_call : Call → List ℕ → Outcome (List ℕ)
row_call (SetUp D K C) ws = row_set_up_out D K C ws
row_call (Operate operation) ws = row_out operation ws
row_call Record ws = refused LineNotReadable ws
row_call Write ws = refused LineNotReadable ws
row_call Read ws = refused LineNotReadable ws

-- what a line is answered, and the words after its call
abbrev pub row_reply : Kind → List ℕ → Option Answer
row_reply (Fresh n call) ws = Some (row_call call ws).answered
row_reply (Make call) ws = Some (row_call call ws).answered
row_reply (Put index value) ws = None
row_reply (Length n) ws = None
row_reply (Bytes n) ws = Some (answer_of LineNotReadable)
row_reply Add ws = Some (answer_of LineNotReadable)
row_reply (PutByte index value) ws = Some (answer_of LineNotReadable)
row_reply (Last number) ws = Some (answer_of LineNotReadable)
row_reply Unreadable ws = Some (answer_of LineNotReadable)

abbrev pub row_leaves : Kind → List ℕ → List ℕ
row_leaves (Fresh n call) ws = (row_call call ws).left
row_leaves (Make call) ws = (row_call call ws).left
row_leaves (Put index value) ws = ws
row_leaves (Length n) ws = ws
row_leaves (Bytes n) ws = ws
row_leaves Add ws = ws
row_leaves (PutByte index value) ws = ws
row_leaves (Last number) ws = ws
row_leaves Unreadable ws = ws

-- A line's call was made: its reply, and the words after it.
pub record RowCalled (kind : Kind) (ws : List ℕ) (r : Option Answer) (after : List ℕ) : Type 0 where
  pub reply : r ≡ row_reply kind ws
  pub left : after ≡ row_leaves kind ws

-- what is held after a line, and what it is answered, on what is held before
unfoldable pub left_by : Kind → List ℕ → List ℕ
left_by kind ws = row_leaves kind (buffer_after kind ws)

unfoldable pub replied_to : Kind → List ℕ → Option Answer
replied_to kind ws = row_reply kind (buffer_after kind ws)

-- the bytes printed: the reply, and the checksum of the words afterwards
unfoldable pub row_text : Option Answer → List ℕ → List ℕ
row_text reply ws = head_text reply ++ checksum_text ws

-- the room for a line
abbrev pub line_bytes : ℕ
line_bytes = answer_bytes + field_bytes

-- A line was done on what was held: the first words are what it leaves; its reply.
pub record RowDone (kind : Kind) (before words : List ℕ) (r : Done) : Type 0 where
  pub words_are : Holds most_words words r.used (left_by kind before)
  pub reply_is : r.reply ≡ replied_to kind before

-- Bytes are what is printed for a line, which took what was held to this.
pub record TextOf (bytes : List ℕ) (kind : Kind) (after : List ℕ) : Type 0 where
  pub before : List ℕ
  pub left : after ≡ left_by kind before
  pub is : bytes ≡ row_text (replied_to kind before) after
