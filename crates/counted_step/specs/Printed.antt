-- What is printed for a line: what the replay prints, and then the checksum of the class record's words.
use Rattle.answers.specs.declared.Answer.{Answer}
use Rattle.std.specs.Prelude.{Bool, List, ◌++◌, ◌≡◌, ℕ, ◌+◌, ◌*◌, take, Option}
use Rattle.text.specs.Fields.{space}
use Rattle.calls.specs.Records.{Lent, lent_of}
use Rattle.counted.specs.Counted.{Beside, beside}
use Rattle.report.specs.Report.{checksum_text, field_bytes, answer_bytes}
use Rattle.trace.specs.Lines.{most_words, most_held}
use Rattle.trace_held.specs.Held.{Held, Holds}
use Rattle.trace_step.specs.Printed.{head_text, tail_text, tells}
use Rattle.counted_step.specs.Lines.{most_classes, kind_in, line_alters, line_reply, line_leaves}
use Rattle.counted_step.specs.declared.Line.{Line}
use Rattle.counted_step.specs.declared.Sizes.{Sizes}
use Rattle.counted_step.specs.declared.Done.{Done}

-- so many words, bytes and words of the class record are held
pub record Room (words bytes classes : List ℕ) (sizes : Sizes) : Type 0 where
  pub words_held : Held most_words words sizes.used
  pub bytes_held : Held most_held bytes sizes.filled
  pub classes_held : Held most_classes classes sizes.classes

-- what is held
abbrev pub held_in : List ℕ → List ℕ → ℕ → List ℕ → Sizes → Beside Lent
held_in words bytes last classes sizes =
    beside (lent_of (take sizes.used words) (take sizes.filled bytes) last) (take sizes.classes classes)

-- what is held after a line
unfoldable pub left_by : Line → List ℕ → Beside Lent → Beside Lent
left_by line bytes b = line_leaves line (line_alters line bytes b)

-- the bytes printed for a reply and what is held afterwards
unfoldable pub text_of : Option Answer → Bool → Beside Lent → List ℕ
text_of reply told after = head_text reply ++ (tail_text told after.lent space ++ checksum_text after.classes)

-- .. and for a line, on what is held before it
abbrev pub line_text : Line → List ℕ → Beside Lent → List ℕ
line_text line text b = text_of (line_reply line (line_alters line text b)) (tells (kind_in line)) (left_by line text b)

-- the room for a line
abbrev pub line_bytes : ℕ
line_bytes = answer_bytes + 4 * field_bytes

-- A line was done on what was held: the first words, bytes and words of the record are what it leaves, and so is the last number; its reply.
pub record LineDone (line : Line) (text : List ℕ) (before : Beside Lent) (words bytes : List ℕ) (last : ℕ) (classes : List ℕ) (r : Done) : Type 0 where
  pub words_are : Holds most_words words r.used (left_by line text before).lent.words
  pub bytes_are : Holds most_held bytes r.filled (left_by line text before).lent.bytes
  pub last_is : last ≡ (left_by line text before).lent.last
  pub classes_are : Holds most_classes classes r.classes (left_by line text before).classes
  pub reply_is : r.reply ≡ line_reply line (line_alters line text before)

-- Bytes are what is printed for a line, which took what was held to this.
pub record TextOf (bytes : List ℕ) (line : Line) (text : List ℕ) (after : Beside Lent) : Type 0 where
  pub before : Beside Lent
  pub left : after ≡ left_by line text before
  pub is : bytes ≡ line_text line text before
