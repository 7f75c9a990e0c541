-- What a line of a trace of counted calls does to what is held, its call, and what it is answered: the replay's lines with the class record beside the
-- list, and K, X and C, which are the record's own.
use Rattle.answers.specs.declared.Answer.{Answer}
use Rattle.std.specs.Prelude.{◌≡◌, List, ℕ, ◌≤◌, set, None, Option, Some}
use Rattle.answers.specs.Refusals.{answer_of}
use Rattle.answers.specs.declared.Refusal.TheVariants.{LineNotReadable}
use Rattle.calls.specs.Records.{Lent}
use Rattle.classes.specs.Classes.{class_out}
use Rattle.counted.specs.Counted.{Beside, beside, counted_out}
use Rattle.trace.specs.Lines.{Fits}
use Rattle.trace.specs.declared.Kind.{Kind}
use Rattle.trace.specs.declared.Kind.TheVariants.{Fresh, Make, Put, Length, Bytes, Add, PutByte, Last, Unreadable}
use Rattle.trace_held.specs.Held.{cut_to, altered_by}
use Rattle.counted_step.specs.declared.Line.{Line}
use Rattle.counted_step.specs.declared.Line.TheVariants.{Listed, ClassWords, ClassWord, Class}

-- the most words of a class record that are held
abbrev pub most_classes : ℕ
most_classes = 64

-- a line asks for no more than can be held
abbrev pub LineFits : Line → Type 0
LineFits (Listed kind) = Fits kind
LineFits (ClassWords n) = n ≤ most_classes
LineFits (ClassWord index value) = Unit {0}
LineFits (Class class) = Unit {0}

-- the replay's line; K, X and C do nothing to words, bytes and last number, as a line that is not readable
abbrev pub kind_in : Line → Kind
kind_in (Listed kind) = kind
kind_in (ClassWords n) = Unreadable
kind_in (ClassWord index value) = Unreadable
kind_in (Class class) = Unreadable

-- K cuts or extends the class record, X writes one word of it and nothing past the end; every other line leaves it to its call.
abbrev pub classes_after : Line → List ℕ → List ℕ
classes_after (Listed kind) classes = classes
classes_after (ClassWords n) classes = cut_to n classes
classes_after (ClassWord index value) classes = set classes index value
classes_after (Class class) classes = classes

-- what is held when the line's call is made
abbrev pub line_alters : Line → List ℕ → Beside Lent → Beside Lent
line_alters line bytes b = beside (altered_by (kind_in line) bytes b.lent) (classes_after line b.classes)

-- what a line of the replay is answered with the class record beside the list; P, L, B, H, Q and O make no call
abbrev pub kind_reply : Kind → Beside Lent → Option Answer
kind_reply (Fresh n call) b = Some (counted_out call b).answered
kind_reply (Make call) b = Some (counted_out call b).answered
kind_reply (Put index value) b = None
kind_reply (Length n) b = None
kind_reply (Bytes n) b = None
kind_reply Add b = None
kind_reply (PutByte index value) b = None
kind_reply (Last number) b = None
kind_reply Unreadable b = Some (answer_of LineNotReadable)

-- what is held after it
abbrev pub kind_leaves : Kind → Beside Lent → Beside Lent
kind_leaves (Fresh n call) b = (counted_out call b).left
kind_leaves (Make call) b = (counted_out call b).left
kind_leaves (Put index value) b = b
kind_leaves (Length n) b = b
kind_leaves (Bytes n) b = b
kind_leaves Add b = b
kind_leaves (PutByte index value) b = b
kind_leaves (Last number) b = b
kind_leaves Unreadable b = b

-- .. and any line: C asks the record about a class
abbrev pub line_reply : Line → Beside Lent → Option Answer
line_reply (Listed kind) b = kind_reply kind b
line_reply (ClassWords n) b = None
line_reply (ClassWord index value) b = None
line_reply (Class class) b = Some (class_out class b.classes).answered

abbrev pub line_leaves : Line → Beside Lent → Beside Lent
line_leaves (Listed kind) b = kind_leaves kind b
line_leaves (ClassWords n) b = b
line_leaves (ClassWord index value) b = b
line_leaves (Class class) b = b

-- A line's call was made: its reply, and what is held after it.
pub record LineCalled (line : Line) (b : Beside Lent) (r : Option Answer) (after : Beside Lent) : Type 0 where
  pub reply : r ≡ line_reply line b
  pub left : after ≡ line_leaves line b

pub record KindCalled (kind : Kind) (b : Beside Lent) (r : Option Answer) (after : Beside Lent) : Type 0 where
  pub reply : r ≡ kind_reply kind b
  pub left : after ≡ kind_leaves kind b
