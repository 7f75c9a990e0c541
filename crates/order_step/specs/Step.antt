-- What one line of the order program answers and leaves: The order program 1 and 4.
use Rattle.std.specs.Prelude.{List, ℕ, Option, None, Some}
use Rattle.text.specs.Lines.{Handed, line, too_long}
use Rattle.answers.specs.Refusals.{Outcome, refused}
use Rattle.answers.specs.declared.Refusal.TheVariants.{LineNotReadable}
use Rattle.answers.specs.declared.Operation.{Operation}
use Rattle.answers.specs.declared.Operation.TheVariants as operations
use Rattle.meaning.specs.Operations.{operation_out}
use Rattle.entries.specs.Entries.{entry_key}
use Rattle.lines.specs.Grammar.{parsed_of}
use Rattle.lines.specs.declared.Kind.{Kind}
use Rattle.lines.specs.declared.Line.{Line}
use Rattle.lines.specs.declared.Kind.TheVariants.{Insert, Find, Finish, Take, Sweep}

-- the operation that a kind of line asks for, on its entry's key
abbrev pub kind_operation : Kind → Operation
kind_operation (Insert e value) = operations.Insert (entry_key e) value
kind_operation (Find e) = operations.Find (entry_key e)
kind_operation (Finish e) = operations.Finish (entry_key e)
kind_operation Take = operations.Take
kind_operation Sweep = operations.Sweep

abbrev pub kind_outcome : Kind → List ℕ → Outcome (List ℕ)
kind_outcome kind ws = operation_out (kind_operation kind) ws

-- Refusal 10, which is given before the list is called
abbrev pub unreadable : List ℕ → Outcome (List ℕ)
unreadable ws = refused LineNotReadable ws

abbrev pub parsed_outcome : Option Line → List ℕ → Outcome (List ℕ)
parsed_outcome (Some l) ws = kind_outcome l.kind ws
parsed_outcome None ws = unreadable ws

-- the outcome of a line as it is handed on
unfoldable pub line_outcome : Handed → List ℕ → Outcome (List ℕ)
line_outcome (line bytes) ws = parsed_outcome (parsed_of bytes) ws
line_outcome too_long ws = unreadable ws
