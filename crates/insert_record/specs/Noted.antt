-- What a note does to the list's words and to the last number, whatever bytes it was read from.
use Rattle.std.specs.Prelude.{List, ℕ}
use Rattle.notes.specs.Notes.{Logged}
use Rattle.answers.specs.Refusals.{Meets}
use Rattle.calls.specs.Records.{lent_of, note_out}
use Rattle.answers.specs.declared.Answer.{Answer}

pub record Noted (logged : Logged) (before : List ℕ) (last : ℕ) (r : Answer) (after : List ℕ) (now-last : ℕ) : Type 0 where
  pub meets : (bytes : List ℕ) → Meets (note_out logged (lent_of before bytes last)) r (lent_of after bytes now-last)
