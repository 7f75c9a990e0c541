-- What the program logger keeps, and what its takes do to the list: The program logger.
use Rattle.std.specs.Prelude.{◌≡◌, Bool, false, List, [], ℕ, eqb, Result, Ok, OnOk}
use Rattle.meaning.specs.Operations.{take_out}
use Rattle.calls.specs.Records.{Lent, lent_of}
use Rattle.logger_step.specs.Printed.{take_text}
use Rattle.logger.specs.declared.Failure.{Failure}

-- the list's words and the last number, as the program keeps them: no record's bytes are kept
abbrev pub kept : List ℕ → ℕ → Lent
kept words last = lent_of words [] last

-- Bytes are what is printed for a take, which took the list from some words to these.
pub record TextOfTake (bytes after : List ℕ) : Type 0 where
  pub before : List ℕ
  pub left : after ≡ (take_out before).left
  pub is : bytes ≡ take_text before

-- A take is refused on these words.
abbrev pub NothingToTake : List ℕ → Type 0
NothingToTake ws = eqb (take_out ws).answered.refusal 0 ≡ false

-- A take was made; where it says that there is nothing more, it was refused.
pub record Took (before after : List ℕ) (r : Result Bool Failure) : Type 0 where
  pub left : after ≡ (take_out before).left
  pub nothing : r ≡ Ok false → NothingToTake before

-- Everything was taken, if all was answered.
abbrev pub Drained : List ℕ → Result (Unit {0}) Failure → Type 0
Drained after r = OnOk r (NothingToTake after)
