-- What a call answers and leaves, and the table of refusals: The operations, Refusals.
use Rattle.std.specs.Prelude.{◌≡◌, ℕ}
use Rattle.answers.specs.declared.Answer.{Answer}
use Rattle.answers.specs.declared.Refusal.{Refusal}
use Rattle.answers.specs.declared.Refusal.TheVariants.{OutOfRange, WrongLength, NotAList, BadKey, KeyLive, NoFreeCell, NothingLive, KeyNotLive}
use Rattle.answers.specs.declared.Refusal.TheVariants.{KeyNotStanding, LineNotReadable, BadFile, NoRoom, BadRecord, NumberOutside, BadClasses, BadBatch}

-- The operations: every call answers four numbers.
abbrev pub answer : ℕ → ℕ → ℕ → ℕ → Answer
answer refusal key value count = record { refusal = refusal; key = key; value = value; count = count }

-- A call's outcome: the four numbers, and what it leaves of all that was lent to it. Most calls are lent the words of a list alone.
pub record Outcome (Lent : Type 0) : Type 0 where
  pub answered : Answer
  pub left : Lent

-- A call's contract: the numbers r that it answers, and what was lent as it leaves it, are those of the outcome.
pub record Meets {Lent : Type 0} (o : Outcome Lent) (r : Answer) (lent : Lent) : Type 0 where
  pub answered : r ≡ o.answered
  pub left : lent ≡ o.left

-- an accepted call
abbrev pub accepted : {Lent : Type 0} → ℕ → ℕ → ℕ → Lent → Outcome Lent
accepted key value count left = record { answered = answer 0 key value count; left = left }

-- the table's numbers, and the answers after the number; 9 is retired and not used again
abbrev pub answer_of : Refusal → Answer
answer_of OutOfRange = answer 1 0 0 0
answer_of WrongLength = answer 2 0 0 0
answer_of NotAList = answer 3 0 0 0
answer_of BadKey = answer 4 0 0 0
answer_of (KeyLive key looked) = answer 5 key 0 looked
answer_of (NoFreeCell key looked) = answer 6 key 0 looked
answer_of (NothingLive above) = answer 7 0 0 above
answer_of (KeyNotLive key looked) = answer 8 key 0 looked
answer_of (KeyNotStanding key) = answer 8 key 0 0
answer_of LineNotReadable = answer 10 0 0 0
answer_of BadFile = answer 11 0 0 0
answer_of NoRoom = answer 12 0 0 0
answer_of BadRecord = answer 13 0 0 0
answer_of NumberOutside = answer 14 0 0 0
answer_of BadClasses = answer 15 0 0 0
answer_of BadBatch = answer 19 0 0 0

-- Refusals: a refused call alters nothing of what was lent.
abbrev pub refused : {Lent : Type 0} → Refusal → Lent → Outcome Lent
refused r lent = record { answered = answer_of r; left = lent }
