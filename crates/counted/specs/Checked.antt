-- What the inner functions answer: the refusal of words and record, and the record after a call.
use Rattle.std.specs.Prelude.{◌≡◌, true, cond, List, ℕ, eqb, Option, Some, None, Result, Ok, Err}
use Rattle.settings.specs.Numbers.{in_range}
use Rattle.settings.specs.declared.Levels.{Levels}
use Rattle.settings.specs.declared.Settings.{Settings}
use Rattle.answers.specs.Refusals.{answer_of}
use Rattle.answers.specs.declared.Refusal.{Refusal}
use Rattle.answers.specs.declared.Refusal.TheVariants.{OutOfRange, WrongLength, NotAList, BadClasses}
use Rattle.answers.specs.declared.Answer.{Answer}
use Rattle.meaning.specs.Reading.{is_list}
use Rattle.meaning.specs.Layer.Listed.{Listed}
use Rattle.calls.specs.Saved.{FileLent, read_out}
use Rattle.classes.specs.Classes.{classes_of, agrees}

-- the refusal of words and record: 3, then 15; none of a list with the record that a full reading of it gives
abbrev pub refusal_of : List ℕ → List ℕ → Option Refusal
refusal_of ws classes = cond (is_list ws) (cond (agrees ws classes) None (Some BadClasses)) (Some NotAList)

-- such a list and record
pub record Agreeing (ws classes : List ℕ) (s : Settings) : Type 0 where
  pub listed : Listed ws s
  pub agree : agrees ws classes ≡ true

-- what the check of both answers
pub record CheckedBeside (ws classes : List ℕ) (r : Result Levels Refusal) : Type 0 where
  pub refused : (e : Refusal) → r ≡ Err e → refusal_of ws classes ≡ Some e
  pub agreeing : (l : Levels) → r ≡ Ok l → Agreeing ws classes l.settings

-- The record after a call that answered a and left the words ws: written anew, or kept if the call was refused.
pub record Renewed (a : Answer) (ws before : List ℕ) (r : Answer) (after : List ℕ) : Type 0 where
  pub answer : r ≡ a
  pub classes : after ≡ cond (eqb a.refusal 0) (classes_of ws) before

-- what a set up answers to a record that has not 32 words: 1, then 2
abbrev pub set_up_refusal : ℕ → ℕ → ℕ → Answer
set_up_refusal D K C = cond (in_range D K C) (answer_of WrongLength) (answer_of OutOfRange)

-- what a read answers to a record that has not 32 words: what it refuses by itself, else 15
abbrev pub read_refusal : FileLent → Answer
read_refusal lent = cond (eqb (read_out lent).answered.refusal 0) (answer_of BadClasses) (read_out lent).answered
