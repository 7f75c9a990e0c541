-- Calls and sequences of calls, as a host makes them.
use Rattle.std.specs.Prelude.{List, [], ◌∷◌, ℕ}
use Rattle.answers.specs.Refusals.{Outcome}
use Rattle.answers.specs.declared.Operation.{Operation}
use Rattle.meaning.specs.Operations.{set_up_out, operation_out}
use Rattle.calls.specs.Records.{Lent, lent_of, record_out}
use Rattle.calls.specs.Saved.{FileLent, file_lent, write_out, read_out}
use Rattle.calls.specs.declared.Call.{Call}
use Rattle.calls.specs.declared.Call.TheVariants.{SetUp, Operate, Record, Write, Read}

-- an outcome on the words alone: what else was lent stays as it is
abbrev pub on_words : Lent → Outcome (List ℕ) → Outcome Lent
on_words lent o = record { answered = o.answered; left = lent_of o.left lent.bytes lent.last }

-- an outcome on the words and the bytes, which are a file's: the last number stays
abbrev pub on_file : Lent → Outcome FileLent → Outcome Lent
on_file lent o = record { answered = o.answered; left = lent_of o.left.words o.left.file lent.last }

-- the outcome of one call
unfoldable pub outcome : Call → Lent → Outcome Lent
outcome (SetUp D K C) lent = on_words lent (set_up_out D K C lent.words)
outcome (Operate operation) lent = on_words lent (operation_out operation lent.words)
outcome Record lent = record_out lent
outcome Write lent = on_file lent (write_out (file_lent lent.words lent.bytes))
outcome Read lent = on_file lent (read_out (file_lent lent.words lent.bytes))

-- A call as a host makes it: with the bytes and the last number that it lends beside the words, whatever they are.
pub record Made : Type 0 where
  pub call : Call
  pub bytes : List ℕ
  pub last : ℕ

-- a call that needs neither
abbrev pub alone : Call → Made
alone call = record { call = call; bytes = []; last = 0 }

abbrev pub operated : Operation → Made
operated operation = alone (Operate operation)

abbrev pub lending : Made → List ℕ → Lent
lending made ws = lent_of ws made.bytes made.last

-- the outcome of a call as it is made on the words of a buffer
abbrev pub made_on : Made → List ℕ → Outcome Lent
made_on made ws = outcome made.call (lending made ws)

-- the words that a sequence of calls leaves
unfoldable pub after_calls : List Made → List ℕ → List ℕ
after_calls [] ws = ws
after_calls (made ∷ calls) ws = after_calls calls (made_on made ws).left.words
