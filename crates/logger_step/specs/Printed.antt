-- What the program logger prints for a take, byte for byte: docs/REFERENCE.md, *The program logger*.
use Rattle.std.specs.Prelude.{◌≡◌, List, ℕ, ◌≤◌, eqb, length, take}
use Rattle.text.specs.Lines.{line_feed}
use Rattle.meaning.specs.Operations.{take_out}
use Rattle.report.specs.Report.{answer_text}
use Rattle.logger_step.specs.declared.TakeText.{TakeText}

-- the bytes printed for a take
abbrev pub take_text : List ℕ → List ℕ
take_text ws = answer_text (take_out ws).answered line_feed

-- A take was made: these words are left, and the first bytes of `out` are what is printed.
pub record TakeAnswered (before after out : List ℕ) (r : TakeText) : Type 0 where
  pub left : after ≡ (take_out before).left
  pub text : take r.bytes out ≡ take_text before
  pub within : r.bytes ≤ length out
  pub more : r.more ≡ eqb (take_out before).answered.refusal 0
