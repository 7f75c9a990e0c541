-- An operation on a list: it is the whole outcome of its definition, and a list with the same settings is left.
use Rattle.std.specs.Prelude.{List, ℕ}
use Rattle.settings.specs.declared.Settings.{Settings}
use Rattle.answers.specs.Refusals.{Meets}
use Rattle.answers.specs.declared.Answer.{Answer}
use Rattle.answers.specs.declared.Operation.{Operation}
use Rattle.meaning.specs.Operations.{operation_out}
use Rattle.meaning.specs.Layer.Listed.{Listed}

pub record Operated (operation : Operation) (s : Settings) (before : List ℕ) (r : Answer) (after : List ℕ) : Type 0 where
  pub met : Meets (operation_out operation before) r after
  pub listed : Listed after s
