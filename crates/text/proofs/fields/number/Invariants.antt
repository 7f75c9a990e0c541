-- `text::fields::number` meets its contract: reading the field from its start is reading what is left of it after the digits so far.
use mathlib.Core.Path.{◌≡◌}
use lib.ListN.{drop}
use Rattle.text.specs.Answers.{digits_on}
use Rattle.text.specs.declared.fields.Begun.TheVariants.{NoDigit}
use Rattle.text.proofs.fields.number.Given as goal

abbrev pub invariant-loop-byte : goal.invariant-loop-byte
invariant-loop-byte l = digits_on l.most NoDigit l.field ≡ digits_on l.most l.begun (drop l.byte-index l.field)
