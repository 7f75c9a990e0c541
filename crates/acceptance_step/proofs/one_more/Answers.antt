-- `acceptance_step::one_more` meets its contract, by its test.
use mathlib.Core.Path.{refl}
use native.Mathlib.Numerals.{add-one}
use borrow.Author.Tests.{lt-ltb, le-ltb}
use Rattle.acceptance_step.specs.Printed.{most_lines}
use Rattle.acceptance_step.proofs.one_more.Goals as goal

pub returns-then-lines-lt18446744073709551615 : goal.returns-then-lines-lt18446744073709551615
returns-then-lines-lt18446744073709551615 c = let n = c.args.lines in rw (lt-ltb n most_lines c.if-lines-lt18446744073709551615.true) (add-one n)

pub returns : goal.returns
returns c = let n = c.args.lines in rw (le-ltb n most_lines c.if-lines-lt18446744073709551615.false) refl
