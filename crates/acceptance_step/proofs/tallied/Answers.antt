-- `acceptance_step::tallied` meets its contract: the line counts, and is the first that differs if none before it did.
use mathlib.Core.Path.{refl}
use borrow.Author.Tests.{ne_eqb}
use Rattle.acceptance_step.specs.Printed.{tallied_by}
use Rattle.acceptance_step.proofs.tallied.Goals as goal

pub returns-then-t-ne0 : goal.returns-then-t-ne0
unfolding tallied_by
returns-then-t-ne0 c = rw (ne_eqb c.args.t.first 0 c.if-t-ne0.true, ← c.one_more-lines.ensures) refl

pub returns-then-compare : goal.returns-then-compare
unfolding tallied_by
returns-then-compare c = rw (c.if-t-ne0.false, ← c.one_more-lines.ensures, ← c.compare.ensures, c.if-compare.true) refl

pub returns : goal.returns
unfolding tallied_by
returns c = rw (c.if-t-ne0.false, ← c.one_more-lines.ensures, ← c.compare.ensures, c.if-compare.false) refl
