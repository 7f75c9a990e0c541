-- `counted::no_set_up` meets its contract, by the ranges.
use mathlib.Core.Path.{sym, ◌∙◌}
use borrow.Author.Tests.{not-true, not-false}
use Rattle.counted.proofs.no_set_up.Goals as goal

pub returns-then-not-in_range : goal.returns-then-not-in_range
returns-then-not-in_range c =
    rw (sym c.in_range.ensures ∙ not-true c.in_range.result c.if-not-in_range.true-raw) c.refused.ensures

pub returns : goal.returns
returns c =
    rw (sym c.in_range.ensures ∙ not-false c.in_range.result c.if-not-in_range.false-raw) c.refused-2.ensures
