-- `order_step::step` meets its contract: what `parse` reads says which operation is asked for.
use mathlib.Core.Path.{◌∙◌, sym}
use Rattle.words.proofs.Listed.{listed_shaped, listed_base, listed_power}
use Rattle.order_step.proofs.LineOutcome.{read_meets}
use Rattle.order_step.proofs.step.Goals as goal

pub of-levels-requires : goal.of-levels-requires
of-levels-requires c = let h = c.requires in ((listed_shaped h).dimensions_most, (listed_base h, listed_power h))

pub returns : goal.returns
returns c =
    let a = c.args in
    read_meets a.bytes.now a.list.now (sym c.parse.ensures ∙ c.in-Some.is) (rw c.operation_of.ensures at c.operate.ensures.met)
