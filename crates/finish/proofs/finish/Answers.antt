-- `finish::finish` meets its contract: the key and what the search found decide the way out, and each has the outcome of the definition.
use mathlib.Core.Path.{◌∙◌, sym, ap₂}
use Prim.Native.Nat.{◌-◌, ◌<◌}
use native.Mathlib.Omega.{arith}
use borrow.Author.Tests.{not-true, not-false}
use Rattle.meaning.specs.Operations.{finish_out}
use Rattle.meaning.proofs.Outcomes.{bad_key_meets}
use Rattle.words.proofs.Shaped.{field_within}
use Rattle.words.proofs.Listed.{listed_shaped}
use Rattle.search.proofs.Slots.{standing_cell}
use Rattle.finish.proofs.Debts.{listed_payable, listed_low}
use Rattle.finish.proofs.Call.{absent_meets, standing_meets}
use Rattle.finish.proofs.finish.Goals as goal
use Rattle.finish.proofs.finish.Goals.{Else-not-f}

pub returns-then-not-has_key : goal.returns-then-not-has_key
unfolding finish_out
returns-then-not-has_key c = bad_key_meets c.requires c.args.key _ (sym c.has_key.ensures ∙ c.if-not-has_key.true) c.refused.ensures

pub returns-then-not-f : goal.returns-then-not-f
returns-then-not-f c =
    let f = c.search-f in
    absent_meets f.ensures.sought (not-true f.result.standing c.if-not-f.true) c.refused-then-not-f.ensures

-- what was found is a cell of the list
found : (c : Else-not-f) → c.search-f.result.c < c.args.levels.now.settings.cells
found c = standing_cell c.search-f.ensures.sought (not-false c.search-f.result.standing c.if-not-f.false)

pub word-requires : goal.word-requires
word-requires c = (listed_shaped c.requires, field_within (found (goal.at.word-requires c).Else-not-f) (omega arith))

pub word-requires-2 : goal.word-requires-2
word-requires-2 c = (listed_shaped c.requires, field_within (found (goal.at.word-requires-2 c).Else-not-f) (omega arith))

pub overflow_sub-moved : goal.overflow_sub-moved
overflow_sub-moved c =
    omega (arith, listed_low c.requires c.search-f.result.c (found (goal.at.overflow_sub-moved c).Else-not-f))

pub finish_cell-requires : goal.finish_cell-requires
finish_cell-requires c =
    (listed_shaped c.requires, listed_payable c.requires c.search-f.result.c (found (goal.at.finish_cell-requires c).Else-not-f))

pub returns : goal.returns
returns c =
    let f = c.search-f in
    standing_meets f.ensures.sought (not-false f.result.standing c.if-not-f.false) (ap₂ (λ m n. m - n) c.word.ensures c.word-2.ensures)
    c.finish_cell.ensures.0 c.accepted.ensures
