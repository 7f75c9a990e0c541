-- `take::take` meets its contract: with no live cell ahead it refuses, and else the two words stored and the path are what a take
-- writes.
use Prim.Native.Nat.{ℕ, ◌<◌}
use native.Mathlib.Omega.{arith}
use Rattle.settings.specs.Numbers.{fields_before_links}
use Rattle.words.specs.Shaped.{Shaped, Within}
use Rattle.words.proofs.Shaped.{field_within}
use Rattle.words.proofs.Listed.{listed_shaped}
use Rattle.take.proofs.Taking.{take_none_meets, take_meets}
use Rattle.take.proofs.take.Goals as goal
use Rattle.take.proofs.take.Goals.{In-Some}

-- the cell that is taken is one of the list's
within : (c : In-Some) (j : ℕ) → j < fields_before_links → Shaped c.args.list.now c.args.s × Within c.args.s c.in-Some.x j
within c j h = (listed_shaped c.requires, field_within (rw c.in-Some.is at c.first_live-ahead.ensures.below) h)

pub returns-in_default : goal.returns-in_default
returns-in_default c = take_none_meets c.requires c.first_live-ahead.ensures c.in_default.is c.refused.ensures

pub word-key-requires : goal.word-key-requires
word-key-requires c = within (goal.at.word-key-requires c).In-Some 0 (omega arith)

pub word-value-requires : goal.word-value-requires
word-value-requires c = within (goal.at.word-value-requires c).In-Some 1 (omega arith)

pub store-requires : goal.store-requires
store-requires c = within (goal.at.store-requires c).In-Some 1 (omega arith)

pub returns : goal.returns
returns c =
    take_meets c.requires c.first_live-ahead.ensures c.in-Some.is c.word-key.ensures c.word-value.ensures
    c.store.ensures.0 c.store-2.ensures.0 c.write_path.ensures.0 c.accepted.ensures
