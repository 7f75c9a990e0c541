-- The table of refusals: no number is 0, which says that a call is accepted, and none is 9, which is retired.
use mathlib.Core.Path.{◌≡◌}
use native.Mathlib.Omega.{arith}
use Rattle.answers.specs.declared.Refusal.{Refusal}
use Rattle.answers.specs.declared.Refusal.TheVariants.{OutOfRange, WrongLength, NotAList, BadKey, KeyLive, NoFreeCell, NothingLive}
use Rattle.answers.specs.declared.Refusal.TheVariants.{KeyNotLive, KeyNotStanding, LineNotReadable, BadFile, NoRoom, BadRecord, NumberOutside, BadClasses, BadBatch}
use Rattle.answers.specs.Refusals.{answer_of}

pub table : (r : Refusal) → ((answer_of r).refusal ≡ 0 → ⊥) × ((answer_of r).refusal ≡ 9 → ⊥)
table OutOfRange = (λ e. omega arith, λ e. omega arith)
table WrongLength = (λ e. omega arith, λ e. omega arith)
table NotAList = (λ e. omega arith, λ e. omega arith)
table BadKey = (λ e. omega arith, λ e. omega arith)
table (KeyLive key count) = (λ e. omega arith, λ e. omega arith)
table (NoFreeCell key count) = (λ e. omega arith, λ e. omega arith)
table (NothingLive above) = (λ e. omega arith, λ e. omega arith)
table (KeyNotLive key count) = (λ e. omega arith, λ e. omega arith)
table (KeyNotStanding key) = (λ e. omega arith, λ e. omega arith)
table LineNotReadable = (λ e. omega arith, λ e. omega arith)
table BadFile = (λ e. omega arith, λ e. omega arith)
table NoRoom = (λ e. omega arith, λ e. omega arith)
table BadRecord = (λ e. omega arith, λ e. omega arith)
table NumberOutside = (λ e. omega arith, λ e. omega arith)
table BadClasses = (λ e. omega arith, λ e. omega arith)
table BadBatch = (λ e. omega arith, λ e. omega arith)
