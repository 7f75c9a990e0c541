-- The fourteen steps, proved of the definitions by computing them.
use mathlib.Core.Path.{◌≡◌, refl}
use mathlib.Core.List.{map}
use Rattle.calls.specs.Fourteen.{table, expected, ran, fresh_words, BaseOfSteps}
use Rattle.calls.proofs.Computing.{computing}

pub fourteen : ran table fresh_words ≡ map expected table
unfolding ran table fresh_words computing
fourteen = refl

pub base_of_steps_is_4 : BaseOfSteps
unfolding computing
base_of_steps_is_4 = refl
