-- When two engines' answers to an operation are the same: refusal, key and value, and for take and sweep the count. What a search looks at, and the
-- links that a finish moves, are the list's own.
use Rattle.std.specs.Prelude.{Bool, true, false, cond, ◌&&◌, eqb}
use Rattle.answers.specs.declared.Answer.{Answer}
use Rattle.answers.specs.declared.Operation.{Operation}
use Rattle.answers.specs.declared.Operation.TheVariants.{Insert, Find, Finish, Take, Sweep}

abbrev pub is_counted : Operation → Bool
is_counted (Insert key value) = false
is_counted (Find key) = false
is_counted (Finish key) = false
is_counted Take = true
is_counted Sweep = true

unfoldable pub alike : Bool → Answer → Answer → Bool
alike counted one other =
    eqb one.refusal other.refusal && (eqb one.key other.key
    && (eqb one.value other.value && cond counted (eqb one.count other.count) true))
