-- `text::fields::field_end` meets its contract: no byte from `at` to before `i` is a space.
use mathlib.Core.Path.{◌≡◌}
use Prim.Native.Nat.{ℕ, ◌≤◌, ◌<◌}
use lib.ListN.{get_or}
use Rattle.text.specs.Fields.{space}
use Rattle.text.proofs.fields.field_end.Given as goal

abbrev pub invariant-loop-i : goal.invariant-loop-i
invariant-loop-i l = (k : ℕ) → l.at ≤ k → k < l.i → get_or l.line k 0 ≡ space → ⊥
