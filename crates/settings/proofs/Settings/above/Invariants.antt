-- `Settings::above` meets its contract: the product after i turns is b to the power i, at most K or 1 before each factor, and once above K it stays above.
use mathlib.Core.Path.{◌≡◌}
use Prim.Native.Nat.{◌+◌, ◌^◌, ◌≤◌}
use Rattle.settings.proofs.Settings.above.Given as goal

abbrev pub invariant-loop : goal.invariant-loop
invariant-loop l = (l.power ≡ l.b ^ l.counter) × (l.power ≤ l.k + 1)
