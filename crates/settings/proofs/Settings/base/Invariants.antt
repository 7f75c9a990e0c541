-- `Settings::base` meets its contract: low to the power D is at most K and high to the power D above it, so that high is the base once
-- the two are neighbours, and there is only one base.
use Prim.Native.Nat.{◌-◌, ◌^◌, ◌≤◌, ◌<◌}
use Rattle.settings.proofs.Settings.base.Given as goal

abbrev pub invariant-loop-low : goal.invariant-loop-low
invariant-loop-low l = (1 ≤ l.low) × ((l.low < l.high) × ((l.low ^ l.d ≤ l.k) × ((l.k < l.high ^ l.d) × (l.high ≤ 65536))))

abbrev pub decreases-loop-low : goal.decreases-loop-low
decreases-loop-low l = l.high - l.low
