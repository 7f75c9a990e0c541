-- `search::lower` meets its contract and ends: each turn goes one step of the way, and raises the number of the link at hand or the cell's digit
-- there.
use Prim.Native.Nat.{◌+◌, ◌*◌, ◌-◌}
use Rattle.meaning.specs.Keys.{coordinate}
use Rattle.meaning.specs.Words.{key_at}
use Rattle.meaning.specs.Lower.{lower_from}
use Rattle.search.proofs.Lowering.{OnSomeWay}
use Rattle.search.proofs.lower.Given as goal

abbrev pub invariant-loop-d : goal.invariant-loop-d
invariant-loop-d l = OnSomeWay l.list (lower_from l.list l.initial.at l.initial.d) l.at l.d

abbrev pub decreases-loop-d : goal.decreases-loop-d
decreases-loop-d l = l.s.dimensions * l.s.base - (l.d * l.s.base + coordinate l.s.base l.s.dimensions (key_at l.list l.at) l.d)
