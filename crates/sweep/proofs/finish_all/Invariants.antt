-- `sweep::finish_all` meets its contract: what is left to finish from cell n on, in the list as it stands, gives the same words as all of it
-- in the list of the call; each debt finished leaves a list.
use mathlib.Core.Path.{◌≡◌}
use Prim.Native.Nat.{◌-◌}
use Rattle.meaning.specs.Layer.SweepStores.{finish_all}
use Rattle.meaning.specs.Layer.Listed.{Listed}
use Rattle.sweep.proofs.finish_all.Given as goal

abbrev pub invariant-loop-n : goal.invariant-loop-n
invariant-loop-n l =
    Listed l.list l.s
    × (finish_all l.s.dimensions l.initial.list 1 (l.s.cells - 1) ≡ finish_all l.s.dimensions l.list l.n (l.s.cells - l.n))
