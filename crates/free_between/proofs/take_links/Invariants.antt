-- `free_between::take_links` meets its contract: what is left to take from link d on, in the list as it stands, gives the same words as all of it in
-- the list of the call.
use mathlib.Core.Path.{◌≡◌}
use Prim.Native.Nat.{◌-◌}
use Rattle.meaning.specs.Layer.SweepStores.{take_links}
use Rattle.words.specs.Shaped.{Shaped}
use Rattle.paths.specs.Paths.{path_of}
use Rattle.free_between.proofs.take_links.Given as goal

abbrev pub invariant-loop-d : goal.invariant-loop-d
invariant-loop-d l =
    Shaped l.list l.s
    × (take_links l.s.dimensions l.initial.list l.t.cell (path_of l.t.path) l.z (l.t.number - l.z)
    ≡ take_links l.s.dimensions l.list l.t.cell (path_of l.t.path) l.d (l.t.number - l.d))
