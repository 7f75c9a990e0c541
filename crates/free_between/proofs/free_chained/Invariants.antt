-- `free_between::free_chained` meets its contract: what is left to free from cell x on, in the list as it stands, gives the same words as all of it in
-- the list of the call.
use mathlib.Core.Path.{◌≡◌}
use Prim.Native.Nat.{◌-◌}
use Rattle.words.specs.Shaped.{Shaped}
use Rattle.free_between.specs.Between.{free_chained, ChainIn}
use Rattle.free_between.proofs.free_chained.Given as goal

abbrev pub invariant-loop : goal.invariant-loop
invariant-loop l =
    Shaped l.list l.s
    × (ChainIn l.s l.list l.x (l.end - l.counter)
    × (free_chained l.s.dimensions l.initial.list l.initial.x l.end ≡ free_chained l.s.dimensions l.list l.x (l.end - l.counter)))
