-- `finish::move_links` meets its contract: what is left to move from link d on, in the list as it stands, gives the same words as the whole
-- move in the list of the call.
use mathlib.Core.Path.{◌≡◌}
use Prim.Native.Nat.{◌-◌}
use Rattle.meaning.specs.Layer.Stores.{move_links}
use Rattle.words.specs.Shaped.{Shaped}
use Rattle.finish.proofs.move_links.Given as goal

abbrev pub invariant-loop-d : goal.invariant-loop-d
invariant-loop-d l =
    Shaped l.list l.s × (move_links l.s.dimensions l.initial.list l.n l.c l.low (l.high - l.low) ≡ move_links l.s.dimensions l.list l.n l.c l.d (l.high - l.d))
