-- `free_between::chain_from` meets its contract: what is left to chain from the last cell on, in the list as it stands, gives the same words as all
-- of it in the list of the call; those chained are fewer than C.
use Prim.Native.Nat.{◌-◌}
use Rattle.free_between.proofs.Ways.{Chaining}
use Rattle.free_between.proofs.chain_from.Given as goal

abbrev pub invariant-loop-next : goal.invariant-loop-next
invariant-loop-next l = Chaining l.initial.list l.list l.s l.path l.last l.count

abbrev pub decreases-loop-next : goal.decreases-loop-next
decreases-loop-next l = l.s.cells - l.count
