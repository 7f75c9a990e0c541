-- `free_between::chain_from` meets its contract: what is left to chain from the last cell on, in the list as it stands, gives the same words as all
-- of it in the list of the call; those chained are fewer than C.
use native.Mathlib.Omega.{arith}
use Rattle.words.proofs.Listed.{listed_shaped}
use Rattle.free_between.proofs.Ways.{chaining_start, chaining_room, chaining_end, chaining_never, chaining_onward}
use Rattle.free_between.proofs.chain_from.Goals as goal

pub loop-next-init : goal.loop-next-init
loop-next-init c = chaining_start c.requires

pub overflow_add-count : goal.overflow_add-count
overflow_add-count c =
    let f = c.requires in
    omega (arith, chaining_room f c.loop-next.invariant, (listed_shaped f.dead.listed).cells_most)

pub loop-next-smaller : goal.loop-next-smaller
loop-next-smaller c = omega (arith, chaining_room c.requires c.loop-next.invariant)

pub loop-next-preserved : goal.loop-next-preserved
loop-next-preserved c = chaining_onward c.requires c.loop-next.invariant c.in-Some.ensures c.if-next-position.false c.store.ensures.0

pub returns-then-next-position : goal.returns-then-next-position
returns-then-next-position c = chaining_end c.requires c.loop-next.invariant c.in-Some.ensures c.if-next-position.true

pub returns-in_default : goal.returns-in_default
returns-in_default c = absurd (chaining_never c.requires c.loop-next.invariant c.in_default.ensures.0)
