-- `is_list::standing::put_links` meets its contract: at each turn the links that are still to be put, put after those that are pending then, come to
-- the same as all of them.
use mathlib.Core.Path.{◌≡◌}
use Prim.Native.Nat.{◌-◌, ◌≤◌}
use Rattle.meaning.specs.Words.{link_at}
use Rattle.account.specs.Pending.{put_from}
use Rattle.is_list.specs.Standing.{pending_of, Pending}
use Rattle.is_list.proofs.standing.put_links.Given as goal

abbrev pub invariant-loop-d : goal.invariant-loop-d
invariant-loop-d l =
    (l.d ≤ l.s.dimensions)
    × (Pending l.s l.cells l.numbers l.n l.d
    × (put_from (link_at l.list l.x) l.from (l.s.dimensions - l.from) (pending_of l.initial.cells l.initial.numbers l.count)
    ≡ put_from (link_at l.list l.x) l.d (l.s.dimensions - l.d) (pending_of l.cells l.numbers l.n)))

abbrev pub decreases-loop-d : goal.decreases-loop-d
decreases-loop-d l = l.s.dimensions - l.d
