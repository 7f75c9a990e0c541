-- `cell_tests::standing::links_none` meets its contract: the links from d on that are still to be tested decide as all of them do.
use mathlib.Core.Path.{◌≡◌}
use Prim.Native.Nat.{◌-◌}
use lib.Dec.{eqb}
use Rattle.meaning.specs.Words.{link_at}
use Rattle.account.specs.Tree.{all_from}
use Rattle.account.specs.Loop.{links_none}
use Rattle.cell_tests.proofs.standing.links_none.Given as goal

abbrev pub invariant-loop-d : goal.invariant-loop-d
invariant-loop-d l = links_none l.list l.y l.n ≡ all_from (λ i. eqb (link_at l.list l.y i) 0) l.d (l.n - l.d)
