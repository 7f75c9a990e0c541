-- `cell_tests::standing::only_link` meets its contract: the links from d on that are still to be tested decide as all of them do.
use mathlib.Core.Path.{◌≡◌}
use Prim.Native.Nat.{◌-◌}
use lib.ListN.{get_or}
use Rattle.account.specs.Tree.{all_from}
use Rattle.cell_tests.specs.Tests.{link_is, only_link}
use Rattle.cell_tests.proofs.standing.only_link.Given as goal

abbrev pub invariant-loop-d : goal.invariant-loop-d
invariant-loop-d l = only_link l.list l.y l.high l.c ≡ all_from (link_is l.list l.y l.high l.c) l.d (get_or l.list 0 0 - l.d)
