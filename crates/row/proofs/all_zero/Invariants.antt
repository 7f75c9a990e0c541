-- `row::all_zero` meets its contract: the words before one are 0, so all are if those from it on are.
use mathlib.Core.Path.{◌≡◌}
use lib.Dec.{eqb}
use lib.ListN.{drop}
use Rattle.std.specs.List.{list_all}
use Rattle.row.proofs.all_zero.Given as goal

abbrev pub invariant-loop-word : goal.invariant-loop-word
invariant-loop-word l = list_all (λ w. eqb w 0) l.part ≡ list_all (λ w. eqb w 0) (drop l.word-index l.part)
