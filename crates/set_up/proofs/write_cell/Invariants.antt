-- `set_up::write_cell` meets its contract: the words so far are 0, and those past them as they stood.
use mathlib.Core.List.{◌++◌}
use mathlib.Core.Path.{◌≡◌}
use lib.ListN.{drop}
use Rattle.set_up.specs.Fresh.{zeros}
use Rattle.set_up.proofs.write_cell.Given as goal

abbrev pub invariant-loop-word : goal.invariant-loop-word
invariant-loop-word l = l.part ≡ zeros l.word-index ++ drop l.word-index l.initial.part
