-- `batch::batch` meets its contract: each turn makes one call more, and what is still to be done leads to where the whole batch leads.
use mathlib.Core.List.{map}
use lib.ListN.{drop}
use Rattle.calls.specs.Batch.{batch_lent}
use Rattle.meaning.specs.Layer.Listed.{Listed}
use Rattle.batch.proofs.Calls.{call_of}
use Rattle.batch.proofs.Batching.{ToDo}
use Rattle.batch.proofs.batch.Given as goal

abbrev pub invariant-loop-i : goal.invariant-loop-i
invariant-loop-i l =
    Listed l.list l.levels.settings × ToDo (map call_of l.whole) (map call_of (drop l.i l.whole)) l.i (batch_lent l.initial.list l.initial.answers) (batch_lent l.list l.answers)
