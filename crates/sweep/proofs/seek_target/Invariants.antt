-- `sweep::seek_target` meets its contract: at each turn the path has come past dead nodes only, and a key less lies above its cell's.
use Rattle.meaning.specs.Reading.{read}
use Rattle.meaning.specs.Words.{key_at}
use Rattle.meaning.specs.Operations.{keys_above}
use Rattle.sweep.proofs.Seeking.{Seeking}
use Rattle.sweep.proofs.seek_target.Given as goal

abbrev pub invariant-loop-next : goal.invariant-loop-next
invariant-loop-next l = Seeking l.list l.s l.at l.number l.path

abbrev pub decreases-loop-next : goal.decreases-loop-next
decreases-loop-next l = keys_above (key_at l.list l.at) (read l.list).row
