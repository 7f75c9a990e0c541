-- `write_file::write_pairs` meets its contract: at each turn the pairs of the live nodes in front of the path's cell are written, and a key
-- less lies ahead.
use Rattle.files.specs.Files.{before}
use Rattle.write_file.proofs.Writing.{keys_ahead, Writing}
use Rattle.write_file.proofs.write_pairs.Given as goal

abbrev pub invariant-loop-next : goal.invariant-loop-next
invariant-loop-next l = Writing l.list l.s (before l.n) l.initial.file l.file l.path l.i

abbrev pub decreases-loop-next : goal.decreases-loop-next
decreases-loop-next l = keys_ahead l.list l.s l.path
