-- `read_file::put_pairs` meets its contract: the words have been given the pairs of the file before pair i.
use lib.ListN.{drop}
use Rattle.files.specs.Files.{before, pairs_from}
use Rattle.read_file.specs.Putting.{Putting}
use Rattle.read_file.proofs.put_pairs.Given as goal

abbrev pub invariant-loop-i : goal.invariant-loop-i
invariant-loop-i l = Putting l.list l.fn.s (pairs_from l.i (drop (before l.n) l.file)) l.last l.path
