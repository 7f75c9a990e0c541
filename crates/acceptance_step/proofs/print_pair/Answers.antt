-- `acceptance_step::print_pair` writes what is put.
use mathlib.Core.Path.{sym}
use lib.Seq.{length-take-le}
use Rattle.acceptance_step.proofs.print_pair.Goals as goal

pub slice_bounds-write-end : goal.slice_bounds-write-end
slice_bounds-write-end c = let put = c.put_pair-end in sym (length-take-le put.result _ put.ensures.1)
