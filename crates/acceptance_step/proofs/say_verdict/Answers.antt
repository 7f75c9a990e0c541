-- `acceptance_step::say_verdict` writes what is put.
use mathlib.Core.Path.{sym}
use lib.Seq.{length-take-le}
use Rattle.acceptance_step.proofs.say_verdict.Goals as goal

pub slice_bounds-write_verdict-end : goal.slice_bounds-write_verdict-end
slice_bounds-write_verdict-end c = let put = c.put_verdict-end in sym (length-take-le put.result _ put.ensures.1)
