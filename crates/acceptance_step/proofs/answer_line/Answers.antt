-- `acceptance_step::answer_line` meets its contract: a line that is told of lies within the bytes.
use Rattle.acceptance_step.proofs.answer_line.Goals as goal

pub slice_bounds-parse-end : goal.slice_bounds-parse-end
slice_bounds-parse-end c = c.requires.1.fits _ c.in-Line.is
