-- `trace_step::answer_line` meets its contract: a line that is told of lies within the bytes, and one that is too long is read as no kind.
use mathlib.Core.Path.{refl, sym}
use lib.Seq.{length-take-le}
use borrow.Author.Rules.{rules}
use Rattle.trace_step.proofs.answer_line.Goals as goal

pub slice_bounds-reply-end : goal.slice_bounds-reply-end
slice_bounds-reply-end c = sym (length-take-le _ c.args.line.now (c.requires.1.fits _ c.in-Line.is))

pub slice_bounds-parse-end : goal.slice_bounds-parse-end
slice_bounds-parse-end c = sym (length-take-le _ c.args.line.now (c.requires.1.fits _ c.in-Line.is))

pub reply-requires : goal.reply-requires
reply-requires c = ((c.requires.0, c.parse.ensures), tt)

pub reply-requires-in-LongLine : goal.reply-requires-in-LongLine
reply-requires-in-LongLine c = ((c.requires.0, search rules), rw c.in-LongLine.is refl)
