-- `logger::take_next` meets its contract: the bytes written are those that `take_text` puts, on the words before it.
use mathlib.Core.Path.{sym}
use lib.Seq.{length-take-le}
use Rattle.std.proofs.lemmas.Result.{err_from_is_err_and}
use Rattle.logger.proofs.Input.{made_took, unwritten_took}
use Rattle.logger.proofs.take_next.Goals as goal

pub slice_bounds-write_take-end : goal.slice_bounds-write_take-end
slice_bounds-write_take-end c = let answered = c.take_text-taken in sym (length-take-le answered.result.bytes _ answered.ensures.within)

pub write_take-requires : goal.write_take-requires
write_take-requires c =
    let answered = c.take_text-taken.ensures in
    record { before = c.args.words.now; left = answered.left; is = answered.text }

pub returns-in_err-write_take : goal.returns-in_err-write_take
returns-in_err-write_take c =
    let failed = err_from_is_err_and c.from_residual.result c.from_residual.ensures.1 in
    unwritten_took c.take_text-taken.ensures.left failed.1

pub returns : goal.returns
returns c = let answered = c.take_text-taken.ensures in made_took answered.left answered.more
