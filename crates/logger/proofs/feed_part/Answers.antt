-- `logger::feed_part` meets its contract: each turn takes one byte more of the part.
use mathlib.Core.Bool.{true≢false}
use mathlib.Core.Path.{sym}
use Prim.Native.Nat.{◌+◌}
use borrow.Author.Rules.{rules}
use Rattle.std.proofs.lemmas.Result.{err_from_is_err_and}
use Rattle.text.proofs.Parts.{none_fed, one_more_fed}
use Rattle.notes.specs.Feeding.{record_handing}
use Rattle.calls.specs.Records.{note_out}
use Rattle.report.specs.Answered.{leaving}
use Rattle.logger.proofs.Input.{still_listed}
use Rattle.logger.proofs.feed_part.Goals as goal

pub loop-byte-init : goal.loop-byte-init
loop-byte-init c = (c.requires, none_fed record_handing (leaving note_out))

pub returns-in_err-feed_byte : goal.returns-in_err-feed_byte
returns-in_err-feed_byte c =
    let a = c.args in
    let l = c.loop-byte in
    record {
      count = l.byte-index + 1;
      fed = one_more_fed record_handing (leaving note_out) a.part.now l.byte-index (search rules) l.invariant.1 c.feed_byte.ensures;
      whole = λ e. let failed = err_from_is_err_and c.from_residual.result c.from_residual.ensures.1 in absurd (true≢false (sym (rw failed.1 at e)));
    }

pub loop-byte-preserved : goal.loop-byte-preserved
loop-byte-preserved c =
    let a = c.args in
    let l = c.loop-byte in
    let byte = c.feed_byte.ensures in
    (still_listed l.invariant.0 byte, one_more_fed record_handing (leaving note_out) a.part.now l.byte-index (search rules) l.invariant.1 byte)
