-- `notes::feed::feed_byte` meets its contract, by whether the byte closes the record begun.
use mathlib.Core.Path.{sym, ◌∙◌}
use Rattle.notes.proofs.Feeding.{steps_closed, steps_open}
use Rattle.notes.proofs.feed.feed_byte.Goals as goal

pub returns-then-closes : goal.returns-then-closes
returns-then-closes c =
    steps_closed (sym c.closes.ensures ∙ c.if-closes.true) c.reader_on-reader.ensures c.start.ensures c.note_at.ensures

pub returns : goal.returns
returns c =
    steps_open (sym c.closes.ensures ∙ c.if-closes.false) c.reader_on-reader.ensures c.even_after.ensures
