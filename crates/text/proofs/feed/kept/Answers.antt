-- `text::feed::kept` meets its contract: a byte more is a line of 64 bytes at most where there is room, and one too long where there is none.
use borrow.Author.Rules.{rules}
use Rattle.text.proofs.Steps.{kept_room, kept_over}
use Rattle.text.proofs.feed.kept.Goals as goal

pub returns-then-fill-lt-MOST_BYTES : goal.returns-then-fill-lt-MOST_BYTES
returns-then-fill-lt-MOST_BYTES c = let a = c.args in kept_room a.buffer.now c.requires.0 a.fill a.byte (search rules)

pub returns : goal.returns
returns c = let a = c.args in kept_over a.buffer.now c.requires.0 a.fill a.byte (search rules)
