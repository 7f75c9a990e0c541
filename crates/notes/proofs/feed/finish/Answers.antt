-- `notes::feed::finish` meets its contract, by whether the record begun has any byte.
use Rattle.notes.proofs.Feeding.{begun_ends, none_ends}
use Rattle.notes.proofs.feed.finish.Goals as goal

pub returns-then-feed : goal.returns-then-feed
returns-then-feed c = begun_ends c.if-feed.true c.note_at.ensures

pub returns-else-feed : goal.returns-else-feed
returns-else-feed c = none_ends c.if-feed.false
