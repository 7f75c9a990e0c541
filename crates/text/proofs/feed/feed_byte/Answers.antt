-- `text::feed::feed_byte` meets its contract, by cases: the byte is a line feed; the line is over already; or the byte is kept.
use Rattle.text.proofs.Steps.{ended_step, over_step, kept_step}
use Rattle.text.proofs.feed.feed_byte.Goals as goal

pub returns-then-byte-eq-LINE_FEED : goal.returns-then-byte-eq-LINE_FEED
returns-then-byte-eq-LINE_FEED c =
    rw (c.start.ensures, c.ended.ensures)
    (ended_step c.requires c.if-byte-eq-LINE_FEED.true)

pub returns-then-feed : goal.returns-then-feed
returns-then-feed c = over_step c.requires c.if-byte-eq-LINE_FEED.false c.if-feed.true

pub returns : goal.returns
returns c =
    kept_step
    c.requires
    c.if-byte-eq-LINE_FEED.false
    c.if-feed.false
    c.kept.ensures
