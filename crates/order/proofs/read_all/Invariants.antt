-- `order::read_all` is safe and ends: the list stays a list, and what is begun stands in the feed.
use Rattle.text.specs.Parts.{Known}
use Rattle.text.specs.Feeding.{Holds}
use Rattle.meaning.specs.Layer.Listed.{Listed}
use Rattle.order.proofs.read_all.Given as goal

abbrev pub invariant-loop : goal.invariant-loop
invariant-loop l = Listed l.words l.settings × Known (Holds l.line l.feed)
