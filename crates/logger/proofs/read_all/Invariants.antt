-- `logger::read_all` meets its contract and ends: the list stays a list, and the feed holds what is begun.
use Rattle.text.specs.Parts.{Known}
use Rattle.notes.specs.Feeding.{Holds}
use Rattle.meaning.specs.Layer.Listed.{Listed}
use Rattle.logger.proofs.read_all.Given as goal

abbrev pub invariant-loop : goal.invariant-loop
invariant-loop l = Listed l.words l.settings × Known (Holds l.feed)
