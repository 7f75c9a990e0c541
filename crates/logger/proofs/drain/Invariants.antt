-- `logger::drain` meets its contract and ends: the list stays a list.
use Rattle.meaning.specs.Layer.Listed.{Listed}
use Rattle.logger.proofs.drain.Given as goal

abbrev pub invariant-loop : goal.invariant-loop
invariant-loop l = Listed l.words l.settings
