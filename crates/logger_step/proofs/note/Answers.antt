-- `logger_step::note` meets its contract: the powers are those of the list's base.
use borrow.Author.Rules.{rules}
use Rattle.words.proofs.Listed.{listed_shaped, listed_base, listed_power}
use Rattle.logger_step.proofs.note.Goals as goal

pub of-levels-requires : goal.of-levels-requires
of-levels-requires c = let h = c.requires.0 in ((listed_shaped h).dimensions_most, (listed_base h, listed_power h))

pub insert_record-requires : goal.insert_record-requires
insert_record-requires c = search rules
