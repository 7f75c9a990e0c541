-- `classes::add_cell` meets its contract, by the cell's mark.
use native.Mathlib.Omega.{arith}
use Rattle.words.proofs.Shaped.{field_within}
use Rattle.words.proofs.Listed.{listed_shaped}
use Rattle.classes.proofs.add_cell.Goals as goal

pub word-requires : goal.word-requires
word-requires c = (listed_shaped c.requires.0, field_within c.requires.1.0 (omega arith))

pub word-requires-then-word-eq-LIVE : goal.word-requires-then-word-eq-LIVE
word-requires-then-word-eq-LIVE c = (listed_shaped c.requires.0, field_within c.requires.1.0 (omega arith))
