-- `insert::position_key` meets its contract: the key word of the position's cell is its key.
use mathlib.Core.Path.{◌∙◌, ap}
use native.Mathlib.Omega.{arith}
use Rattle.meaning.specs.Words.{key_at}
use Rattle.words.proofs.Shaped.{field_within}
use Rattle.words.proofs.Listed.{listed_shaped}
use Rattle.insert.proofs.Position.{position_cell}
use Rattle.insert.proofs.position_key.Goals as goal

pub position-requires : goal.position-requires
position-requires c = listed_shaped c.requires

pub word-requires : goal.word-requires
word-requires c =
    let list = c.requires in
    (listed_shaped list, field_within (rw c.position.ensures (position_cell list).0) (omega arith))

pub returns : goal.returns
returns c =
    c.word.ensures ∙ ap (key_at c.args.list.now) c.position.ensures ∙ (position_cell c.requires).1
