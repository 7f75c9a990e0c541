-- `insert::position_after` meets its contract: at or below the position the search's way leads to the cell of next smaller key; a key above
-- the position leaves it.
use native.Mathlib.Omega.{arith}
use Rattle.words.proofs.Listed.{listed_shaped}
use Rattle.insert.proofs.Position.{position_stays, position_lowers}
use Rattle.insert.proofs.position_after.Goals as goal

pub lower-requires : goal.lower-requires
lower-requires c = record { key = c.args.key; sought = c.requires.0 }

pub returns-then-key-top : goal.returns-then-key-top
returns-then-key-top c =
    let pre = c.requires in
    position_lowers pre.0 pre.1 c.if-key-top.true c.lower.ensures

pub position-requires : goal.position-requires
position-requires c = listed_shaped c.requires.0.list

pub returns : goal.returns
returns c =
    let pre = c.requires in
    position_stays pre.0.list pre.1 (omega arith) c.position.ensures
