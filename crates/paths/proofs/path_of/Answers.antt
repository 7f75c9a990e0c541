-- `paths::path_of` meets its contract: the head's path is all 0, and the walk for the key of another standing cell builds that cell's.
use native.Mathlib.Omega.{arith}
use Rattle.words.proofs.Shaped.{field_within}
use Rattle.paths.proofs.Listed.{stands_walkable, stands_below, stands_fits, stands_ends, cell_path_head, cell_path_other}
use Rattle.paths.proofs.path_of.Goals as goal

pub returns-then-x-eq0 : goal.returns-then-x-eq0
returns-then-x-eq0 c = cell_path_head c.args.list.now c.if-x-eq0.true c.head_path.ensures.1 c.head_path.ensures.0

pub word-k-requires : goal.word-k-requires
word-k-requires c =
    let h = c.requires.in_it in
    ((stands_walkable h).shaped, field_within (stands_below h) (omega arith))

pub path_along-requires : goal.path_along-requires
path_along-requires c =
    let h = c.requires.in_it in
    let key = c.word-k.ensures in
    let other = c.if-x-eq0.false in
    (stands_walkable h, (record { fits = stands_fits h other key; blocks = c.block_starts-starts.ensures; sizes = c.args.levels.now.right }, stands_ends h other key))

pub returns : goal.returns
returns c = cell_path_other c.args.list.now c.if-x-eq0.false c.word-k.ensures c.path_along.ensures.1 c.path_along.ensures.0
