-- `insert::move_position` meets its contract: a key above the position's leaves the path; else the new position's path is written.
use Rattle.insert.proofs.Position.{path_kept, due_standing, path_moved}
use Rattle.insert.proofs.move_position.Goals as goal

pub returns-then-top-key : goal.returns-then-top-key
returns-then-top-key c = path_kept c.if-top-key.true

pub path_of-path-requires : goal.path_of-path-requires
path_of-path-requires c = due_standing c.requires.1

pub returns : goal.returns
returns c = path_moved c.path_of-path.ensures c.write_path.ensures.0
