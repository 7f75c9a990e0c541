-- `paths::write_path` meets its contract: the part written is the words of path.
use mathlib.Core.Path.{ap, ◌∙◌}
use native.Mathlib.Omega.{arith}
use lib.ListN.{take}
use Rattle.paths.proofs.Paths.{path_written}
use Rattle.paths.proofs.write_path.Goals as goal

pub returns : goal.returns
returns c =
    path_written c.args.path c.requires.0 c.requires.1 (omega arith) (c.copy_from_slice.ensures.after ∙ ap (λ n. take n c.args.path.cells) (omega (arith, c.requires.1)))
