-- `write_file::write_file` meets its contract: with room for the bytes of the pairs counted, those before the pairs are written, then the
-- pairs.
use native.Mathlib.Omega.{arith}
use Rattle.files.specs.Files.{tag_for}
use Rattle.files.proofs.Tags.{width_most}
use Rattle.words.proofs.Listed.{listed_shaped}
use Rattle.write_file.proofs.Whole.{write_refused, write_accepted}
use Rattle.write_file.proofs.write_file.Goals as goal

pub returns-then-file-length : goal.returns-then-file-length
returns-then-file-length c =
    write_refused c.requires c.args.file.now c.count_live-n.ensures.0 (omega (arith, c.if-file-length.true, c.file_length-length.ensures))
    c.refused.ensures

pub write_front-requires : goal.write_front-requires
write_front-requires c = (
  omega (arith, c.count_live-n.ensures.1, (listed_shaped c.requires).cells_most),
  omega (arith, c.if-file-length.false, c.file_length-length.ensures),
)

pub overflow_cast-length : goal.overflow_cast-length
overflow_cast-length c =
    omega (
      arith,
      c.file_length-length.ensures,
      width_most (tag_for c.count_live-n.result),
      c.count_live-n.ensures.1,
      (listed_shaped c.requires).cells_most,
    )

pub returns : goal.returns
returns c =
    write_accepted c.requires c.args.file.now c.count_live-n.ensures.0 (omega (arith, c.if-file-length.false, c.file_length-length.ensures))
    c.write_front.ensures c.write_pairs.ensures c.file_length-length.ensures c.accepted.ensures
