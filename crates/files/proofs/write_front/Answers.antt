-- `files::write_front` meets its contract: the table, the settings and the number of the pairs are one run.
use mathlib.Core.Path.{refl, ◌∙◌}
use native.Mathlib.Omega.{arith}
use Rattle.files.specs.Files.{tag_for, count_width}
use Rattle.files.proofs.Parts.{part_written}
use Rattle.files.proofs.Written.{front_written}
use Rattle.files.proofs.write_front.Goals as goal

pub returns : goal.returns
returns c =
    let n = c.args.n in
    let table = c.put_table in
    let settings = c.put_settings in
    part_written settings.new.file 31 (count_width (tag_for n)) n refl c.before-2.ensures.0
    (omega (arith, c.requires.1, table.auto.file, settings.auto.file)) c.put_number.ensures
    ∙ rw (settings.ensures, table.ensures) (front_written c.args.file.now c.args.s n)
