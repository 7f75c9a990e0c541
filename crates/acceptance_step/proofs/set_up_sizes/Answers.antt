-- `acceptance_step::set_up_sizes` meets its contract: settings in range have the lengths of their list and of their row.
use mathlib.Core.Path.{refl, ap, ◌∙◌}
use Rattle.settings.specs.Numbers.{length_of}
use Rattle.settings.specs.declared.Settings.{Settings}
use Rattle.settings.proofs.Ranges.{checked_out, checked_in}
use Rattle.row.specs.Row.{row_length}
use Rattle.acceptance_step.proofs.Lines.{accepted_limits}
use Rattle.acceptance_step.proofs.set_up_sizes.Goals as goal

pub returns-in_default : goal.returns-in_default
returns-in_default c =
    let a = c.args in
    rw (checked_out a.d a.k a.c c.new.ensures c.in_default.is) (refl, refl)

pub length-requires : goal.length-requires
length-requires c =
    let a = c.args in
    let limits = accepted_limits a.d a.k a.c c.new.ensures c.in-Some.is in
    (limits.0, limits.1.0)

pub row_length-requires : goal.row_length-requires
row_length-requires c =
    let a = c.args in
    (accepted_limits a.d a.k a.c c.new.ensures c.in-Some.is).1.1

pub returns : goal.returns
returns c =
    let a = c.args in
    let (range, is) = checked_in a.d a.k a.c c.new.ensures c.in-Some.is in
    rw range (
      c.length.ensures ∙ ap (λ (t : Settings). length_of t.dimensions t.cells) is,
      c.row_length.ensures ∙ ap (λ (t : Settings). row_length t.cells) is,
    )
