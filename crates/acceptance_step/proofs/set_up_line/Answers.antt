-- `acceptance_step::set_up_line` meets its contract: a list that is longer than what is held is not readable.
use mathlib.Core.Path.{sym, ◌∙◌, subst}
use mathlib.Core.Bool.{false≢true}
use Prim.Native.Nat.{◌≤◌}
use native.Mathlib.Omega.{arith}
use Rattle.settings.specs.Numbers.{length_of}
use Rattle.settings.proofs.Ranges.{checked_out, checked_in}
use Rattle.trace.specs.Lines.{most_words}
use Rattle.acceptance_step.proofs.Lines.{accepted_limits}
use Rattle.acceptance_step.proofs.set_up_line.Goals as goal

pub returns-in_default : goal.returns-in_default
returns-in_default c =
    let a = c.args in
    λ e. absurd (false≢true (sym (checked_out a.d a.k a.c c.new.ensures c.in_default.is) ∙ e))

pub length-requires : goal.length-requires
length-requires c =
    let a = c.args in
    let limits = accepted_limits a.d a.k a.c c.new.ensures c.in-Some.is in
    (limits.0, limits.1.0)

pub returns : goal.returns
returns c =
    let a = c.args in
    let is = (checked_in a.d a.k a.c c.new.ensures c.in-Some.is).1 in
    λ e. subst (λ t. length_of t.dimensions t.cells ≤ most_words) is (omega (arith, c.if-length-gt-MOST_WORDS.false, c.length.ensures))
