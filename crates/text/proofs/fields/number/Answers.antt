-- `text::fields::number` meets its contract: reading the field from its start is reading what is left of it after the digits so far.
use mathlib.Core.Path.{sym, ◌∙◌, ap}
use Prim.Native.Nat.{◌+◌}
use lib.ListN.{drop}
use borrow.Author.Rules.{rules}
use Rattle.text.specs.Answers.{digit_on, digits_on, ended_at}
use Rattle.text.proofs.Parts.{after_more, after_none}
use Rattle.text.proofs.Numerals.{number_by_digits}
use Rattle.text.proofs.fields.number.Goals as goal

pub loop-byte-preserved : goal.loop-byte-preserved
loop-byte-preserved c =
    let v = c.loop-byte in
    let a = c.args in
    let more = after_more (digit_on a.most) v.begun a.field.now v.byte-index (search rules) in
    v.invariant ∙ (more ∙ ap (λ begun. digits_on a.most begun (drop (v.byte-index + 1) a.field.now)) (sym c.digit-begun.ensures))

pub returns : goal.returns
returns c =
    let v = c.loop-byte in
    let a = c.args in
    let all = after_none (digit_on a.most) v.begun a.field.now v.byte-index (search rules) in
    c.ended_at.ensures ∙ (ap (ended_at a.least) (sym (v.invariant ∙ all)) ∙ number_by_digits a.least a.most a.field.now)
