-- `words::link_read` meets its contract: the three tests are those of the definition, and each way out reads the link from the cell that
-- the definition names.
use mathlib.Core.Path.{sym, ap, ◌∙◌}
use native.Mathlib.Omega.{arith}
use Rattle.meaning.specs.Words.{link_at}
use Rattle.meaning.proofs.Cells.WalkRead.{read_unowing, read_below, read_above, read_through}
use Rattle.words.proofs.link_read.Goals as goal

pub returns-then-owed-eq0 : goal.returns-then-owed-eq0
returns-then-owed-eq0 c =
    let a = c.args in
    c.link.ensures ∙ sym (read_unowing a.list.now a.x a.d (omega (arith, c.word-owed.ensures)))

pub returns-then-d-word : goal.returns-then-d-word
returns-then-d-word c =
    let a = c.args in
    c.link-then-d-word.ensures ∙ sym (read_below a.list.now a.x a.d (omega (arith, c.word.ensures)))

pub returns-then-word-d : goal.returns-then-word-d
returns-then-word-d c =
    let a = c.args in
    c.link-then-word-d.ensures ∙ sym (read_above a.list.now a.x a.d (omega (arith, c.word-2.ensures)))

pub link-requires-2 : goal.link-requires-2
link-requires-2 c =
    let p = c.requires in
    (p.0, (omega (arith, c.word-owed.ensures), p.1.1.0))

pub returns : goal.returns
returns c =
    let a = c.args in
    let owed = c.word-owed.ensures in
    c.link-2.ensures
    ∙ ap (λ y. link_at a.list.now y a.d) owed
    ∙ sym
    (read_through a.list.now a.x a.d (omega (arith, owed, c.if-owed-eq0.false))
    (omega (arith, c.word.ensures))
    (omega (arith, c.word-2.ensures)))
