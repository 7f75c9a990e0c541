-- `counted::no_read` meets its contract: what the bytes are read as, and the words' length.
use mathlib.Core.Path.{sym, ◌∙◌}
use borrow.Author.Rules.{rules}
use Rattle.read_file.proofs.Reading.{told, told_limits}
use Rattle.counted.proofs.Anew.{no_file_answer, other_words_answer, other_record_answer}
use Rattle.counted.proofs.no_read.Goals as goal

pub returns-in_default : goal.returns-in_default
returns-in_default c =
    let a = c.args in no_file_answer a.list.now a.file.now (sym c.read_contents-contents.ensures ∙ c.in_default.is) c.refused.ensures

pub length-requires : goal.length-requires
length-requires c =
    let limits = told_limits (told (sym c.read_contents-contents.ensures ∙ c.in-Some.is)) in
    (limits.0, limits.1.0)

pub returns-then-list-length : goal.returns-then-list-length
returns-then-list-length c =
    let a = c.args in
    other_words_answer a.list.now a.file.now (sym c.read_contents-contents.ensures ∙ c.in-Some.is) (search rules) c.refused-then-list-length.ensures

pub returns : goal.returns
returns c =
    let a = c.args in
    other_record_answer a.list.now a.file.now (sym c.read_contents-contents.ensures ∙ c.in-Some.is) (search rules) c.refused-2.ensures
