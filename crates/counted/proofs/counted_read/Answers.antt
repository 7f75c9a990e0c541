-- `counted_read` meets its contract: a record of another length is refused by 11, 2 or 15, and beside what is read the record is its full reading.
use native.Mathlib.Omega.{arith}
use borrow.Author.Rules.{rules}
use Rattle.words.proofs.Listed.{listed_shaped}
use Rattle.counted.proofs.Anew.{no_read, read_refused, read_listed, read_done}
use Rattle.counted.proofs.counted_read.Goals as goal

pub returns-then-classes-ne-RECORD_WORDS : goal.returns-then-classes-ne-RECORD_WORDS
returns-then-classes-ne-RECORD_WORDS c =
    let a = c.args in
    no_read a.list.now a.file.now a.classes.now (search rules) c.no_read.ensures

pub returns-then-answer-ne0 : goal.returns-then-answer-ne0
returns-then-answer-ne0 c =
    let a = c.args in
    read_refused a.list.now a.file.now a.classes.now c.read_file-answer.ensures (search rules)

pub settings_at-requires : goal.settings_at-requires
settings_at-requires c =
    let a = c.args in
    let shaped = listed_shaped (read_listed a.list.now a.file.now a.classes.now c.read_file-answer.ensures (search rules)) in
    omega (arith, shaped.long)

pub tally-requires : goal.tally-requires
tally-requires c =
    let a = c.args in
    let listed = read_listed a.list.now a.file.now a.classes.now c.read_file-answer.ensures (search rules) in
    (rw c.settings_at.ensures listed, search rules)

pub returns : goal.returns
returns c =
    let a = c.args in
    read_done a.list.now a.file.now a.classes.now c.read_file-answer.ensures (search rules) (search rules) c.tally.ensures
