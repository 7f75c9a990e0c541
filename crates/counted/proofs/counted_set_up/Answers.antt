-- `counted_set_up` meets its contract: a record of another length is refused by 1 or 2, and beside a fresh list the record is 0.
use borrow.Author.Rules.{rules}
use Rattle.counted.proofs.Anew.{no_set_up, set_up_refused, set_up_done}
use Rattle.counted.proofs.counted_set_up.Goals as goal

pub returns-then-classes-ne-RECORD_WORDS : goal.returns-then-classes-ne-RECORD_WORDS
returns-then-classes-ne-RECORD_WORDS c =
    let a = c.args in
    no_set_up a.d a.k a.c a.list.now a.classes.now (search rules) c.no_set_up.ensures

pub returns-then-fresh-ne0 : goal.returns-then-fresh-ne0
returns-then-fresh-ne0 c =
    let a = c.args in
    set_up_refused a.d a.k a.c a.list.now a.classes.now c.set_up-fresh.ensures (search rules)

pub returns : goal.returns
returns c =
    let a = c.args in
    set_up_done a.d a.k a.c a.list.now a.classes.now c.set_up-fresh.ensures (search rules) (search rules) c.fill.ensures
