-- `counted::renew` meets its contract, by the call's refusal.
use borrow.Author.Rules.{rules}
use Rattle.counted.proofs.Checks.{record_kept, record_anew}
use Rattle.counted.proofs.renew.Goals as goal

pub returns-then-a-ne0 : goal.returns-then-a-ne0
returns-then-a-ne0 c =
    let a = c.args in record_kept a.list.now a.classes.now (search rules)

pub returns : goal.returns
returns c =
    let a = c.args in record_anew a.list.now a.classes.now (search rules) c.tally.ensures
