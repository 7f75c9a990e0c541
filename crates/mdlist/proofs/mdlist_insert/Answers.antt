-- `mdlist_insert` meets its contract: what is no list is refused, and a list is handed to `insert` with its settings and powers.
use Rattle.meaning.proofs.Outcomes.{insert_outcome_not_a_list}
use Rattle.mdlist.proofs.Exported.{refused_meets}
use Rattle.mdlist.proofs.mdlist_insert.Goals as goal

pub returns-in_default : goal.returns-in_default
returns-in_default c =
    let a = c.args in
    let check = c.is_list in
    refused_meets (insert_outcome_not_a_list a.list.now a.key a.value (check.ensures.none c.in_default.is)) c.refused.ensures

pub insert-requires : goal.insert-requires
insert-requires c =
    let check = c.is_list in
    let listed = check.ensures.listed c.in-Some.levels c.in-Some.is in
    listed
