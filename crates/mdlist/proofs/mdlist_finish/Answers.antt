-- `mdlist_finish` meets its contract: what is no list is refused, and a list is handed to `finish` with its settings and powers.
use Rattle.meaning.proofs.Outcomes.{finish_outcome_not_a_list}
use Rattle.mdlist.proofs.Exported.{refused_meets}
use Rattle.mdlist.proofs.mdlist_finish.Goals as goal

pub returns-in_default : goal.returns-in_default
returns-in_default c =
    let a = c.args in
    let check = c.is_list in
    refused_meets (finish_outcome_not_a_list a.list.now a.key (check.ensures.none c.in_default.is)) c.refused.ensures

pub finish-requires : goal.finish-requires
finish-requires c =
    let check = c.is_list in
    let listed = check.ensures.listed c.in-Some.levels c.in-Some.is in
    listed
