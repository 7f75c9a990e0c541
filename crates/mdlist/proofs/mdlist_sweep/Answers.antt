-- `mdlist_sweep` meets its contract: what is no list is refused, and a list is handed to `sweep` with its settings and powers.
use Rattle.meaning.proofs.Outcomes.{sweep_outcome_not_a_list}
use Rattle.mdlist.proofs.Exported.{refused_meets}
use Rattle.mdlist.proofs.mdlist_sweep.Goals as goal

pub returns-in_default : goal.returns-in_default
returns-in_default c =
    let a = c.args in
    let check = c.is_list in
    refused_meets (sweep_outcome_not_a_list a.list.now (check.ensures.none c.in_default.is)) c.refused.ensures

pub sweep-requires : goal.sweep-requires
sweep-requires c =
    let check = c.is_list in
    let listed = check.ensures.listed c.in-Some.levels c.in-Some.is in
    listed
