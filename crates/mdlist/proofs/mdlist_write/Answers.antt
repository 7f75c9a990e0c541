-- `mdlist_write` meets its contract: what is no list is refused, and a list is handed to `write_file` with its settings.
use Rattle.calls.specs.Saved.{file_lent}
use Rattle.calls.proofs.Restarted.Saved.{write_outcome_not_a_list}
use Rattle.mdlist.proofs.Exported.{refused_meets}
use Rattle.mdlist.proofs.mdlist_write.Goals as goal

pub returns-in_default : goal.returns-in_default
returns-in_default c =
    let a = c.args in
    let check = c.is_list in
    refused_meets
    (write_outcome_not_a_list (file_lent a.list.now a.file.now) (check.ensures.none c.in_default.is))
    c.refused.ensures

pub write_file-requires : goal.write_file-requires
write_file-requires c =
    let check = c.is_list in
    check.ensures.listed c.in-Some.levels c.in-Some.is
