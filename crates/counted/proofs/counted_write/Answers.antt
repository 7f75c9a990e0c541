-- `counted_write` meets its contract: what is refused by 3 or 15, and what `write_file` does; the record stays.
use Rattle.counted.proofs.Kept.{write_refused, write_kept}
use Rattle.counted.proofs.counted_write.Goals as goal

pub returns-in-Err : goal.returns-in-Err
returns-in-Err c =
    let a = c.args in
    write_refused a.list.now a.file.now 0 a.classes.now (c.check.ensures.refused c.in-Err.refusal c.in-Err.is) c.refused.ensures

pub write_file-requires : goal.write_file-requires
write_file-requires c =
    let agreeing = c.check.ensures.agreeing c.in-Ok.levels c.in-Ok.is in
    agreeing.listed

pub returns : goal.returns
returns c =
    let a = c.args in
    let agreeing = c.check.ensures.agreeing c.in-Ok.levels c.in-Ok.is in
    write_kept a.list.now a.file.now 0 a.classes.now agreeing c.write_file.ensures
