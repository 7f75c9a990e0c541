-- `report::put` meets its contract: the bytes are copied to a part as long as they are.
use Rattle.report.proofs.Puts.{put_part}
use Rattle.report.proofs.put.Goals as goal

pub returns : goal.returns
returns c = put_part c.args.out.now c.args.at c.args.bytes.now c.copy_from_slice.ensures.after c.requires
