-- `counted_step::put_line` meets its contract: what is put is one run of bytes.
use native.Mathlib.Omega.{arith}
use Rattle.report.proofs.Puts.{put_more, put_start}
use Rattle.counted_step.specs.Printed.{text_of}
use Rattle.counted_step.proofs.put_line.Goals as goal

pub returns : goal.returns
unfolding text_of
returns c =
    let head = c.put_head-at.ensures in
    let tail = c.put_tail-next.ensures in
    let end = c.put_checksum.ensures in
    put_start (put_more head.0 (put_more tail.0 end.0)) (omega (arith, c.requires, head.1, tail.1, end.1))
