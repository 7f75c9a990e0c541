-- `row_step::put_line` meets its contract: what is put is one run of bytes.
use native.Mathlib.Omega.{arith}
use Rattle.report.proofs.Puts.{put_more, put_start}
use Rattle.row_step.specs.Lines.{row_text}
use Rattle.row_step.proofs.put_line.Goals as goal

pub returns : goal.returns
unfolding row_text
returns c =
    let head = c.put_head-at.ensures in
    let end = c.put_checksum.ensures in
    put_start (put_more head.0 end.0) (omega (arith, c.requires, head.1, end.1))
