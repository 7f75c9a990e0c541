-- `trace_step::line_text` meets its contract: the call is made on what the line leaves it, and the rest of the arrays stays.
use mathlib.Core.Path.{◌≡◌}
use native.Mathlib.Omega.{arith}
use lib.ListN.{length}
use lib.Seq.{take_at}
use borrow.Author.Rules.{rules}
use Rattle.trace_step.specs.Room.{held_in}
use Rattle.trace_step.proofs.Printed.{line_answered}
use Rattle.trace_step.proofs.line_text.Goals as goal

pub returns : goal.returns
returns c =
    let a = c.args in
    let head = c.put_head-at.ensures in
    let tail = c.put_tail-end.ensures in
    let called = c.call-reply in
    let n = c.altered-n.result in
    let m = c.altered-m.result in
    let held = c.altered-n.ensures.held in
    let held_bytes = c.altered-m.ensures.held in
    let long : length called.new.list ≡ n = search rules in
    let long-bytes : length called.new.bytes ≡ m = search rules in
    line_answered a.kind a.line.now (held_in a.words.now a.bytes.now a.last.now a.sizes) c.altered-n.ensures
    c.altered-m.ensures c.last_after.ensures called.ensures
    (record { room = search rules; within = held.within }) (take_at called.new.list _ n long)
    (record { room = search rules; within = held_bytes.within }) (take_at called.new.bytes _ m long-bytes)
    c.kind_tells.ensures head.0 tail.0 (omega (arith, tail.1, head.1, c.requires.1))
