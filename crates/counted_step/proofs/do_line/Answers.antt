-- `counted_step::do_line` meets its contract: the call is made on what the line leaves it, and the rest of the arrays stays.
use mathlib.Core.Path.{◌≡◌}
use lib.ListN.{length}
use lib.Seq.{take_at}
use borrow.Author.Rules.{rules}
use Rattle.counted_step.specs.Printed.{held_in}
use Rattle.counted_step.proofs.Printed.{line_done}
use Rattle.counted_step.proofs.do_line.Goals as goal

pub returns : goal.returns
returns c =
    let a = c.args in
    let called = c.line_call-reply in
    let words = c.altered-n in
    let bytes = c.altered-m in
    let classes = c.classes_altered-h in
    let kind = c.kind_in-kind.ensures.0 in
    let long : length called.new.list ≡ words.result = search rules in
    let long-classes : length called.new.classes ≡ classes.result = search rules in
    let long-bytes : length called.new.bytes ≡ bytes.result = search rules in
    line_done a.line a.text.now (held_in a.words.now a.bytes.now a.last.now a.classes.now a.sizes)
    (rw (← kind) words.ensures) (rw (← kind) bytes.ensures) classes.ensures (rw (← kind) c.last_after.ensures) called.ensures
    (record { room = search rules; within = words.ensures.held.within }) (take_at called.new.list _ words.result long)
    (record { room = search rules; within = bytes.ensures.held.within }) (take_at called.new.bytes _ bytes.result long-bytes)
    (record { room = search rules; within = classes.ensures.held.within }) (take_at called.new.classes _ classes.result long-classes)
