-- `acceptance_step::do_line` meets its contract: the call is made on what the line leaves it, and the rest of the arrays stays.
use mathlib.Core.Path.{◌≡◌}
use native.Mathlib.Omega.{arith}
use lib.ListN.{length}
use lib.Seq.{take_at}
use borrow.Author.Rules.{rules}
use Rattle.acceptance_step.proofs.Lines.{list_within, row_within, line_done}
use Rattle.acceptance_step.proofs.do_line.Goals as goal

pub resized-n-requires : goal.resized-n-requires
resized-n-requires c =
    let held = c.requires.0.words_held in
    (omega (arith, held.room, held.within), omega (arith, held.room, c.sizes_for-next.ensures.0, list_within c.args.kind c.args.sizes.list c.requires.1 held.within))

pub resized-m-requires : goal.resized-m-requires
resized-m-requires c =
    let held = c.requires.0.keys_held in
    (omega (arith, held.room, held.within), omega (arith, held.room, c.sizes_for-next.ensures.1, row_within c.args.kind c.args.sizes.row c.requires.1 held.within))

pub returns : goal.returns
returns c =
    let called = c.make-answers in
    let words = c.resized-n in
    let keys = c.resized-m in
    let sizes = c.sizes_for-next.ensures in
    let room = c.requires.0 in
    let long : length called.new.list ≡ words.result = search rules in
    let long-keys : length called.new.keys ≡ keys.result = search rules in
    line_done c.args.kind room sizes.0 sizes.1 words.ensures keys.ensures called.ensures
    (record { room = search rules; within = omega (arith, words.ensures.held.within, room.words_held.room) }) (take_at called.new.list _ words.result long)
    (record { room = search rules; within = omega (arith, keys.ensures.held.within, room.keys_held.room) }) (take_at called.new.keys _ keys.result long-keys)
