-- `is_list::free::chain_right` meets its contract: a free cell that is right is one of the list's.
use mathlib.Core.Path.{sym}
use native.Mathlib.Omega.{arith}
use Rattle.words.proofs.Shaped.{shaped_cells, field_within}
use Rattle.account.proofs.AcceptedTests.{free_right_lem}
use Rattle.is_list.proofs.free.chain_right.Goals as goal

pub word-c-requires : goal.word-c-requires
word-c-requires c =
    let free = free_right_lem c.args.list.now c.loop.c (sym c.if-not-free_right.ensures) in
    (c.requires, field_within (omega (arith, shaped_cells c.requires)) (omega arith))
