-- `is_list::standing::read` meets its contract and ends: at each turn what is left to do at the cell read last comes to the same verdict as all of it at
-- the head, and each turn reads a cell more.
use mathlib.Core.Path.{refl}
use borrow.Author.Tests.{not-true, not-false}
use Rattle.account.proofs.Loop.{hung_least}
use Rattle.is_list.proofs.InOrder.{reading_starts, reading_wrong, reading_ends, reading_refused, reading_goes}
use Rattle.is_list.proofs.standing.read.Goals as goal

pub loop-seen-init : goal.loop-seen-init
loop-seen-init c = reading_starts c.requires _ _ refl refl

pub go_on-goes-requires : goal.go_on-goes-requires
go_on-goes-requires c =
    let k = c.loop-seen.invariant in
    (c.requires.shaped, (k.within.last, (k.number, (hung_least k.hung, k.pends))))

pub returns-in-Wrong : goal.returns-in-Wrong
returns-in-Wrong c = reading_wrong c.loop-seen.invariant c.go_on-goes.ensures c.in-Wrong.is c.wrong.ensures

pub returns-in-End : goal.returns-in-End
returns-in-End c = reading_ends c.loop-seen.invariant c.go_on-goes.ensures c.in-End.is

pub enter-seen-requires : goal.enter-seen-requires
enter-seen-requires c =
    let pre = c.requires in
    let k = c.loop-seen.invariant in
    (pre.shaped, ((c.go_on-goes.ensures.goes c.in-Goes.w c.in-Goes.is).number, k.within))

pub returns-then-not-seen : goal.returns-then-not-seen
returns-then-not-seen c =
    reading_refused c.loop-seen.invariant c.go_on-goes.ensures c.in-Goes.w c.in-Goes.is c.enter-seen.ensures (not-true c.enter-seen.result.right c.if-not-seen.true)

pub loop-seen-smaller : goal.loop-seen-smaller
loop-seen-smaller c = c.enter-seen.ensures.falls (not-false c.enter-seen.result.right c.if-not-seen.false)

pub loop-seen-preserved : goal.loop-seen-preserved
loop-seen-preserved c =
    reading_goes c.loop-seen.invariant c.go_on-goes.ensures c.in-Goes.w c.in-Goes.is c.enter-seen.ensures (not-false c.enter-seen.result.right c.if-not-seen.false)
