-- `sweep::finish_all` meets its contract: what is left to finish from cell n on, in the list as it stands, gives the same words as all of it
-- in the list of the call; each debt finished leaves a list.
use mathlib.Core.Path.{sym, ◌∙◌}
use Rattle.finish.proofs.Debts.{listed_payable}
use Rattle.words.proofs.Listed.{listed_shaped}
use Rattle.sweep.proofs.Sweeping.{finish_more, finish_none}
use Rattle.sweep.proofs.Lists.{finish_listed, all_paid_lem}
use Rattle.sweep.proofs.finish_all.Goals as goal

pub finish_cell-requires : goal.finish_cell-requires
finish_cell-requires c =
    let v = c.loop-n in
    (listed_shaped v.invariant.0, listed_payable v.invariant.0 v.n c.loop-n-test.true)

pub loop-n-preserved : goal.loop-n-preserved
loop-n-preserved c =
    let v = c.loop-n in
    let more = c.loop-n-test.true in
    rw c.finish_cell.ensures.0
    (finish_listed v.invariant.0 v.n more, v.invariant.1 ∙ finish_more c.args.s.dimensions v.list v.n more)

pub returns : goal.returns
returns c =
    let v = c.loop-n in
    let e = sym (v.invariant.1 ∙ finish_none c.args.s.dimensions v.list v.n c.loop-n-test.false) in
    (e, all_paid_lem c.requires e)
