-- `free_between::take_links` meets its contract: what is left to take from link d on, in the list as it stands, gives the same words as all of it in
-- the list of the call.
use mathlib.Core.Path.{sym, ◌∙◌}
use native.Mathlib.Omega.{arith}
use Rattle.paths.specs.Paths.{path_of}
use Rattle.paths.proofs.Paths.{cell_is, cell_below}
use Rattle.free_between.proofs.Between.{take_more, take_all}
use Rattle.free_between.proofs.take_links.Goals as goal

pub link-y-requires : goal.link-y-requires
link-y-requires c = (c.loop-d.invariant.0, (cell_below c.requires.1.1.1 (omega arith), omega arith))

pub loop-d-preserved : goal.loop-d-preserved
loop-d-preserved c =
    let v = c.loop-d in
    let t = c.args.t in
    let e = c.store_link.ensures in
    let from = cell_is c.requires.1.1.1 (omega arith) in
    (e.1, v.invariant.1 ∙ rw e.0 (take_more v.invariant.0 t.cell (path_of t.path) v.d c.loop-d-test.true from c.link-y.ensures))

pub returns : goal.returns
returns c =
    let v = c.loop-d in
    let a = c.args in
    (sym (v.invariant.1 ∙ take_all a.s.dimensions v.list a.t.cell (path_of a.t.path) v.d (omega arith)), v.invariant.0)
