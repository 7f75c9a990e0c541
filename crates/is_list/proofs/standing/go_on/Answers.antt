-- `is_list::standing::go_on` meets its contract: its links and its debt decide what comes after a cell; where it owes nothing, its links are put and the
-- last of those pending is taken off.
use mathlib.Core.Path.{refl}
use native.Mathlib.Omega.{arith}
use Rattle.cell_tests.proofs.Tests.{holds, lacks}
use Rattle.is_list.specs.Standing.{pending_of}
use Rattle.is_list.proofs.InOrder.{next_links, next_owing, next_ends, next_goes}
use Rattle.is_list.proofs.standing.go_on.Goals as goal

pub links_none-requires : goal.links_none-requires
links_none-requires c = let pre = c.requires in (pre.0, (pre.1.0, omega arith))

pub returns-then-not-links_none : goal.returns-then-not-links_none
returns-then-not-links_none c =
    let a = c.args in
    next_links c.requires.0 a.x a.e a.from c.requires.1.1.0 (pending_of a.cells.now a.numbers.now a.count) a.cells.now a.numbers.now
    (lacks c.links_none.ensures c.if-not-links_none.true-raw)

pub returns-then-not-owes_nothing : goal.returns-then-not-owes_nothing
returns-then-not-owes_nothing c =
    let a = c.args in
    next_owing c.requires.0 a.x a.e a.from c.requires.1.1.0 (pending_of a.cells.now a.numbers.now a.count) a.cells.now a.numbers.now
    (holds c.links_none.ensures c.if-not-links_none.false-raw) refl c.requires.1.1.1.1 (lacks c.owes_nothing.ensures c.if-not-owes_nothing.true-raw) c.owing.ensures

pub put_links-n-requires : goal.put_links-n-requires
put_links-n-requires c = let pre = c.requires in (pre.0, (pre.1.0, (omega arith, pre.1.1.1.1)))

pub returns-then-n-eq0 : goal.returns-then-n-eq0
returns-then-n-eq0 c =
    let a = c.args in
    let l = c.put_links-n in
    next_ends c.requires.0 a.x a.e a.from c.requires.1.1.0 (pending_of a.cells.now a.numbers.now a.count) l.new.cells
    l.new.numbers (holds c.links_none.ensures c.if-not-links_none.false-raw) (holds c.owes_nothing.ensures c.if-not-owes_nothing.false-raw) l.ensures.0
    l.ensures.1 c.if-n-eq0.true

pub bounds-numbers-top : goal.bounds-numbers-top
bounds-numbers-top c =
    let l = c.put_links-n.ensures.1 in
    omega (arith, l.few, l.numbers_long, c.requires.0.dimensions_most)

pub bounds-cells-top : goal.bounds-cells-top
bounds-cells-top c =
    let l = c.put_links-n.ensures.1 in
    omega (arith, l.few, l.cells_long, c.requires.0.dimensions_most)

pub returns : goal.returns
returns c =
    let a = c.args in
    let l = c.put_links-n in
    next_goes c.requires.0 a.x a.e a.from c.requires.1.1.0 (pending_of a.cells.now a.numbers.now a.count) l.new.cells
    l.new.numbers (holds c.links_none.ensures c.if-not-links_none.false-raw) (holds c.owes_nothing.ensures c.if-not-owes_nothing.false-raw) l.ensures.0
    l.ensures.1 (omega arith)
