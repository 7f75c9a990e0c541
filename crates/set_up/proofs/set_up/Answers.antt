-- `set_up::set_up` meets its contract: what the checked constructor answers and the length decide the way out, and each has the outcome
-- of the definition; the words drawn are the picture of a fresh list.
use native.Mathlib.Omega.{arith}
use Rattle.set_up.proofs.Call.{limits, out_of_range_meets, wrong_length_meets, fresh_meets}
use Rattle.set_up.proofs.set_up.Goals as goal

pub returns-in_default : goal.returns-in_default
returns-in_default c =
    let a = c.args in
    let n = c.new-checked in
    out_of_range_meets a.d a.k a.c n.result n.ensures a.list.now c.refused.result c.in_default.is
    c.refused.ensures

pub length-requires : goal.length-requires
length-requires c =
    let a = c.args in
    let n = c.new-checked in
    limits a.d a.k a.c n.result n.ensures c.in-Some.is

pub returns-then-list-length : goal.returns-then-list-length
returns-then-list-length c =
    let a = c.args in
    let n = c.new-checked in
    wrong_length_meets a.d a.k a.c n.result n.ensures a.list.now c.refused-then-list-length.result c.in-Some.is (λ e. omega arith)
    c.refused-then-list-length.ensures

pub returns : goal.returns
returns c =
    let a = c.args in
    let n = c.new-checked in
    let w = c.draw in
    fresh_meets a.d a.k a.c n.result n.ensures a.list.now c.accepted.result w.new.list c.in-Some.is (omega arith)
    c.accepted.ensures w.ensures
