-- `lists::all_zero` meets its contract: the bits are those of the first i words and of the last eight, and in the end of all.
use native.Mathlib.Omega.{arith}
use borrow.Author.Rules.{rules}
use Rattle.lists.proofs.AllZero.{zero_join, zero_or, or_left, zero_decides}
use Rattle.lists.proofs.all_zero.Goals as goal
use Rattle.lists.proofs.all_zero.Goals.{else-loop-i-test, then-loop-i-test+else-i-end-i-gt8}
use Rattle.std.proofs.Common.{◌+◌}

pub returns-then-n-lt4 : goal.returns-then-n-lt4
returns-then-n-lt4 c = zero_decides _ c.few.ensures

pub returns-then-n-lt8 : goal.returns-then-n-lt8
returns-then-n-lt8 c = zero_decides _ (zero_or _ c.four.ensures c.four-then-n-lt8.ensures (omega arith) (omega arith))

pub loop-i-preserved : goal.loop-i-preserved
loop-i-preserved c =
    let v = c.loop-i in
    let read = c.eight-bits-in-loop-i.ensures in
    (search rules, (zero_or _ v.invariant.1.0 read (omega arith) (omega arith), or_left _ v.invariant.1.1 read))

pub returns : goal.returns
returns c =
    let v = c.loop-i in
    elim c.loop-i-test.branch [
      | else-loop-i-test w ↦ rw w.bits-is (zero_decides _ (zero_join _ v.invariant.1.0 v.invariant.1.1 (omega arith) (omega arith)))
      | then-loop-i-test+else-i-end-i-gt8 w ↦
          let read = w.eight-bits-in-loop-i.ensures in
          let first = zero_or _ {l = v.i + 8} v.invariant.1.0 read (omega arith) (omega arith) in
          rw w.bits-is (zero_decides _ (zero_join _ first (or_left _ v.invariant.1.1 read) (omega arith) (omega arith)))
    ]
