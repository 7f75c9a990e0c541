-- `write_file::count_live` meets its contract: at each turn the live cells before x are counted, and those from x on are still to be.
use native.Mathlib.Omega.{arith}
use Rattle.words.proofs.Shaped.{field_within}
use Rattle.words.proofs.Listed.{listed_shaped, listed_cells}
use Rattle.write_file.proofs.Counting.{counted_start, counted_live, counted_other, counted_all}
use Rattle.write_file.proofs.count_live.Goals as goal
use Rattle.write_file.proofs.count_live.Goals.{then-word-eq-LIVE, else-word-eq-LIVE}

pub loop-x-init : goal.loop-x-init
loop-x-init c = counted_start c.requires

pub word-requires : goal.word-requires
word-requires c = (listed_shaped c.requires, field_within c.loop-x-test.true (omega arith))

pub loop-x-preserved : goal.loop-x-preserved
loop-x-preserved c =
    elim c.if-word-eq-LIVE.branch [
      | then-word-eq-LIVE w ↦ rw w.n-is (counted_live c.loop-x.invariant c.loop-x-test.true c.word.ensures w.if-word-eq-LIVE.true)
      | else-word-eq-LIVE w ↦ rw w.n-is (counted_other c.loop-x.invariant c.loop-x-test.true c.word.ensures w.if-word-eq-LIVE.false)
    ]

pub returns : goal.returns
returns c = counted_all c.loop-x.invariant (omega (arith, listed_cells c.requires))
