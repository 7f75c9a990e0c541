-- `report::checksum` meets its contract: each element is summed once, in order.
use Prim.Native.Nat.{◌%◌}
use lib.ListN.{length, take}
use Rattle.report.proofs.Sums.{Summed}
use Rattle.report.proofs.checksum.Given as goal

abbrev pub invariant-loop-element : goal.invariant-loop-element
invariant-loop-element g l = Summed g.T.Into.converts (take l.element-index l.part) (length l.part % 2147483647) l.h
