-- `lists::eight` meets its contract: four words and the four after them.
use native.Mathlib.Omega.{arith}
use Rattle.lists.proofs.AllZero.{zero_or}
use Rattle.lists.proofs.eight.Goals as goal

pub returns : goal.returns
returns c = zero_or _ c.four.ensures c.four-2.ensures (omega arith) (omega arith)
