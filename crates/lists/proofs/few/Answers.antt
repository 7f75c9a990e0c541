-- `lists::few` meets its contract: before a word the bits are those of the words before it.
use mathlib.Core.Path.{refl}
use native.Mathlib.Omega.{arith}
use Rattle.lists.proofs.AllZero.{zero_start, zero_join, zero_next}
use Rattle.lists.proofs.few.Goals as goal

pub loop-word-init : goal.loop-word-init
loop-word-init c = zero_start _ 0 0 (λ z. refl)

pub loop-word-preserved : goal.loop-word-preserved
loop-word-preserved c = zero_next _ c.loop-word.word-index c.loop-word.invariant (omega arith)

pub returns : goal.returns
returns c =
    let v = c.loop-word in
    zero_join _ v.invariant v.invariant (omega arith) (omega arith)
