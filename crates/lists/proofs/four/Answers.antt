-- `lists::four` meets its contract: one word after the other.
use mathlib.Core.Path.{refl}
use Prim.Native.Nat.{◌+◌}
use Rattle.lists.proofs.AllZero.{zero_one, zero_next}
use Rattle.lists.proofs.four.Goals as goal

pub returns : goal.returns
returns c =
    let i = c.args.i in
    zero_next _ (i + 3) (zero_next _ (i + 2) (zero_next _ (i + 1) (zero_one _ i) refl) refl) refl
