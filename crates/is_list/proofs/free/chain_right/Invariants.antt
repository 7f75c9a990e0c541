-- `is_list::free::chain_right` meets its contract: the chain from cell c on with the cells that are left decides as the whole does.
use mathlib.Core.Path.{◌≡◌}
use Prim.Native.Nat.{◌-◌}
use Rattle.account.specs.Tree.{chain_right}
use Rattle.is_list.proofs.free.chain_right.Given as goal

abbrev pub invariant-loop : goal.invariant-loop
invariant-loop l = chain_right l.list l.n l.first ≡ chain_right l.list (l.n - l.counter) l.c
