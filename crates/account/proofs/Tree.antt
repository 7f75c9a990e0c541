-- The check accepts a buffer exactly if it is a list.
use mathlib.Core.Path.{◌≡◌}
use mathlib.Core.List.{List}
use Prim.Native.Nat.{ℕ}
use Rattle.lists.proofs.Tests.{tests_same}
use Rattle.meaning.specs.Reading.{is_list}
use Rattle.account.specs.Tree.{accepts}
use Rattle.account.proofs.Accepted.{accepts_list}
use Rattle.account.proofs.Complete.{list_accepts}

pub accepts_is_list : (ws : List ℕ) → accepts ws ≡ is_list ws
accepts_is_list ws = tests_same (accepts ws) (is_list ws) (accepts_list ws) (list_accepts ws)
