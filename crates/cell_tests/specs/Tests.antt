-- Parts of a cell's tests in the account on the words that have a function of their own.
use Rattle.std.specs.Prelude.{Bool, cond, List, ℕ, eqb}
use Rattle.meaning.specs.Words.{link_at, dimensions_at}
use Rattle.account.specs.Tree.{all_from}

-- link d of y is c where d is `high`, and else 0
abbrev pub link_is : List ℕ → ℕ → ℕ → ℕ → ℕ → Bool
link_is ws y high c d = eqb (link_at ws y d) (cond (eqb d high) c 0)

-- the only link of y is link `high`, to c
abbrev pub only_link : List ℕ → ℕ → ℕ → ℕ → Bool
only_link ws y high c = all_from (link_is ws y high c) 0 (dimensions_at ws)
