-- The state that reading a file gives: the pairs in cells 1, 2, .. in their order, all live and none owing, the other cells free, the position
-- at the head. That the calls for which a read stands leave its picture is proved in proofs/ReadIn.antt; the code goes by it.
use Rattle.std.specs.Prelude.{true, false, List, [], ◌∷◌, ℕ, suc, ◌-◌, length}
use Rattle.settings.specs.declared.Settings.{Settings}
use Rattle.lists.specs.Lists.{numbers_from}
use Rattle.files.specs.Files.{Pair}
use Rattle.meaning.specs.Row.{Node}
use Rattle.meaning.specs.State.{State}

-- the nodes of some pairs, in cells from c on
unfoldable pub nodes_from : ℕ → List Pair → List Node
nodes_from c [] = []
nodes_from c (p ∷ pairs) = record { cell = c; key = p.key; value = p.value; live = true; owes = false } ∷ nodes_from (suc c) pairs

unfoldable pub read_state : Settings → List Pair → State
read_state s pairs =
    record {
      settings = s;
      row = nodes_from 1 pairs;
      free = numbers_from (suc (length pairs)) (s.cells - suc (length pairs));
      position = 0;
    }

-- the last key of some pairs; `below` if there is none
unfoldable pub last_key : ℕ → List Pair → ℕ
last_key below [] = below
last_key below (p ∷ pairs) = last_key p.key pairs
