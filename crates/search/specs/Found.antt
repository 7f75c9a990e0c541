-- What the search for a key answers on a list, over the standing keys. The slot is put by the next smaller and the next larger key, as the
-- walk finds it; that it is the meaning's own (slot_for) is found_slot in proofs/Slots.antt. Where there is no c, q is 0.
use Rattle.std.specs.Prelude.{◌≡◌, true, false, cond, List, ◌∷◌, ℕ, suc, ◌≤◌, eqb, leb, ltb, length, Option, None, Some}
use Rattle.settings.specs.declared.Settings.{Settings}
use Rattle.lists.specs.Lists.{those}
use Rattle.meaning.specs.Keys.{shared}
use Rattle.meaning.specs.Row.{Node, head_node, first_of, node_at, smaller_than}
use Rattle.meaning.specs.State.{State}
use Rattle.meaning.specs.Picture.{first_with}
use Rattle.meaning.specs.Reading.{read}
use Rattle.meaning.specs.Walk.{walk}
use Rattle.meaning.specs.Operations.{looked}
use Rattle.meaning.specs.Layer.Listed.{Listed}
use Rattle.meaning.specs.declared.Slot.{Slot}
use Rattle.search.specs.declared.Found.{Found}

-- the standing cell of next larger key than k; the head if there is none
abbrev pub larger_than : ℕ → List Node → Node
larger_than k row = first_of (those (λ x. ltb k x.key) row)

-- The number p of the link by which k hangs, or would hang, from its parent: what k shares with the cell of next smaller key.
abbrev pub slot_number : State → ℕ → ℕ
slot_number s k = shared s.settings.base s.settings.dimensions (smaller_than k s.row).key k

-- The parent of k: the first standing cell that shares more than p coordinates with the cell of next smaller key.
abbrev pub slot_parent : State → ℕ → ℕ
slot_parent s k =
    first_with s.settings.base s.settings.dimensions (smaller_than k s.row).key (suc (slot_number s k)) (head_node ∷ s.row)

-- The coordinates that k shares with the cell of next larger key.
abbrev pub slot_shared : State → ℕ → ℕ
slot_shared s k = shared s.settings.base s.settings.dimensions k (larger_than k s.row).key

-- the cell c that has the parent's slot, for a key that does not stand: the one of next larger key, if it shares p or more with k
abbrev pub slot_cell : State → ℕ → ℕ
slot_cell s k = cond (leb (slot_number s k) (slot_shared s k)) (larger_than k s.row).cell 0

-- A standing key has its own cell in the slot, and shares all D coordinates with it.
unfoldable pub found_at : State → ℕ → Option Node → Found
found_at s k None =
    record {
      standing = false;
      parent = slot_parent s k;
      p = slot_number s k;
      c = slot_cell s k;
      q = cond (eqb (slot_cell s k) 0) 0 (slot_shared s k);
      looked = looked s k;
    }
found_at s k (Some x) =
    record { standing = true; parent = slot_parent s k; p = slot_number s k; c = x.cell; q = s.settings.dimensions; looked = looked s k }

unfoldable pub found_of : State → ℕ → Found
found_of s k = found_at s k (node_at k s.row)

-- The search on a list has answered f of a key that the list may hold: what the standing keys say.
pub record Sought (ws : List ℕ) (s : Settings) (key : ℕ) (f : Found) : Type 0 where
  pub list : Listed ws s
  pub least : 1 ≤ key
  pub most : key ≤ s.largest
  pub is : f ≡ found_of (read ws) key

-- .. of some key
pub record SoughtSome (ws : List ℕ) (s : Settings) (f : Found) : Type 0 where
  pub key : ℕ
  pub sought : Sought ws s key f

-- What the search answers: that, and in looked the number of cells that the walk on the words goes to (docs/REFERENCE.md, *Looked and the
-- walk 3*), not only the number that the rule gives.
pub record Searched (ws : List ℕ) (s : Settings) (key : ℕ) (f : Found) : Type 0 where
  pub sought : Sought ws s key f
  pub walked : f.looked ≡ length (walk ws key)

-- the slot that was found, of new cell n
abbrev pub slot_of : ℕ → Found → Slot
slot_of n f = record { n = n; parent = f.parent; p = f.p; c = f.c; q = f.q }
