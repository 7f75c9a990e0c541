-- What is promised of one call on a list, in one place: each statement with its sentence. proofs/Promises.antt proves every one of them, for
-- every D, K and C in range at once. What is promised over sequences of calls is the page of the same name in crate calls.
use Rattle.std.specs.Prelude.{◌≡◌, Bool, true, ◌||◌, ◌↔◌, ℕ, ◌+◌, ◌*◌, ◌-◌, ◌≤◌, ◌<◌, eqb, length, drop, None, Some}
use mathlib.Core.List.{List, ◌∷◌, map, reverse_aux}
use Rattle.lists.specs.Lists.{occurrences, first_number}
use Rattle.lists.specs.Compared.{agreed, precedes}
use Rattle.meaning.specs.Keys.{coordinates, shared}
use Rattle.meaning.specs.Row.{Node, head_node, node_at, smaller_than}
use Rattle.meaning.specs.State.{key_of, position_key}
use Rattle.meaning.specs.Reading.{read, is_list, standing_keys}
use Rattle.answers.specs.Refusals.{answer}
use Rattle.meaning.specs.Rule.{rule}
use Rattle.meaning.specs.Words.{key_at, mark_at, owed_at, low_at, high_at, link_at, dimensions_at, largest_at, cells_at, base_at, position_at, live_mark}
use Rattle.meaning.specs.Walk.{walk, trail_from, trail, ends}
use Rattle.meaning.specs.Lower.{lower_way_for, lower_for}
use Rattle.meaning.specs.Operations.{insert_out, find_out, finish_out, take_out, sweep_out, freed_by, parent_in, slot_for, keys_passed}
use Rattle.meaning.specs.Writes.{OwesNothing, OwesSame, Finished, Inserted, Taken, Revived, Swept}
use Rattle.meaning.specs.Sentences.{Standing, AList}
use Rattle.meaning.specs.Layer.SweepStores.{finish_all}

-- key is live, on the words
pub record Live (ws : List ℕ) (key : ℕ) : Type 0 where
  pub cell : ℕ
  pub within : cell < cells_at ws
  pub mark : mark_at ws cell ≡ live_mark
  pub same : key_at ws cell ≡ key

-- 1. Shared coordinates are the leading coordinates that are equal.
abbrev pub SharedMeansLeading : Type 0
SharedMeansLeading =
    (ws : List ℕ) → is_list ws ≡ true → (x y : ℕ) → x ≤ largest_at ws → y ≤ largest_at ws
    → shared (base_at ws) (dimensions_at ws) x y ≡ agreed (coordinates (base_at ws) (dimensions_at ws) x) (coordinates (base_at ws) (dimensions_at ws) y)

-- .. and a buffer is a list if and only if every rule from Numbers to A list holds of its words.
abbrev pub ListMeansSentences : Type 0
ListMeansSentences = (ws : List ℕ) → (is_list ws ≡ true) ↔ AList ws

-- 2. Walk and rule agree on every list and key: the keys of the cells gone to are the rule's, in one order;
abbrev pub WalkIsRule : Type 0
WalkIsRule =
    (ws : List ℕ) → is_list ws ≡ true → (k : ℕ) → 1 ≤ k → k ≤ largest_at ws
    → map (key_at ws) (walk ws k) ≡ rule (base_at ws) (dimensions_at ws) (standing_keys ws) k

-- .. no cell is gone to twice;
abbrev pub WalkOnce : Type 0
WalkOnce = (ws : List ℕ) → is_list ws ≡ true → (k : ℕ) → 1 ≤ k → k ≤ largest_at ws → (x : ℕ) → occurrences x (walk ws k) ≤ 1

-- .. they are at most D(b-1);
abbrev pub WalkBounded : Type 0
WalkBounded =
    (ws : List ℕ) → is_list ws ≡ true → (k : ℕ) → 1 ≤ k → k ≤ largest_at ws
    → length (walk ws k) ≤ dimensions_at ws * (base_at ws - 1)

-- .. the walk's own step says its end before the fuel is out, and more fuel gives the same cells;
abbrev pub WalkEnds : Type 0
WalkEnds =
    (ws : List ℕ) → is_list ws ≡ true → (k : ℕ) → 1 ≤ k → k ≤ largest_at ws
    → (ends (trail ws k) ≡ true) × ((fuel : ℕ) → dimensions_at ws * base_at ws ≤ fuel → trail_from fuel ws k 0 0 ≡ trail ws k)

-- .. and the keys depend on the settings, the standing keys and the key sought alone.
abbrev pub WalkByKeysAlone : Type 0
WalkByKeysAlone =
    (ws vs : List ℕ) → is_list ws ≡ true → is_list vs ≡ true
    → dimensions_at ws ≡ dimensions_at vs → largest_at ws ≡ largest_at vs
    → ((key : ℕ) → (0 < occurrences key (standing_keys ws)) ↔ (0 < occurrences key (standing_keys vs)))
    → (k : ℕ) → 1 ≤ k → k ≤ largest_at ws → map (key_at ws) (walk ws k) ≡ map (key_at vs) (walk vs k)

-- .. So does the settled shape (docs/REFERENCE.md, *How cells hang together 3*): of two lists in which nothing is owed, with the same
-- dimensions, largest key and standing keys, a link of a key leads to the same key in both. Only the head has key 0, so where one leads
-- nowhere the other does.
abbrev pub ShapeByKeysAlone : Type 0
ShapeByKeysAlone =
    (ws vs : List ℕ) → is_list ws ≡ true → is_list vs ≡ true
    → dimensions_at ws ≡ dimensions_at vs → largest_at ws ≡ largest_at vs
    → ((key : ℕ) → (0 < occurrences key (standing_keys ws)) ↔ (0 < occurrences key (standing_keys vs)))
    → ((x : ℕ) → Standing ws x → owed_at ws x ≡ 0) → ((y : ℕ) → Standing vs y → owed_at vs y ≡ 0)
    → (x y : ℕ) → Standing ws x → Standing vs y → key_at ws x ≡ key_at vs y
    → (d : ℕ) → d < dimensions_at ws → key_at ws (link_at ws x d) ≡ key_at vs (link_at vs y d)

-- 3. Demand 3: the count of an insert or find that answers looked is the number of cells that the walk meets on the words as they stand, and
-- their keys are the rule's.
pub record Looks (ws : List ℕ) (k count : ℕ) : Type 0 where
  pub walked : count ≡ length (walk ws k)
  pub ruled : map (key_at ws) (walk ws k) ≡ rule (base_at ws) (dimensions_at ws) (standing_keys ws) k
  pub bounded : count ≤ dimensions_at ws * (base_at ws - 1)

-- refusals 0, 5, 6 and 8
abbrev pub answers_looked : ℕ → Bool
answers_looked refusal = eqb refusal 0 || (eqb refusal 5 || (eqb refusal 6 || eqb refusal 8))

abbrev pub CountsWalk : List ℕ → Type 0
CountsWalk ws =
    (key value : ℕ)
    → (answers_looked (insert_out ws key value).answered.refusal ≡ true → Looks ws key (insert_out ws key value).answered.count)
    × (answers_looked (find_out ws key).answered.refusal ≡ true → Looks ws key (find_out ws key).answered.count)

abbrev pub ListsCountWalks : Type 0
ListsCountWalks = (ws : List ℕ) → is_list ws ≡ true → CountsWalk ws

-- 4. Present means that same key: insert answers 5, and find 0, exactly if that key itself is live.
abbrev pub PresentMeansThatKey : Type 0
PresentMeansThatKey =
    (ws : List ℕ) → is_list ws ≡ true → (key value : ℕ) → 1 ≤ key → key ≤ largest_at ws
    → (((insert_out ws key value).answered.refusal ≡ 5) ↔ Live ws key)
    × (((find_out ws key).answered.refusal ≡ 0) ↔ Live ws key)

-- 5. What a call leaves alone. A find writes nothing.
abbrev pub FindWritesNothing : Type 0
FindWritesNothing = (ws : List ℕ) (key : ℕ) → (find_out ws key).left ≡ ws

-- A take writes the taken cell's value 0 and mark 2, and the path, whose last word becomes that cell. No link changes.
abbrev pub TakeWrites : Type 0
TakeWrites =
    (ws : List ℕ) → is_list ws ≡ true → (take_out ws).answered.refusal ≡ 0
    → Taken ws (take_out ws).left (take_out ws).answered.key

-- A revived key gets the new value and mark 1, with no link changed and nothing finished; and the path, if the key is not above the
-- position's.
abbrev pub ReviveWrites : Type 0
ReviveWrites =
    (ws : List ℕ) → is_list ws ≡ true → (key value : ℕ) → (node_at key (read ws).row ≡ None → ⊥)
    → (insert_out ws key value).answered.refusal ≡ 0 → Revived ws (insert_out ws key value).left key value

-- An insert of a key that does not stand: the parent, p, c, q and the links moved; every other word of a cell as before.
abbrev pub InsertWrites : Type 0
InsertWrites =
    (ws : List ℕ) → is_list ws ≡ true → (key value : ℕ) → node_at key (read ws).row ≡ None
    → (insert_out ws key value).answered.refusal ≡ 0 → Inserted ws (insert_out ws key value).left key value (slot_for (read ws) key)

-- A finish of a key that stands: its cell's debt is finished and no other.
pub record Finishes (ws us : List ℕ) (k count : ℕ) : Type 0 where
  pub cell : ℕ
  -- a free cell's first word is no key
  pub standing : Standing ws cell
  pub same : key_at ws cell ≡ k
  pub moved : count ≡ high_at ws cell - low_at ws cell
  pub paid : OwesNothing us cell
  pub others : (x : ℕ) → (x ≡ cell → ⊥) → OwesSame ws us x
  pub nothing : owed_at ws cell ≡ 0 → us ≡ ws
  pub finished : 0 < owed_at ws cell → Finished ws us cell

abbrev pub FinishWrites : Type 0
FinishWrites =
    (ws : List ℕ) → is_list ws ≡ true → (key : ℕ) → (finish_out ws key).answered.refusal ≡ 0
    → Finishes ws (finish_out ws key).left key (finish_out ws key).answered.count

-- A sweep leaves what The operations 6 says.
abbrev pub SweepWrites : Type 0
SweepWrites = (ws : List ℕ) → is_list ws ≡ true → Swept ws (sweep_out ws).left

-- 6. A cell freed by a sweep serves again: each cell but the head stands or is free, exactly one of the two, in every list;
abbrev pub EachCellOnce : Type 0
EachCellOnce =
    (ws : List ℕ) → is_list ws ≡ true → (x : ℕ) → 0 < x → x < cells_at ws
    → occurrences x (map (λ e. e.cell) (read ws).row) + occurrences x (read ws).free ≡ 1

-- .. after a sweep the freed cells are at the front of the chain, greatest key first;
abbrev pub SweptCellsFirst : Type 0
SweptCellsFirst =
    (ws : List ℕ) → is_list ws ≡ true
    → (read (sweep_out ws).left).free ≡ reverse_aux (map (λ e. e.cell) (freed_by (read ws).row)) (read ws).free

-- .. and an insert of a key that does not stand uses the first cell of the chain.
pub record UsesFirst (ws after : List ℕ) (key : ℕ) : Type 0 where
  pub node : Node
  pub stands : node_at key (read after).row ≡ Some node
  pub cell : node.cell ≡ first_number (read ws).free
  pub free : (read after).free ≡ drop 1 (read ws).free

abbrev pub InsertUsesFirst : Type 0
InsertUsesFirst =
    (ws : List ℕ) → is_list ws ≡ true → (key value : ℕ) → node_at key (read ws).row ≡ None
    → (insert_out ws key value).answered.refusal ≡ 0 → UsesFirst ws (insert_out ws key value).left key

-- 7. Key order is the lexicographic order of the coordinates; a key's coordinates determine it.
abbrev pub OrderIsLexicographic : Type 0
OrderIsLexicographic =
    (ws : List ℕ) → is_list ws ≡ true → (x y : ℕ) → x ≤ largest_at ws → y ≤ largest_at ws
    → ((x < y) ↔ (precedes (coordinates (base_at ws) (dimensions_at ws) x) (coordinates (base_at ws) (dimensions_at ws) y) ≡ true))
    × (coordinates (base_at ws) (dimensions_at ws) x ≡ coordinates (base_at ws) (dimensions_at ws) y → x ≡ y)

-- 8. In a list every cell owed from stands,
abbrev pub OwedStand : List ℕ → Type 0
OwedStand ws = (x : ℕ) → x < cells_at ws → 0 < owed_at ws x → Standing ws (owed_at ws x)

abbrev pub OwedCellsStand : Type 0
OwedCellsStand = (ws : List ℕ) → is_list ws ≡ true → OwedStand ws

-- .. and within a sweep, on the words between one debt and the next: what n cells from x on owed is finished, and no more.
abbrev pub OwedCellsStandInSweep : Type 0
OwedCellsStandInSweep =
    (ws : List ℕ) → is_list ws ≡ true → (x n : ℕ) → x + n ≤ cells_at ws → OwedStand (finish_all (dimensions_at ws) ws x n)

-- 9. From where the walk for k rests, the way along the links as they stand comes to the standing cell of next smaller key, and it goes to at most
-- D(b-1) cells.
abbrev pub WayToLower : Type 0
WayToLower =
    (ws : List ℕ) → is_list ws ≡ true → (k : ℕ) → 1 ≤ k → k ≤ largest_at ws →
    (lower_for ws k ≡ (smaller_than k (read ws).row).cell) × (length (lower_way_for ws k) ≤ dimensions_at ws * (base_at ws - 1))

-- 10. What an insert of a key at or below the position leaves.
pub record FellBack (ws : List ℕ) (key value : ℕ) : Type 0 where
  -- the position is below the key, so it is not the key's own cell, and no standing key lies between the two
  pub below : key_at ws (position_at ws) < key
  pub nothing_between : (x : ℕ) → Standing ws x → key_at ws (position_at ws) < key_at ws x → key ≤ key_at ws x
  -- a take right after it hands out that very key, and passes exactly 1
  pub taken : (take_out ws).answered ≡ answer 0 key value 1
  -- the parent of the key's cell is not above the position: a position there would have a take pass as much or more
  pub parent :
      (x : Node) → node_at key (read ws).row ≡ Some x → (k : ℕ) →
      let parent = key_of (parent_in (read ws) x.cell (read ws).row) (head_node ∷ (read ws).row) in
      (parent ≤ position_key (read ws)) × (keys_passed (position_key (read ws)) k (read ws).row ≤ keys_passed parent k (read ws).row)

abbrev pub LateInserts : Type 0
LateInserts =
    (ws : List ℕ) → is_list ws ≡ true → (key value : ℕ) → (insert_out ws key value).answered.refusal ≡ 0 → key ≤ key_at ws (position_at ws)
    → FellBack (insert_out ws key value).left key value
