-- The six operations: for every list of words and all numbers, the four numbers answered and every word afterwards. The operations,
-- Refusals.
use Rattle.settings.specs.declared.Settings.{Settings}
use Rattle.std.specs.Prelude.{Bool, true, false, cond, ◌&&◌, not, ℕ, ◌-◌, eqb, leb, ltb, length, drop, None, Some, Option}
use mathlib.Core.List.{List, [], ◌∷◌, ◌++◌, map, reverse_aux, drop_last}
use Rattle.settings.specs.Numbers.{is_key, length_of}
use Rattle.settings.specs.Checked.{settings_of, checked_of}
use Rattle.lists.specs.Lists.{those, numbers_from, first_number}
use Rattle.meaning.specs.Keys.{shared}
use Rattle.meaning.specs.Row.{Node, last_of, Place, settled_link, low, high, place_of, node_at, put, smaller_than}
use Rattle.meaning.specs.State.{State, key_of, position_key, places_of}
use Rattle.meaning.specs.Picture.{picture}
use Rattle.meaning.specs.Reading.{read, reading_of}
use Rattle.answers.specs.Refusals.{Outcome, accepted}
use Rattle.answers.specs.declared.Refusal.TheVariants.{OutOfRange, WrongLength, NotAList, BadKey, KeyLive, NoFreeCell, NothingLive, KeyNotLive}
use Rattle.answers.specs.Refusals.{refused}
use Rattle.answers.specs.declared.Refusal.TheVariants.{KeyNotStanding}
use Rattle.answers.specs.declared.Operation.{Operation}
use Rattle.answers.specs.declared.Operation.TheVariants.{Insert, Find, Finish, Take, Sweep}
use Rattle.meaning.specs.Rule.{rule}
use Rattle.meaning.specs.declared.Slot.{Slot}

-- Refusal 3: the buffer is not a list. It goes by what the words are read as.
unfoldable pub on_reading : List ℕ → (State → Outcome (List ℕ)) → Option Settings → Outcome (List ℕ)
on_reading ws act (Some s) = act (read ws)
on_reading ws act None = refused NotAList ws

unfoldable pub on_list : List ℕ → (State → Outcome (List ℕ)) → Outcome (List ℕ)
on_list ws act = on_reading ws act (reading_of ws)

-- Refusal 4: key 0 or above K.
unfoldable pub on_key : List ℕ → State → ℕ → Outcome (List ℕ) → Outcome (List ℕ)
on_key ws s key done = cond (is_key s.settings.largest key) done (refused BadKey ws)

-- Looked 5: looked is over the keys that stand before the call; by the rule, Looked 4.
unfoldable pub looked : State → ℕ → ℕ
looked s k = length (rule s.settings.base s.settings.dimensions (map (λ x. x.key) s.row) k)

-- Set up.

-- The operations 1: no cell stands but the head, cells 1 to C-1 are free in that order, the path is all 0.
unfoldable pub fresh : ℕ → ℕ → ℕ → State
fresh D K C = record { settings = settings_of D K C; row = []; free = numbers_from 1 (C - 1); position = 0 }

-- by what the checked constructor of the settings answers
unfoldable pub set_up_by : List ℕ → Option Settings → Outcome (List ℕ)
set_up_by ws (Some s) =
    elim (eqb (length ws) (length_of s.dimensions s.cells)) [
      | true ↦ accepted 0 0 0 (picture (fresh s.dimensions s.largest s.cells))
      | false ↦ refused WrongLength ws
    ]
set_up_by ws None = refused OutOfRange ws

unfoldable pub set_up_out : ℕ → ℕ → ℕ → List ℕ → Outcome (List ℕ)
set_up_out D K C ws = set_up_by ws (checked_of D K C)

-- Finishing.

-- the node with its debt finished, or paid
abbrev pub paid : Node → Node
paid x = record { cell = x.cell; key = x.key; value = x.value; live = x.live; owes = false }

-- Debts 5: what cell c owes is finished.
unfoldable pub finished : ℕ → List Node → List Node
finished c row = map (λ x. cond (eqb x.cell c) (paid x) x) row

-- the state with another row
abbrev pub with_row : State → List Node → State
with_row s row = record { settings = s.settings; row = row; free = s.free; position = s.position }

-- The operations 4: the number of links moved, high minus low, or 0 if nothing was owed
unfoldable pub links_moved : State → Option Place → ℕ
links_moved s None = 0
links_moved s (Some x) = high s.settings.base s.settings.dimensions x - low x

unfoldable pub finish_at : List ℕ → State → ℕ → Option Node → Outcome (List ℕ)
finish_at ws s key None = refused (KeyNotStanding key) ws
finish_at ws s key (Some x) =
    accepted key 0 (links_moved s (place_of x.cell (places_of s s.row))) (picture (with_row s (finished x.cell s.row)))

-- The operations 4: finish answers the key and the links moved; the key may be dead.
unfoldable pub finish_out : List ℕ → ℕ → Outcome (List ℕ)
finish_out ws key = on_list ws (λ s. on_key ws s key (finish_at ws s key (node_at key s.row)))

-- Find.

unfoldable pub find_at : List ℕ → State → ℕ → Option Node → Outcome (List ℕ)
find_at ws s key None = refused (KeyNotLive key (looked s key)) ws
find_at ws s key (Some x) = cond x.live (accepted key x.value (looked s key) ws) (refused (KeyNotLive key (looked s key)) ws)

-- The operations 3: find answers the key's value and looked, and writes nothing.
unfoldable pub find_out : List ℕ → ℕ → Outcome (List ℕ)
find_out ws key = on_list ws (λ s. on_key ws s key (find_at ws s key (node_at key s.row)))

-- Insert.

-- the first of some places whose settled link d leads to cell c: the parent of c, if d is c's dimension
unfoldable pub leads_to : ℕ → ℕ → ℕ → ℕ → List Place → ℕ
leads_to b D d c [] = 0
leads_to b D d c (x ∷ standing) = cond (eqb (settled_link b D x d) c) x.node.cell (leads_to b D d c standing)

-- the dimension of cell c
unfoldable pub dimension_at : Option Place → ℕ
dimension_at None = 0
dimension_at (Some x) = x.dimension

-- settled link d of a cell
unfoldable pub settled_link_at : ℕ → ℕ → ℕ → Option Place → ℕ
settled_link_at b D d None = 0
settled_link_at b D d (Some x) = settled_link b D x d

-- How cells hang together 4: the parent of cell c in the settled shape of some standing cells
unfoldable pub parent_in : State → ℕ → List Node → ℕ
parent_in s c row =
    let standing = places_of s row in
    leads_to s.settings.base s.settings.dimensions (dimension_at (place_of c standing)) c standing

-- The operations 2: if the key is at or below the position's, the position becomes the standing cell of next smaller key.
unfoldable pub position_after : State → ℕ → ℕ
position_after s key = cond (leb key (position_key s)) (smaller_than key s.row).cell s.position

-- a node with a new value and mark 1
abbrev pub revived_node : ℕ → Node → Node
revived_node value x = record { cell = x.cell; key = x.key; value = value; live = true; owes = x.owes }

-- The operations 2: a dead key is revived: it gets the value and mark 1, no link changes and nothing is finished.
unfoldable pub revived : State → Node → ℕ → State
revived s x value =
    let row = map (λ y. cond (eqb y.cell x.cell) (revived_node value y) y) s.row in
    record { settings = s.settings; row = row; free = s.free; position = position_after s x.key }

abbrev pub new_node : ℕ → ℕ → ℕ → Bool → Node
new_node n key value owes = record { cell = n; key = key; value = value; live = true; owes = owes }

-- The operations 2: a key that does not stand gets the first free cell n, as link p of its parent in the new settled shape. If a cell c had
-- that slot in the settled shape before, c becomes link q of n, where n and c share q coordinates. Where there is no c, q says nothing.
unfoldable pub slot_for : State → ℕ → Slot
slot_for s key =
    let b = s.settings.base in
    let D = s.settings.dimensions in
    let n = first_number s.free in
    let row = put (new_node n key 0 false) s.row in
    let p = dimension_at (place_of n (places_of s row)) in
    let parent = parent_in s n row in
    let c = settled_link_at b D p (place_of parent (places_of s s.row)) in
    record { n = n; parent = parent; p = p; c = c; q = shared b D key (key_of c s.row) }

-- .. and n owes if p is below q, where there is a c.
abbrev pub slot_owes : Slot → Bool
slot_owes t = not (eqb t.c 0) && ltb t.p t.q

-- The operations 2: what the parent owes is finished, then what c owes, and nothing else.
unfoldable pub added : State → ℕ → ℕ → Slot → State
added s key value t =
    let row = put (new_node t.n key value (slot_owes t)) (finished t.c (finished t.parent s.row)) in
    record { settings = s.settings; row = row; free = drop 1 s.free; position = position_after s key }

unfoldable pub insert_new : List ℕ → State → ℕ → ℕ → Outcome (List ℕ)
insert_new ws s key value =
    cond (eqb (length s.free) 0) (refused (NoFreeCell key (looked s key)) ws)
    (accepted key 0 (looked s key) (picture (added s key value (slot_for s key))))

unfoldable pub insert_at : List ℕ → State → ℕ → ℕ → Option Node → Outcome (List ℕ)
insert_at ws s key value None = insert_new ws s key value
insert_at ws s key value (Some x) =
    cond x.live (refused (KeyLive key (looked s key)) ws) (accepted key 0 (looked s key) (picture (revived s x value)))

-- The operations 2: insert answers the key and looked.
unfoldable pub insert_out : List ℕ → ℕ → ℕ → Outcome (List ℕ)
insert_out ws key value = on_list ws (λ s. on_key ws s key (insert_at ws s key value (node_at key s.row)))

-- Take.

-- the nodes before the first live one, and those from it on
unfoldable pub dead_front : List Node → List Node
dead_front [] = []
dead_front (x ∷ row) = cond x.live [] (x ∷ dead_front row)

unfoldable pub from_live : List Node → List Node
from_live [] = []
from_live (x ∷ row) = cond x.live (x ∷ row) (from_live row)

-- a node that is taken: dead, its value 0
abbrev pub dead_node : Node → Node
dead_node x = record { cell = x.cell; key = x.key; value = 0; live = false; owes = x.owes }

-- Refusal 7: the standing keys above the position
unfoldable pub keys_above : ℕ → List Node → ℕ
keys_above position row = length (those (λ x. ltb position x.key) row)

-- The operations 5: passed, the standing keys above the old position and up to the taken one
unfoldable pub keys_passed : ℕ → ℕ → List Node → ℕ
keys_passed position key row = length (those (λ x. ltb position x.key && leb x.key key) row)

-- The operations 5: the taken cell becomes dead with value 0, and the position. No link changes.
unfoldable pub taken : State → Node → State
taken s x =
    record { settings = s.settings; row = map (λ y. cond (eqb y.cell x.cell) (dead_node y) y) s.row; free = s.free; position = x.cell }

unfoldable pub take_from : List ℕ → State → List Node → Outcome (List ℕ)
take_from ws s [] = refused (NothingLive (keys_above (position_key s) s.row)) ws
take_from ws s (x ∷ later) = accepted x.key x.value (keys_passed (position_key s) x.key s.row) (picture (taken s x))

-- The operations 5: take hands out the least live key.
unfoldable pub take_out : List ℕ → Outcome (List ℕ)
take_out ws = on_list ws (λ s. take_from ws s (from_live s.row))

-- Sweep.

-- the nodes from the last one on, as a list: none if there is none
unfoldable pub last_alone : List Node → List Node
last_alone [] = []
last_alone (x ∷ []) = x ∷ []
last_alone (x ∷ y ∷ row) = last_alone (y ∷ row)

-- The operations 6: the position moves to the last dead node below every live key, and what lies between the head and it is freed.
unfoldable pub freed_by : List Node → List Node
freed_by row = drop_last (dead_front row)

-- .. all that is owed is finished, and what still stands has its settled shape.
unfoldable pub swept : State → State
swept s =
    record {
      settings = s.settings;
      row = map paid (last_alone (dead_front s.row) ++ from_live s.row);
      free = reverse_aux (map (λ x. x.cell) (freed_by s.row)) s.free;
      position = (last_of (dead_front s.row)).cell;
    }

-- The operations 6: sweep answers the number of cells freed.
unfoldable pub sweep_out : List ℕ → Outcome (List ℕ)
sweep_out ws = on_list ws (λ s. accepted 0 0 (length (freed_by s.row)) (picture (swept s)))

-- Any of the five operations on a list that has been set up.
abbrev pub operation_out : Operation → List ℕ → Outcome (List ℕ)
operation_out (Insert key value) ws = insert_out ws key value
operation_out (Find key) ws = find_out ws key
operation_out (Finish key) ws = finish_out ws key
operation_out Take ws = take_out ws
operation_out Sweep ws = sweep_out ws
