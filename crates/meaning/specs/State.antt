-- What a list holds, apart from what follows from it, and when that is in order.
use Rattle.std.specs.Prelude.{Bool, true, cond, ◌&&◌, ◌||◌, not, List, [], ◌∷◌, ◌++◌, map, ℕ, ◌-◌, eqb, leb, ltb, length}
use Rattle.settings.specs.Numbers.{in_range, base_of}
use Rattle.settings.specs.declared.Settings.{Settings}
use Rattle.lists.specs.Lists.{every, occurrences}
use Rattle.meaning.specs.Keys.{shared}
use Rattle.meaning.specs.Row.{Node, head_node, first_of, Place, places}

-- The settings; the standing cells other than the head, ascending by key; the free cells in the order of their chain; the cell that
-- is the position. Links, dimensions, debts' words, coordinates and path follow from these.
pub record State : Type 0 where
  pub settings : Settings
  pub row : List Node
  pub free : List ℕ
  pub position : ℕ

-- the standing cells of a row with their places
abbrev pub places_of : State → List Node → List Place
places_of s row = places s.settings.base s.settings.dimensions row

-- the key of the standing cell with number c
unfoldable pub key_of : ℕ → List Node → ℕ
key_of c [] = 0
key_of c (x ∷ row) = cond (eqb x.cell c) x.key (key_of c row)

-- the position's key
abbrev pub position_key : State → ℕ
position_key s = key_of s.position (head_node ∷ s.row)

-- keys above a key, each above the one before: How cells hang together 1
unfoldable pub ascending : ℕ → List Node → Bool
ascending key [] = true
ascending key (x ∷ row) = ltb key x.key && ascending x.key row

-- Numbers 1 and 3: D, K and C are in range, and b is the base.
abbrev pub settings_hold : State → Bool
settings_hold s =
    in_range s.settings.dimensions s.settings.largest s.settings.cells
    && eqb s.settings.base (base_of s.settings.dimensions s.settings.largest)

-- Numbers 2: each key is from 1 to K.
abbrev pub keys_hold : State → Bool
keys_hold s = ascending 0 s.row && every (λ x. leb x.key s.settings.largest) s.row

-- The words 4: each cell but the head is standing or met once by the free chain.
abbrev pub cells_hold : State → Bool
cells_hold s =
    let cells : List ℕ = map (λ x. x.cell) s.row ++ s.free in
    eqb (length cells) (s.settings.cells - 1)
    && every (λ c. ltb 0 c && ltb c s.settings.cells) cells
    && every (λ c. eqb (occurrences c cells) 1) cells

-- The words 3: a dead cell's value is 0.
abbrev pub values_hold : State → Bool
values_hold s = every (λ x. x.live || eqb x.value 0) s.row

-- Debts 2: a cell that owes has a cell after it, which owes nothing, and low is below high.
unfoldable pub debt_holds : ℕ → ℕ → Place → Bool
debt_holds b D n =
    not n.node.owes
    || (ltb 0 (length n.later)
    && not (first_of n.later).owes
    && ltb n.dimension (shared b D n.node.key (first_of n.later).key))

abbrev pub debts_hold : State → Bool
debts_hold s = every (debt_holds s.settings.base s.settings.dimensions) (places_of s s.row)

-- The position 1: it is the head or another standing cell, and all up to it are dead.
abbrev pub position_holds : State → Bool
position_holds s =
    ltb 0 (occurrences s.position (0 ∷ map (λ x. x.cell) s.row))
    && every (λ x. not x.live || ltb (position_key s) x.key) s.row

unfoldable pub tests : State → List Bool
tests s = settings_hold s ∷ keys_hold s ∷ cells_hold s ∷ values_hold s ∷ debts_hold s ∷ position_holds s ∷ []

-- the state is in order: each of the tests above holds (as facts: Sound in proofs/State.antt)
unfoldable pub valid : State → Bool
valid s = every (λ t. t) (tests s)
