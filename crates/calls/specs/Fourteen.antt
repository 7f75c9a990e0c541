-- Fourteen steps: one table of calls, answers and remarks, with which the customer and we compare notes. proofs/Fourteen.antt proves it.
use Rattle.std.specs.Prelude.{◌≡◌, Bool, true, ◌&&◌, List, [], ◌∷◌, ℕ, suc, eqb, ltb, replicate, Option, None, Some}
use Rattle.settings.specs.Numbers.{length_of, base_of}
use Rattle.lists.specs.Lists.{same}
use Rattle.answers.specs.declared.Answer.{Answer}
use Rattle.meaning.specs.Row.{Node, node_at}
use Rattle.meaning.specs.State.{position_key}
use Rattle.meaning.specs.Reading.{read}
use Rattle.answers.specs.Refusals.{answer}
use Rattle.meaning.specs.Words.{owed_at, low_at, high_at}
use Rattle.meaning.specs.Operations.{set_up_out}
use Rattle.calls.specs.Calls.{operated, made_on}
use Rattle.answers.specs.declared.Operation.TheVariants.{Insert, Find, Take, Sweep}
use Rattle.answers.specs.declared.Operation.{Operation}

-- the remarks beside the steps, of the words after the step
pub data Remark : Type 0 where
  none_made : Remark
  -- the first key owes link d, and no other, of the second key's cell
  owes_link : (key d of : ℕ) → Remark
  -- the key's cell, which is not the head, has owed, low and high 0
  owes_nothing : (key : ℕ) → Remark
  -- the position is the cell with this key (0: the head)
  position_is : (key : ℕ) → Remark
  free_chain : List ℕ → Remark
  uses_cell : (key cell : ℕ) → Remark

-- the number of the cell with a key; 0 if it does not stand
abbrev pub cell_number : Option Node → ℕ
cell_number None = 0
cell_number (Some x) = x.cell

abbrev pub cell_with : List ℕ → ℕ → ℕ
cell_with ws key = cell_number (node_at key (read ws).row)

abbrev pub holds : Remark → List ℕ → Bool
holds none_made ws = true
holds (owes_link key d of) ws =
    let n = cell_with ws key in
    eqb (owed_at ws n) (cell_with ws of) && eqb (low_at ws n) d && eqb (high_at ws n) (suc d)
holds (owes_nothing key) ws =
    let n = cell_with ws key in
    ltb 0 n && eqb (owed_at ws n) 0 && eqb (low_at ws n) 0 && eqb (high_at ws n) 0
holds (position_is key) ws = eqb (position_key (read ws)) key
holds (free_chain cells) ws = same (read ws).free cells
holds (uses_cell key cell) ws = eqb (cell_with ws key) cell

pub record Line : Type 0 where
  pub call : Operation
  pub answered : Answer
  pub remark : Remark

abbrev pub line : Operation → Answer → Remark → Line
line call answered remark = record { call = call; answered = answered; remark = remark }

-- D = 2, K = 15, C = 8, so b = 4; the steps in order from fresh
unfoldable pub table : List Line
table =
    line (Insert 6 60) (answer 0 6 0 0) none_made
    ∷ line (Insert 5 50) (answer 0 5 0 1) (owes_link 5 0 6)
    ∷ line (Insert 9 90) (answer 0 9 0 1) (owes_nothing 5)
    ∷ line (Find 6) (answer 0 6 60 2) none_made
    ∷ line Take (answer 0 5 50 1) none_made
    ∷ line Take (answer 0 6 60 1) none_made
    ∷ line (Insert 2 20) (answer 0 2 0 0) (position_is 0)
    ∷ line Take (answer 0 2 20 1) none_made
    ∷ line Take (answer 0 9 90 3) none_made
    ∷ line (Insert 6 61) (answer 0 6 0 2) (position_is 5)
    ∷ line Take (answer 0 6 61 1) none_made
    ∷ line Take (answer 7 0 0 1) none_made
    ∷ line Sweep (answer 0 0 0 3) (free_chain (1 ∷ 2 ∷ 4 ∷ 5 ∷ 6 ∷ 7 ∷ []))
    ∷ line (Insert 5 51) (answer 0 5 0 1) (uses_cell 5 1)
    ∷ []

-- what a step was seen to answer, and whether its remark holds
pub record Seen : Type 0 where
  pub answered : Answer
  pub remarked : Bool

abbrev pub expected : Line → Seen
expected l = record { answered = l.answered; remarked = true }

-- the steps made one after the other
unfoldable pub ran : List Line → List ℕ → List Seen
ran [] ws = []
ran (l ∷ lines) ws =
    let o = made_on (operated l.call) ws in
    record { answered = o.answered; remarked = holds l.remark o.left.words } ∷ ran lines o.left.words

unfoldable pub fresh_words : List ℕ
fresh_words = (set_up_out 2 15 8 (replicate (length_of 2 8) 0)).left

-- the base of the list of these steps: Numbers 3
abbrev pub BaseOfSteps : Type 0
BaseOfSteps = base_of 2 15 ≡ 4
