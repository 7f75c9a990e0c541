-- Sample buffers, made by calls from a fresh list: with debts, a position, dead cells and freed ones.
use Rattle.std.specs.Prelude.{cond, List, [], ◌∷◌, map, ℕ, zero, suc, ◌+◌, eqb, length, get_or, set, replicate}
use Rattle.settings.specs.Numbers.{length_of}
use Rattle.lists.specs.Lists.{those}
use Rattle.meaning.specs.Reading.{read, is_list}
use Rattle.meaning.specs.Operations.{set_up_out}
use Rattle.answers.specs.declared.Operation.TheVariants.{Insert, Finish, Take, Sweep}
use Rattle.answers.specs.declared.Operation.{Operation}
use Rattle.calls.specs.Calls.{operated, after_calls}

-- a fresh list with D, K and C
abbrev pub fresh_with : ℕ → ℕ → ℕ → List ℕ
fresh_with D K C = (set_up_out D K C (replicate (length_of D C) 0)).left

abbrev pub inserts : List ℕ → List Operation
inserts [] = []
inserts (key ∷ keys) = Insert key (key + 1000) ∷ inserts keys

unfoldable pub joined : List (List Operation) → List Operation
joined [] = []
joined ([] ∷ parts) = joined parts
joined ((operation ∷ operations) ∷ parts) = operation ∷ joined (operations ∷ parts)

-- D = 3, K = 63, C = 40, so b = 4
unfoldable pub larger : List ℕ
larger =
    after_calls
    (map operated (joined
    (inserts (1 ∷ 2 ∷ 3 ∷ 5 ∷ 9 ∷ 20 ∷ 21 ∷ 22 ∷ 26 ∷ 27 ∷ 30 ∷ 31 ∷ 37 ∷ 38 ∷ 41 ∷ 50 ∷ 51 ∷ 60 ∷ [])
    ∷ replicate 9 Take
    ∷ (Sweep ∷ [])
    ∷ inserts (62 ∷ 61 ∷ 33 ∷ 32 ∷ 17 ∷ 16 ∷ [])
    ∷ (Take ∷ Finish 61 ∷ Take ∷ Take ∷ Insert 17 7 ∷ [])
    ∷ [])))
    (fresh_with 3 63 40)

-- D = 2, K = 15, C = 10, so b = 4
unfoldable pub smaller : List ℕ
smaller =
    after_calls
    (map operated (joined
    (inserts (1 ∷ 2 ∷ 5 ∷ 6 ∷ 9 ∷ [])
    ∷ replicate 4 Take
    ∷ (Sweep ∷ [])
    ∷ inserts (13 ∷ 12 ∷ [])
    ∷ (Take ∷ [])
    ∷ [])))
    (fresh_with 2 15 10)

-- how many cells owe, are live, stand, are free; the position; the first two of the free chain
abbrev pub figures : List ℕ → List ℕ
figures ws =
    length (those (λ x. x.owes) (read ws).row)
    ∷ length (those (λ x. x.live) (read ws).row)
    ∷ length (read ws).row
    ∷ length (read ws).free
    ∷ (read ws).position
    ∷ get_or (read ws).free 0 0
    ∷ get_or (read ws).free 1 0
    ∷ []

-- the buffer with word i altered to the next number
abbrev pub raised : List ℕ → ℕ → List ℕ
raised ws i = set ws i (get_or ws i 0 + 1)

-- the buffer with word i altered to 0; to 1 if it is 0
abbrev pub lowered : List ℕ → ℕ → List ℕ
lowered ws i = set ws i (cond (eqb (get_or ws i 0) 0) 1 0)

-- Of n words from number i on, how many make no list when altered.
unfoldable pub refused_from : (List ℕ → ℕ → List ℕ) → List ℕ → ℕ → ℕ → ℕ
refused_from alter ws i zero = 0
refused_from alter ws i (suc n) = cond (is_list (alter ws i)) (refused_from alter ws (suc i) n) (suc (refused_from alter ws (suc i) n))
