-- What a run of takes costs: the sum of the passed figures (The operations 5), whatever calls stand between.
use Rattle.std.specs.Prelude.{Bool, true, false, cond, ◌&&◌, ◌||◌, not, List, [], ◌∷◌, ℕ, suc, ◌+◌, eqb, leb, length, Option, None, Some}
use Rattle.answers.specs.declared.Answer.{Answer}
use Rattle.book.specs.Book.{StandingKey, Book, standing_at, standing_above, standing_between}
use Rattle.calls.specs.Calls.{Made, made_on}
use Rattle.calls.specs.Effects.{Effect, keeping, inserting, taking, sweeping, renewing, effect}
use Rattle.calls.specs.Book.{book_of}

-- the passed figure that a call of this effect answers: that of a successful take
abbrev pub passed_in : Effect → Answer → ℕ
passed_in keeping a = 0
passed_in (inserting key value) a = 0
passed_in taking a = cond (eqb a.refusal 0) a.count 0
passed_in sweeping a = 0
passed_in (renewing largest cells pairs) a = 0

-- the passed figures of a sequence of calls, added up
unfoldable pub passed_sum : List Made → List ℕ → ℕ
passed_sum [] ws = 0
passed_sum (made ∷ calls) ws = passed_in (effect made (length ws)) (made_on made ws).answered + passed_sum calls (made_on made ws).left.words

-- every call of a sequence has an effect of some kinds, or is refused
unfoldable pub only_of : (Effect → Bool) → List Made → List ℕ → Bool
only_of kinds [] ws = true
only_of kinds (made ∷ calls) ws =
    (kinds (effect made (length ws)) || not (eqb (made_on made ws).answered.refusal 0)) && only_of kinds calls (made_on made ws).left.words

-- A run of takes has takes, finds, finishes and writes, and refused calls of every kind.
abbrev pub of_run : Effect → Bool
of_run keeping = true
of_run (inserting key value) = false
of_run taking = true
of_run sweeping = false
of_run (renewing largest cells pairs) = false

-- In a run with inserts, records may insert too.
abbrev pub of_run_with_inserts : Effect → Bool
of_run_with_inserts keeping = true
of_run_with_inserts (inserting key value) = true
of_run_with_inserts taking = true
of_run_with_inserts sweeping = false
of_run_with_inserts (renewing largest cells pairs) = false

-- how many standing keys are above the position: those that takes can still pass
abbrev pub keys_ahead : Book → ℕ
keys_ahead k = standing_above k.position k.row

-- What an accepted insert adds to the keys ahead: above the position a new key adds itself, a revived one nothing; at or below it the key itself
-- and the standing keys above it and up to the position, for the position falls back to just below the key.
abbrev pub adds_above : Option StandingKey → ℕ
adds_above None = 1
adds_above (Some x) = 0

abbrev pub insert_adds : ℕ → Book → ℕ
insert_adds key k = cond (leb key k.position) (suc (standing_between key k.position k.row)) (adds_above (standing_at key k.row))

abbrev pub effect_adds : Effect → Book → ℕ
effect_adds keeping k = 0
effect_adds (inserting key value) k = insert_adds key k
effect_adds taking k = 0
effect_adds sweeping k = 0
effect_adds (renewing largest cells pairs) k = 0

-- what the accepted inserts of a sequence of calls add, each on the words that it is made on
unfoldable pub added_sum : List Made → List ℕ → ℕ
added_sum [] ws = 0
added_sum (made ∷ calls) ws =
    cond (eqb (made_on made ws).answered.refusal 0) (effect_adds (effect made (length ws)) (book_of ws)) 0 + added_sum calls (made_on made ws).left.words
