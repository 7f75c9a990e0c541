-- Many calls after one check: The operations 8.
use Rattle.settings.specs.declared.Settings.{Settings}
use Rattle.std.specs.Prelude.{Bool, true, false, cond, ◌&&◌, List, [], ◌∷◌, ◌++◌, map, ℕ, ◌*◌, eqb, leb, length, drop, None, Option, Some}
use Rattle.meaning.specs.Reading.{reading_of}
use Rattle.answers.specs.Refusals.{Outcome, accepted, refused}
use Rattle.answers.specs.declared.Refusal.TheVariants.{NotAList, BadBatch}
use Rattle.answers.specs.declared.Operation.{Operation}
use Rattle.answers.specs.declared.Operation.TheVariants.{Insert, Find, Finish, Take, Sweep}
use Rattle.calls.specs.Calls.{operated, made_on, after_calls}
use Rattle.answers.specs.declared.Answer.{Answer}

-- What is lent to a batch beside its calls: the words of a list, and the words for the answers.
pub record BatchLent : Type 0 where
  pub words : List ℕ
  pub answers : List ℕ

abbrev pub batch_lent : List ℕ → List ℕ → BatchLent
batch_lent words answers = record { words = words; answers = answers }

-- A call of a batch is three words: its kind, a key, a value. The kinds are 1 to 5; words that a call does not need are ignored.
unfoldable pub is_kind : ℕ → Bool
is_kind kind = leb 1 kind && leb kind 5

unfoldable pub operation_of : ℕ → ℕ → ℕ → Operation
operation_of kind key value =
    cond (eqb kind 1) (Insert key value)
    (cond (eqb kind 2) (Find key)
    (cond (eqb kind 3) (Finish key)
    (cond (eqb kind 4) Take Sweep)))

-- the words are whole calls, each of one of the kinds
unfoldable pub are_calls : List ℕ → Bool
are_calls [] = true
are_calls (kind ∷ []) = false
are_calls (kind ∷ key ∷ []) = false
are_calls (kind ∷ key ∷ value ∷ words) = is_kind kind && are_calls words

unfoldable pub calls_in : List ℕ → List Operation
calls_in [] = []
calls_in (kind ∷ []) = []
calls_in (kind ∷ key ∷ []) = []
calls_in (kind ∷ key ∷ value ∷ words) = operation_of kind key value ∷ calls_in words

-- an answer is four words
abbrev pub answer_words : Answer → List ℕ
answer_words a = a.refusal ∷ a.key ∷ a.value ∷ a.count ∷ []

-- the answers of calls, each made on the words that those before it leave
unfoldable pub answers_to : List Operation → List ℕ → List ℕ
answers_to [] ws = []
answers_to (call ∷ calls) ws = answer_words (made_on (operated call) ws).answered ++ answers_to calls (made_on (operated call) ws).left.words

-- Refusal 19: not whole calls, a kind that is none of the five, no room for the answers, or more calls than the count can tell
unfoldable pub fits : List ℕ → List ℕ → Bool
fits calls answers =
    are_calls calls && leb (4 * length (calls_in calls)) (length answers) && leb (length (calls_in calls)) 4294967295

-- words put first, and those past them kept
abbrev pub put_first : List ℕ → List ℕ → List ℕ
put_first front words = front ++ drop (length front) words

-- the calls one after the other
unfoldable pub batch_done : List Operation → BatchLent → Outcome BatchLent
batch_done calls lent =
    accepted 0 0 (length calls)
    (batch_lent (after_calls (map operated calls) lent.words) (put_first (answers_to calls lent.words) lent.answers))

abbrev pub batch_on : List ℕ → BatchLent → Option Settings → Outcome BatchLent
batch_on calls lent (Some s) = cond (fits calls lent.answers) (batch_done (calls_in calls) lent) (refused BadBatch lent)
batch_on calls lent None = refused NotAList lent

-- The operations 8: a batch answers the number of its calls.
unfoldable pub batch_out : List ℕ → BatchLent → Outcome BatchLent
batch_out calls lent = batch_on calls lent (reading_of lent.words)
