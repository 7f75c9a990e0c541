-- What an ordered map would do: the standing keys in ascending order, each with its value and whether it is live, and the key of the position; no
-- cells, links or debts. A list's book is what its keys come to; the plain row is its book in words. The five operations on it: The operations.
use Rattle.std.specs.Prelude.{Bool, true, false, cond, ◌&&◌, ℕ, suc, eqb, leb, ltb, length, Option, None, Some}
use mathlib.Core.List.{List, [], ◌∷◌, ◌++◌, map, drop_last}
use Rattle.settings.specs.Numbers.{is_key}
use Rattle.lists.specs.Lists.{those}
use Rattle.answers.specs.Refusals.{Outcome, accepted, refused}
use Rattle.answers.specs.declared.Refusal.TheVariants.{BadKey, KeyLive, NoFreeCell, NothingLive, KeyNotLive, KeyNotStanding}
use Rattle.answers.specs.declared.Operation.{Operation}
use Rattle.answers.specs.declared.Operation.TheVariants.{Insert, Find, Finish, Take, Sweep}

pub record StandingKey : Type 0 where
  pub key : ℕ
  pub value : ℕ
  pub live : Bool

abbrev pub standing_key : ℕ → ℕ → Bool → StandingKey
standing_key key value live = record { key = key; value = value; live = live }

-- The largest key, how many keys may stand at once and one more (the head), the standing keys in ascending order, the position's key: 0 is the head's.
pub record Book : Type 0 where
  pub largest : ℕ
  pub cells : ℕ
  pub row : List StandingKey
  pub position : ℕ

abbrev pub fresh_book : ℕ → ℕ → Book
fresh_book K C = record { largest = K; cells = C; row = []; position = 0 }

-- the book with other standing keys and another position
abbrev pub with_row : Book → List StandingKey → ℕ → Book
with_row k row position = record { largest = k.largest; cells = k.cells; row = row; position = position }

-- the last key of some standing keys; 0 if there is none
unfoldable pub last_in : List StandingKey → ℕ
last_in [] = 0
last_in (x ∷ []) = x.key
last_in (x ∷ y ∷ row) = last_in (y ∷ row)

-- the next smaller standing key
abbrev pub key_below : ℕ → List StandingKey → ℕ
key_below key row = last_in (those (λ x. ltb x.key key) row)

-- the standing key that is this key
unfoldable pub standing_at : ℕ → List StandingKey → Option StandingKey
standing_at key [] = None
standing_at key (x ∷ row) = cond (eqb x.key key) (Some x) (standing_at key row)

-- Refusal 4: key 0 or above K.
unfoldable pub on_book_key : ℕ → Book → Outcome Book → Outcome Book
on_book_key key k done = cond (is_key k.largest key) done (refused BadKey k)

-- Insert.

-- a standing key put in its place in the order of keys
unfoldable pub put_key : StandingKey → List StandingKey → List StandingKey
put_key x [] = x ∷ []
put_key x (y ∷ row) = cond (leb x.key y.key) (x ∷ y ∷ row) (y ∷ put_key x row)

-- .. and one that stands given another value and mark
unfoldable pub marked : ℕ → ℕ → Bool → List StandingKey → List StandingKey
marked key value live row = map (λ x. cond (eqb x.key key) (standing_key key value live) x) row

-- The operations 2: if the key is at or below the position's, the position becomes the next smaller standing key.
unfoldable pub position_with : ℕ → Book → ℕ
position_with key k = cond (leb key k.position) (key_below key k.row) k.position

-- The operations 2: a dead key is revived; a new one needs room. (What a search looks at is no matter of the book: 0 stands for looked.)
unfoldable pub insert_book : ℕ → ℕ → Book → Option StandingKey → Outcome Book
insert_book key value k None =
    cond (ltb (suc (length k.row)) k.cells)
    (accepted key 0 0 (with_row k (put_key (standing_key key value true) k.row) (position_with key k)))
    (refused (NoFreeCell key 0) k)
insert_book key value k (Some x) =
    cond x.live (refused (KeyLive key 0) k) (accepted key 0 0 (with_row k (marked key value true k.row) (position_with key k)))

-- Find and finish: The operations 3 and 4. (0 stands for looked and for the links moved.)

unfoldable pub find_book : ℕ → Book → Option StandingKey → Outcome Book
find_book key k None = refused (KeyNotLive key 0) k
find_book key k (Some x) = cond x.live (accepted key x.value 0 k) (refused (KeyNotLive key 0) k)

unfoldable pub finish_book : ℕ → Book → Option StandingKey → Outcome Book
finish_book key k None = refused (KeyNotStanding key) k
finish_book key k (Some x) = accepted key 0 0 k

-- Take.

-- the standing keys before the first live one, and those from it on
unfoldable pub dead_before : List StandingKey → List StandingKey
dead_before [] = []
dead_before (x ∷ row) = cond x.live [] (x ∷ dead_before row)

unfoldable pub live_on : List StandingKey → List StandingKey
live_on [] = []
live_on (x ∷ row) = cond x.live (x ∷ row) (live_on row)

-- how many standing keys are above one key, and how many of them up to another
abbrev pub standing_above : ℕ → List StandingKey → ℕ
standing_above low row = length (those (λ x. ltb low x.key) row)

abbrev pub standing_between : ℕ → ℕ → List StandingKey → ℕ
standing_between low high row = length (those (λ x. ltb low x.key && leb x.key high) row)

-- The operations 5: the least live key; it becomes dead with value 0, and the position. The count is passed; refused by 7, the keys above the position.
unfoldable pub take_book : Book → List StandingKey → Outcome Book
take_book k [] = refused (NothingLive (standing_above k.position k.row)) k
take_book k (x ∷ later) =
    accepted x.key x.value (standing_between k.position x.key k.row) (with_row k (marked x.key 0 false k.row) x.key)

-- Sweep.

-- the last standing key alone; none if there is none
unfoldable pub last_only : List StandingKey → List StandingKey
last_only [] = []
last_only (x ∷ []) = x ∷ []
last_only (x ∷ y ∷ row) = last_only (y ∷ row)

-- The operations 6: the last dead key below every live one is kept and becomes the position, and those before it are freed. The count is freed.
unfoldable pub sweep_book : Book → Outcome Book
sweep_book k =
    let dead = dead_before k.row in
    accepted 0 0 (length (drop_last dead)) (with_row k (last_only dead ++ live_on k.row) (last_in dead))

-- What an operation answers and leaves.
unfoldable pub operation_book : Operation → Book → Outcome Book
operation_book (Insert key value) k = on_book_key key k (insert_book key value k (standing_at key k.row))
operation_book (Find key) k = on_book_key key k (find_book key k (standing_at key k.row))
operation_book (Finish key) k = on_book_key key k (finish_book key k (standing_at key k.row))
operation_book Take k = take_book k (live_on k.row)
operation_book Sweep k = sweep_book k
