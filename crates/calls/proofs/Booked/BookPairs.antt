-- The live pairs of a book: those of the list that it is of; and a call that keeps them.
use mathlib.Core.Path.{◌≡◌, refl, ap, ap₂, ◌∙◌}
use mathlib.Core.Bool.{Bool, true, false, cond, false≢true}
use mathlib.Core.List.{List, [], ◌∷◌, ◌++◌, map}
use Rattle.lists.specs.Lists.{those}
use Rattle.lists.proofs.All.{All}
use Rattle.lists.proofs.Those.{those_none, those_append}
use Rattle.files.specs.Files.{Pair}
use Rattle.book.specs.Book.{StandingKey, Book, dead_before, live_on, last_only, sweep_book, operation_book}
use Rattle.meaning.specs.Row.{Node}
use Rattle.calls.specs.Pairs.{pair}
use Rattle.calls.specs.Effects.{Effect, keeping, inserting, taking, sweeping, renewing, keeps_pairs}
use Rattle.calls.specs.Book.{standing_key_of, booked_by}

abbrev key_pair : StandingKey → Pair
key_pair x = record { key = x.key; value = x.value }

-- the pairs of the live ones among some standing keys
abbrev pub pairs_among : List StandingKey → List Pair
pairs_among row = map key_pair (those (λ x. x.live) row)

-- .. are those of the nodes that they are of
pub pairs_among_lem : (row : List Node) → map pair (those (λ x. x.live) row) ≡ pairs_among (map standing_key_of row)
unfolding those
pairs_among_lem [] = refl
pairs_among_lem (x ∷ row) = at x.live (pairs_among_lem row)
  where
    nodes : List Node
    nodes = those (λ y. y.live) row

    keys : List StandingKey
    keys = those (λ y. y.live) (map standing_key_of row)

    at : (t : Bool) → map pair nodes ≡ map key_pair keys → map pair (cond t (x ∷ nodes) nodes) ≡ map key_pair (cond t (standing_key_of x ∷ keys) keys)
    at true e = ap (λ (pairs : List Pair). pair x ∷ pairs) e
    at false e = e

-- A sweep keeps the live ones

abbrev Dead : StandingKey → Type 0
Dead x = x.live ≡ false

all_dead : (row : List StandingKey) → All Dead (dead_before row)
unfolding dead_before
all_dead [] = tt
all_dead (x ∷ row) = at x.live refl (all_dead row)
  where
    at : (t : Bool) → x.live ≡ t → All Dead (dead_before row) → All Dead (cond t [] (x ∷ dead_before row))
    at true e more = tt
    at false e more = (e, more)

last_dead : (row : List StandingKey) → All Dead row → All Dead (last_only row)
unfolding last_only
last_dead [] a = tt
last_dead (x ∷ []) a = a
last_dead (x ∷ y ∷ row) a = last_dead (y ∷ row) a.1

live_on_lem : (row : List StandingKey) → those (λ x. x.live) (live_on row) ≡ those (λ x. x.live) row
unfolding live_on those
live_on_lem [] = refl
live_on_lem (x ∷ row) = at x.live refl (live_on_lem row)
  where
    at : (t : Bool) → x.live ≡ t → those (λ y. y.live) (live_on row) ≡ those (λ y. y.live) row →
        those (λ y. y.live) (cond t (x ∷ row) (live_on row)) ≡ cond t (x ∷ those (λ y. y.live) row) (those (λ y. y.live) row)
    at true e more = rw e refl
    at false e more = more

swept_pairs : (row : List StandingKey) → pairs_among (last_only (dead_before row) ++ live_on row) ≡ pairs_among row
swept_pairs row =
    ap (map key_pair) (
    those_append (λ x. x.live) (last_only (dead_before row)) (live_on row)
    ∙ ap₂ (λ (xs ys : List StandingKey). xs ++ ys) (those_none (λ x. x.live) (last_only (dead_before row)) (last_dead (dead_before row) (all_dead row))) (live_on_lem row)
    )

pub pairs_kept_by : (effect : Effect) (k : Book) → keeps_pairs effect ≡ true → pairs_among (booked_by effect k).row ≡ pairs_among k.row
unfolding booked_by operation_book sweep_book
pairs_kept_by keeping k e = refl
pairs_kept_by (inserting key value) k e = absurd (false≢true e)
pairs_kept_by taking k e = absurd (false≢true e)
pairs_kept_by sweeping k e = swept_pairs k.row
pairs_kept_by (renewing largest cells pairs) k e = absurd (false≢true e)
