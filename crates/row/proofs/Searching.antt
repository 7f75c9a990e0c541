-- The search: what a key's place in ascending keys says of them, and the place of the first live key.
use Rattle.std.specs.Prelude.{Option, None, Some}
use mathlib.Core.Path.{◌≡◌, refl, ap}
use mathlib.Core.Bool.{Bool, true, false, cond, ◌&&◌}
use mathlib.Core.List.{List, [], ◌∷◌, ◌++◌, map, drop_last}
use Prim.Native.Nat.{ℕ, zero, suc, ◌≤◌, ◌<◌}
use native.Mathlib.Omega.{arith}
use lib.Dec.{eqb, leb, ltb}
use lib.ListN.{length, get_or, take, drop, set}
use borrow.Author.Tests.{le-ltb, eq-eqb, ne_eqb}
use Rattle.std.proofs.lemmas.Bool.Decides.{nat_tests}
use Rattle.lists.specs.Lists.{those}
use Rattle.lists.proofs.All.{All, all_map}
use Rattle.lists.proofs.Those.{those_none}
use Rattle.book.specs.Book.{StandingKey, standing_key, last_in, standing_at, put_key, marked, dead_before, live_on, standing_above, standing_between, last_only}
use Rattle.row.specs.Row.{ascending, stands}
use Rattle.row.specs.Places.{place_of}

-- Keys in ascending order

pub ascending_first :
    (low K : ℕ) (x : StandingKey) (row : List StandingKey) → ascending low K (x ∷ row) ≡ true →
    (low < x.key) × ((x.key ≤ K) × (ascending x.key K row ≡ true))
unfolding ascending
ascending_first low K x row a = grind (arith, nat_tests)

pub keys_above_lem : (low K : ℕ) (row : List StandingKey) → ascending low K row ≡ true → All (λ x. low < x.key) row
keys_above_lem low K [] a = tt
keys_above_lem low K (x ∷ row) a =
    let t = ascending_first low K x row a in
    (t.0, all_map (λ y h. let p = t.0 in omega arith) row (keys_above_lem x.key K row t.1.1))

pub key_above : (low K : ℕ) (row : List StandingKey) (i : ℕ) (z : StandingKey) → ascending low K row ≡ true → i < length row → low < (get_or row i z).key
key_above low K [] i z a h = absurd (omega arith)
key_above low K (x ∷ row) zero z a h = (ascending_first low K x row a).0
key_above low K (x ∷ row) (suc i) z a h =
    let t = ascending_first low K x row a in
    let first = t.0 in
    let later = key_above x.key K row i z t.1.1 (omega arith) in
    omega arith

-- A key's place

pub place_within : (key : ℕ) (row : List StandingKey) → place_of key row ≤ length row
unfolding place_of
place_within key [] = omega arith
place_within key (x ∷ row) = grind (arith, place_within key row)

pub place_put : (x : StandingKey) (row : List StandingKey) → put_key x row ≡ take (place_of x.key row) row ++ (x ∷ drop (place_of x.key row) row)
unfolding place_of put_key
place_put x [] = refl
place_put x (y ∷ row) = grind (arith, place_put x row)

-- the keys below a key are those before its place
pub place_below : (key low K : ℕ) (row : List StandingKey) → ascending low K row ≡ true → those (λ x. ltb x.key key) row ≡ take (place_of key row) row
unfolding those place_of
place_below key low K [] a = refl
place_below key low K (x ∷ row) a =
    let t = ascending_first low K x row a in
    let above = keys_above_lem x.key K row t.1.1 in
    let more = place_below key x.key K row t.1.1 in
    let None = λ (h : key ≤ x.key). those_none (λ y. ltb y.key key) row (all_map (λ y p. le-ltb y.key key (omega arith)) row above) in
    grind (arith, nat_tests, more, None)

-- the key at its place, if it is this one, is the one that stands; if it is another, none does
pub place_found :
    (key : ℕ) (row : List StandingKey) (z : StandingKey) →
    place_of key row < length row → (get_or row (place_of key row) z).key ≡ key → standing_at key row ≡ Some (get_or row (place_of key row) z)
unfolding place_of standing_at
place_found key [] z h e = absurd (omega arith)
place_found key (x ∷ row) z h e = grind (arith, nat_tests, place_found key row z)

no_later : (key : ℕ) (row : List StandingKey) → All (λ y. key < y.key) row → standing_at key row ≡ None
unfolding standing_at
no_later key [] above = refl
no_later key (y ∷ row) above =
    let h = above.0 in
    grind (arith, nat_tests, no_later key row above.1)

pub place_absent :
    (key low K : ℕ) (row : List StandingKey) (z : StandingKey) → ascending low K row ≡ true →
    (place_of key row < length row → (get_or row (place_of key row) z).key ≡ key → ⊥) → standing_at key row ≡ None
unfolding place_of standing_at
place_absent key low K [] z a other = refl
place_absent key low K (x ∷ row) z a other =
    let t = ascending_first low K x row a in
    let above = keys_above_lem x.key K row t.1.1 in
    let None = λ (h : key < x.key). no_later key row (all_map (λ y p. omega arith) row above) in
    let more = place_absent key x.key K row z t.1.1 in
    grind (arith, nat_tests, None, more, other)

-- that a key stands, by the key that is found
abbrev pub found : Option StandingKey → Bool
found None = false
found (Some x) = true

pub stands_found : (key : ℕ) (row : List StandingKey) → stands key row ≡ found (standing_at key row)
unfolding stands standing_at
stands_found key [] = refl
stands_found key (x ∷ row) = grind (arith, stands_found key row)

-- a key that stands at place i, marked
pub marked_at :
    (low K : ℕ) (row : List StandingKey) (i value : ℕ) (live : Bool) (z : StandingKey) → ascending low K row ≡ true → i < length row →
    marked (get_or row i z).key value live row ≡ set row i (standing_key (get_or row i z).key value live)
unfolding marked
marked_at low K [] i value live z a h = absurd (omega arith)
marked_at low K (x ∷ row) zero value live z a h =
    let t = ascending_first low K x row a in
    rw (eq-eqb x.key x.key refl) (ap (λ (r : List StandingKey). standing_key x.key value live ∷ r) (kept row (keys_above_lem x.key K row t.1.1)))
  where
    kept : (r : List StandingKey) → All (λ y. x.key < y.key) r → map (λ y. cond (eqb y.key x.key) (standing_key x.key value live) y) r ≡ r
    kept [] above = refl
    kept (y ∷ r) above =
        let h = above.0 in
        rw (ne_eqb y.key x.key (λ q. omega arith)) (ap (λ (s : List StandingKey). y ∷ s) (kept r above.1))
marked_at low K (x ∷ row) (suc i) value live z a h =
    let t = ascending_first low K x row a in
    let above = key_above x.key K row i z t.1.1 (omega arith) in
    rw (ne_eqb x.key (get_or row i z).key (λ q. omega arith))
    (ap (λ (r : List StandingKey). x ∷ r) (marked_at x.key K row i value live z t.1.1 (omega arith)))

-- Up to a place

pub last_before : (row : List StandingKey) (j : ℕ) (z : StandingKey) → j < length row → last_in (take (suc j) row) ≡ (get_or row j z).key
unfolding last_in
last_before [] j z h = absurd (omega arith)
last_before (x ∷ row) zero z h = refl
last_before (x ∷ []) (suc j) z h = absurd (omega arith)
last_before (x ∷ y ∷ row) (suc j) z h = last_before (y ∷ row) j z (omega arith)

pub last_kept : (row : List StandingKey) (j : ℕ) → j < length row → last_only (take (suc j) row) ++ drop (suc j) row ≡ drop j row
unfolding last_only
last_kept [] j h = absurd (omega arith)
last_kept (x ∷ row) zero h = refl
last_kept (x ∷ []) (suc j) h = absurd (omega arith)
last_kept (x ∷ y ∷ row) (suc j) h = last_kept (y ∷ row) j (omega arith)

pub others_length : (row : List StandingKey) (j : ℕ) → j < length row → length (drop_last (take (suc j) row)) ≡ j
others_length [] j h = absurd (omega arith)
others_length (x ∷ row) zero h = refl
others_length (x ∷ []) (suc j) h = absurd (omega arith)
others_length (x ∷ y ∷ row) (suc j) h = ap suc (others_length (y ∷ row) j (omega arith))

-- the standing keys up to the one at place i
pub between_up_to :
    (bottom low K : ℕ) (row : List StandingKey) (i : ℕ) (z : StandingKey) → ascending bottom K row ≡ true → i < length row →
    standing_between low (get_or row i z).key row ≡ standing_above low (take (suc i) row)
unfolding those
between_up_to bottom low K [] i z a h = absurd (omega arith)
between_up_to bottom low K (x ∷ row) zero z a h =
    let t = ascending_first bottom K x row a in
    let past : All (λ y. (ltb low y.key && leb y.key x.key) ≡ false) row = all_map (λ y h. grind (arith, nat_tests)) row (keys_above_lem x.key K row t.1.1) in
    rw (those_none (λ y. ltb low y.key && leb y.key x.key) row past) (grind (arith, nat_tests))
between_up_to bottom low K (x ∷ row) (suc i) z a h =
    let t = ascending_first bottom K x row a in
    let above = key_above x.key K row i z t.1.1 (omega arith) in
    let more = between_up_to x.key low K row i z t.1.1 (omega arith) in
    grind (arith, nat_tests)

-- The first live key: the dead ones before it, and what is from it on

pub dead_taken : (row : List StandingKey) → dead_before row ≡ take (length (dead_before row)) row
unfolding dead_before
dead_taken [] = refl
dead_taken (x ∷ row) = grind (arith, dead_taken row)

pub live_dropped : (row : List StandingKey) → live_on row ≡ drop (length (dead_before row)) row
unfolding dead_before live_on
live_dropped [] = refl
live_dropped (x ∷ row) = grind (arith, live_dropped row)

pub dead_within : (row : List StandingKey) → length (dead_before row) ≤ length row
unfolding dead_before
dead_within [] = omega arith
dead_within (x ∷ row) = grind (arith, dead_within row)
