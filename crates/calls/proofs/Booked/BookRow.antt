-- What a book tells of a row, and what each change of a row does to it: the definitions of the book go over the standing keys as those of the list go
-- over the nodes. A node changed by its cell is a standing key changed by its key, for a key has one cell. And the live pairs of a row.
use Rattle.std.specs.Prelude.{Option, None, Some}
use mathlib.Core.Path.{◌≡◌, refl, sym, ◌∙◌, ap, ap₂, subst}
use mathlib.Core.Bool.{Bool, true, false, cond, ◌&&◌}
use mathlib.Core.List.{List, [], ◌∷◌, ◌++◌, map, drop_last, map-append}
use Prim.Native.Nat.{ℕ, suc, ◌+◌}
use native.Mathlib.Omega.{arith}
use lib.Dec.{eqb, leb, ltb}
use lib.ListN.{length, length-map}
use borrow.Author.Tests.{eq-eqb, ne_eqb, eqb-true}
use Rattle.lists.specs.Lists.{those, occurrences}
use Rattle.lists.proofs.Those.{those_map}
use Rattle.lists.proofs.Occurrences.{occurrences_none}
use Rattle.lists.proofs.All.{All, all_zip, all_append, all_of_map}
use Rattle.book.specs.Book.{StandingKey, standing_key, last_in, key_below, standing_at, put_key, marked, dead_before, live_on, standing_above}
use Rattle.book.specs.Book.{standing_between, last_only}
use Rattle.meaning.specs.Row.{Node, head_node, last_of, node_at, put, smaller_than}
use Rattle.meaning.specs.State.{State, key_of, position_key}
use Rattle.meaning.specs.Operations.{paid, finished, dead_front, from_live, last_alone, keys_above, keys_passed}
use Rattle.files.specs.Files.{Pair}
use Rattle.calls.specs.Pairs.{pair}
use Rattle.calls.specs.Book.{standing_key_of}
use Rattle.meaning.proofs.Rows.AscendingRow.{Asc}
use Rattle.meaning.proofs.Pictures.State.{Sound}
use Rattle.meaning.proofs.Pictures.StateCells.{free_length}
use Rattle.meaning.proofs.Rows.Places.{asc_smaller, asc_larger, on_cell, on_cell-cases, last_from}
use Rattle.meaning.proofs.Rows.Parent.{Apart}
use Rattle.meaning.proofs.Kept.KeepsState.{cell_alone, row_split, dead_front-dead, from_live-live}
use Rattle.meaning.proofs.Kept.KeepsInsert.{last_key_of}
use Rattle.meaning.proofs.Kept.Slot.{sound_apart}

-- what a book tells of the nodes of a row
abbrev pub standing_in : List Node → List StandingKey
standing_in row = map standing_key_of row

-- .. and of the node with a key
abbrev pub told : Option Node → Option StandingKey
told None = None
told (Some x) = Some (standing_key_of x)

pub standing_at_lem : (key : ℕ) (row : List Node) → standing_at key (standing_in row) ≡ told (node_at key row)
unfolding standing_at node_at
standing_at_lem key [] = refl
standing_at_lem key (x ∷ row) = at (eqb x.key key) (standing_at_lem key row)
  where
    at : (t : Bool) → standing_at key (standing_in row) ≡ told (node_at key row) →
        cond t (Some (standing_key_of x)) (standing_at key (standing_in row)) ≡ told (cond t (Some x) (node_at key row))
    at true more = refl
    at false more = more

-- a node put in its place
pub standing_put : (x : Node) (row : List Node) → standing_in (put x row) ≡ put_key (standing_key_of x) (standing_in row)
unfolding put put_key
standing_put x [] = refl
standing_put x (y ∷ row) = at (leb x.key y.key) (standing_put x row)
  where
    at : (t : Bool) → standing_in (put x row) ≡ put_key (standing_key_of x) (standing_in row) →
        standing_in (cond t (x ∷ y ∷ row) (y ∷ put x row))
        ≡ cond t (standing_key_of x ∷ standing_key_of y ∷ standing_in row) (standing_key_of y ∷ put_key (standing_key_of x) (standing_in row))
    at true more = refl
    at false more = ap {B = List StandingKey} (λ r. standing_key_of y ∷ r) more

-- a change of nodes of which a book tells nothing, as finishing is
pub standing_same : (f : Node → Node) → ((x : Node) → standing_key_of (f x) ≡ standing_key_of x) → (row : List Node) → standing_in (map f row) ≡ standing_in row
standing_same f same [] = refl
standing_same f same (x ∷ row) = ap₂ {C = List StandingKey} (λ y r. y ∷ r) (same x) (standing_same f same row)

pub standing_finished : (c : ℕ) (row : List Node) → standing_in (finished c row) ≡ standing_in row
unfolding finished
standing_finished c row =
    standing_same (on_cell c paid) (λ x. on_cell-cases (λ y. standing_key_of y ≡ standing_key_of x) c paid x (λ here. refl) (λ other. refl)) row

-- One cell changed

unchanged : (c : ℕ) (f : Node → Node) (row : List Node) → All (λ x. c ≡ x.cell → ⊥) row → map (on_cell c f) row ≡ row
unchanged c f [] a = refl
unchanged c f (x ∷ row) a = rw (ne_eqb x.cell c (λ q. a.0 (sym q))) (ap {B = List Node} (λ r. x ∷ r) (unchanged c f row a.1))

-- the other nodes have other cells
other_cells : (s : State) → Sound s → (front : List Node) (x : Node) (later : List Node) → s.row ≡ front ++ (x ∷ later) →
    All (λ y. x.cell ≡ y.cell → ⊥) front × All (λ y. x.cell ≡ y.cell → ⊥) later
other_cells s v front x later split =
    let alone = cell_alone s v front x later split in
    let others : (row : List Node) → occurrences x.cell (map (λ y. y.cell) row) ≡ 0 → All (λ y. x.cell ≡ y.cell → ⊥) row =
    λ row e. all_of_map (λ c. x.cell ≡ c → ⊥) (λ y. y.cell) row (occurrences_none x.cell (map (λ y. y.cell) row) e) in
    (others front alone.not_front, others later alone.not_later)

-- a change of one cell changes its node alone
pub changed_alone : (s : State) → Sound s → (front : List Node) (x : Node) (later : List Node) → s.row ≡ front ++ (x ∷ later) → (f : Node → Node) →
    map (on_cell x.cell f) s.row ≡ front ++ (f x ∷ later)
changed_alone s v front x later split f =
    let (before, after) = other_cells s v front x later split in
    ap (map (on_cell x.cell f)) split
    ∙ map-append (on_cell x.cell f) front (x ∷ later)
    ∙ ap₂ (λ pre post. pre ++ (on_cell x.cell f x ∷ post)) (unchanged x.cell f front before) (unchanged x.cell f later after)
    ∙ ap (λ t. front ++ (cond t (f x) x ∷ later)) (eq-eqb x.cell x.cell refl)

-- a node has the cell of x exactly if it has the key of x
abbrev Same : Node → Node → Type 0
Same x y = eqb y.cell x.cell ≡ eqb y.key x.key

cell_by_key : (s : State) → Sound s → (front : List Node) (x : Node) (later : List Node) → s.row ≡ front ++ (x ∷ later) → All (Same x) s.row
cell_by_key s v front x later split =
    let (before, after) = other_cells s v front x later split in
    let up : Asc 0 (front ++ (x ∷ later)) = subst (Asc 0) split v.ascends in
    subst (All (Same x)) (sym split)
    (all_append (Same x) front (x ∷ later) (all_zip (λ y other h. differ y other (λ q. omega arith)) front before (asc_smaller 0 front x later up)) (
      eq-eqb x.cell x.cell refl ∙ sym (eq-eqb x.key x.key refl),
      all_zip (λ y other h. differ y other (λ q. omega arith)) later after (asc_larger 0 front x later up),
    ))
  where
    differ : (y : Node) → (x.cell ≡ y.cell → ⊥) → (y.key ≡ x.key → ⊥) → Same x y
    differ y cell key = ne_eqb y.cell x.cell (λ q. cell (sym q)) ∙ sym (ne_eqb y.key x.key key)

-- so a change of its node's value and mark is one of its key's
pub standing_marked : (s : State) → Sound s → (front : List Node) (x : Node) (later : List Node) → s.row ≡ front ++ (x ∷ later) →
    (f : Node → Node) (value : ℕ) (live : Bool) → ((y : Node) → standing_key_of (f y) ≡ standing_key y.key value live) →
    standing_in (map (on_cell x.cell f) s.row) ≡ marked x.key value live (standing_in s.row)
unfolding marked
standing_marked s v front x later split f value live change = each s.row (cell_by_key s v front x later split)
  where
    one : (y : Node) (t : Bool) → eqb y.key x.key ≡ t → standing_key_of (cond t (f y) y) ≡ cond t (standing_key x.key value live) (standing_key_of y)
    one y true e = change y ∙ ap (λ key. standing_key key value live) (eqb-true y.key x.key e)
    one y false e = refl

    each : (row : List Node) → All (Same x) row →
        standing_in (map (on_cell x.cell f) row) ≡ map (λ y. cond (eqb y.key x.key) (standing_key x.key value live) y) (standing_in row)
    each [] a = refl
    each (y ∷ row) a =
        ap₂ {C = List StandingKey} (λ z r. z ∷ r) (ap (λ t. standing_key_of (cond t (f y) y)) a.0 ∙ one y (eqb y.key x.key) refl) (each row a.1)

-- Dead and live

pub standing_dead : (row : List Node) → dead_before (standing_in row) ≡ standing_in (dead_front row)
unfolding dead_before dead_front
standing_dead [] = refl
standing_dead (x ∷ row) = at x.live (standing_dead row)
  where
    at : (t : Bool) → dead_before (standing_in row) ≡ standing_in (dead_front row) →
        cond t [] (standing_key_of x ∷ dead_before (standing_in row)) ≡ standing_in (cond t [] (x ∷ dead_front row))
    at true more = refl
    at false more = ap {B = List StandingKey} (λ r. standing_key_of x ∷ r) more

pub standing_live : (row : List Node) → live_on (standing_in row) ≡ standing_in (from_live row)
unfolding live_on from_live
standing_live [] = refl
standing_live (x ∷ row) = at x.live (standing_live row)
  where
    at : (t : Bool) → live_on (standing_in row) ≡ standing_in (from_live row) →
        cond t (standing_key_of x ∷ standing_in row) (live_on (standing_in row)) ≡ standing_in (cond t (x ∷ row) (from_live row))
    at true more = refl
    at false more = more

-- The last

pub standing_last : (row : List Node) → last_only (standing_in row) ≡ standing_in (last_alone row)
unfolding last_only last_alone
standing_last [] = refl
standing_last (x ∷ []) = refl
standing_last (x ∷ y ∷ row) = standing_last (y ∷ row)

pub standing_but_last : (row : List Node) → length (drop_last (standing_in row)) ≡ length (drop_last row)
standing_but_last [] = refl
standing_but_last (x ∷ []) = refl
standing_but_last (x ∷ y ∷ row) = ap suc (standing_but_last (y ∷ row))

pub last_key_lem : (row : List Node) → last_in (standing_in row) ≡ (last_of row).key
unfolding last_in last_of
last_key_lem [] = refl
last_key_lem (x ∷ []) = refl
last_key_lem (x ∷ y ∷ row) = last_key_lem (y ∷ row)

pub key_below_lem : (key : ℕ) (row : List Node) → key_below key (standing_in row) ≡ (smaller_than key row).key
key_below_lem key row =
    let test : StandingKey → Bool = λ x. ltb x.key key in
    ap last_in (those_map standing_key_of test row) ∙ last_key_lem (those (λ x. ltb x.key key) row)

-- Counted

counted : (test : StandingKey → Bool) (row : List Node) → length (those test (standing_in row)) ≡ length (those (λ x. test (standing_key_of x)) row)
counted test row =
    ap (λ (r : List StandingKey). length r) (those_map standing_key_of test row) ∙ length-map (those (λ x. test (standing_key_of x)) row) standing_key_of

pub keys_above_lem : (low : ℕ) (row : List Node) → standing_above low (standing_in row) ≡ keys_above low row
unfolding keys_above
keys_above_lem low row = counted (λ x. ltb low x.key) row

pub keys_passed_lem : (low high : ℕ) (row : List Node) → standing_between low high (standing_in row) ≡ keys_passed low high row
unfolding keys_passed
keys_passed_lem low high row = counted (λ x. ltb low x.key && leb x.key high) row

-- as many standing keys are live as there are live pairs
pub pairs_counted : (row : List Node) → length (those (λ x. x.live) (standing_in row)) ≡ length (map pair (those (λ x. x.live) row))
pairs_counted row = counted (λ x. x.live) row ∙ sym (length-map (those (λ x. x.live) row) pair)

-- the standing keys leave as many cells as are free
pub room : (s : State) → Sound s → suc (length (standing_in s.row) + length s.free) ≡ s.settings.cells
room s v =
    let e = free_length s v in
    let n = length-map s.row standing_key_of in
    let least = v.ranges.cells_least in
    omega arith

-- The position

-- the key of a position on the last of the nodes in front, or on the head
pub position_last : (t : State) → Sound t → (front rest : List Node) → t.row ≡ front ++ rest → t.position ≡ (last_from head_node front).cell →
    position_key t ≡ (last_from head_node front).key
position_last t v front rest split there =
    ap₂ (λ c r. key_of c (head_node ∷ r)) there split ∙ last_key_of head_node front rest (subst (λ r. Apart (head_node ∷ r)) split (sound_apart t v))

-- Live pairs

-- the live pairs of a row
abbrev pub pairs_in : List Node → List Pair
pairs_in row = map pair (those (λ x. x.live) row)

pub pairs_live : (x : Node) (row : List Node) → x.live ≡ true → pairs_in (x ∷ row) ≡ pair x ∷ pairs_in row
unfolding those
pairs_live x row e = ap (λ t. map pair (cond t (x ∷ those (λ y. y.live) row) (those (λ y. y.live) row))) e

pub pairs_dead : (x : Node) (row : List Node) → x.live ≡ false → pairs_in (x ∷ row) ≡ pairs_in row
unfolding those
pairs_dead x row e = ap (λ t. map pair (cond t (x ∷ those (λ y. y.live) row) (those (λ y. y.live) row))) e

-- dead nodes in front make no pairs
pub pairs_past : (front row : List Node) → All (λ x. x.live ≡ false) front → pairs_in (front ++ row) ≡ pairs_in row
pairs_past [] row a = refl
pairs_past (x ∷ front) row a = pairs_dead x (front ++ row) a.0 ∙ pairs_past front row a.1

pub pairs_from_live : (row : List Node) → pairs_in row ≡ pairs_in (from_live row)
pairs_from_live row = ap pairs_in (sym (row_split row)) ∙ pairs_past (dead_front row) (from_live row) (dead_front-dead row)

pub pairs_empty : (row : List Node) → from_live row ≡ [] → pairs_in row ≡ []
unfolding those
pairs_empty row e = pairs_from_live row ∙ ap pairs_in e

pub pairs_first : (row : List Node) (x : Node) (later : List Node) → from_live row ≡ x ∷ later → pairs_in row ≡ pair x ∷ pairs_in later
pairs_first row x later e = pairs_from_live row ∙ ap pairs_in e ∙ pairs_live x later (from_live-live row x later e)
