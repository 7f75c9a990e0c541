-- The cells of a state: distinct numbers, which with the head are all those below C.
use mathlib.Core.Path.{◌≡◌}
use mathlib.Core.List.{◌∷◌, map}
use Prim.Native.Nat.{ℕ, ◌+◌, ◌-◌, ◌<◌}
use native.Mathlib.Omega.{arith}
use lib.ListN.{length, length-append, length-map}
use Rattle.lists.specs.Lists.{occurrences}
use Rattle.lists.proofs.Counting.{distinct_covers}
use Rattle.lists.proofs.Occurrences.{Distinct, once_distinct, distinct_left, distinct_right}
use Rattle.lists.proofs.All.{All, all_map, all_left, all_right, all_of_map}
use Rattle.meaning.specs.State.{State}
use Rattle.meaning.proofs.Pictures.State.{Sound, cells_in}

-- the head's first
pub cells_distinct : (s : State) → Sound s → Distinct (0 ∷ cells_in s)
cells_distinct s v = (all_map (λ c h e. let p = h.0 in omega arith) (cells_in s) v.range, once_distinct (cells_in s) v.once)

pub row_distinct : (s : State) → Sound s → Distinct (map (λ x. x.cell) s.row)
row_distinct s v = distinct_left (map (λ x. x.cell) s.row) s.free (cells_distinct s v).1

pub free_distinct : (s : State) → Sound s → Distinct s.free
free_distinct s v = distinct_right (map (λ x. x.cell) s.row) s.free (cells_distinct s v).1

pub row_range : (s : State) → Sound s → All (λ x. (0 < x.cell) × (x.cell < s.settings.cells)) s.row
row_range s v =
    all_of_map (λ c. (0 < c) × (c < s.settings.cells)) (λ x. x.cell) s.row
    (all_left (λ c. (0 < c) × (c < s.settings.cells)) (map (λ x. x.cell) s.row) s.free v.range)

pub free_range : (s : State) → Sound s → All (λ c. (0 < c) × (c < s.settings.cells)) s.free
free_range s v = all_right (λ c. (0 < c) × (c < s.settings.cells)) (map (λ x. x.cell) s.row) s.free v.range

pub free_length : (s : State) → Sound s → length s.row + length s.free ≡ s.settings.cells - 1
free_length s v =
    let e = length-append (map (λ x. x.cell) s.row) s.free in
    let m = length-map s.row (λ x. x.cell) in
    let c = v.count in
    omega arith

-- the head, the cells of the row and those of the chain
pub cells_cover : (s : State) → Sound s → (x : ℕ) → x < s.settings.cells → 0 < occurrences x (0 ∷ cells_in s)
cells_cover s v x h =
    let least = v.ranges.cells_least in
    let count = v.count in
    distinct_covers s.settings.cells (0 ∷ cells_in s) (cells_distinct s v) (omega arith, all_map (λ c r. r.1) (cells_in s) v.range) (omega arith) x h
