-- The live keys of a list ascend, so the least of those of a class is the first of them.
use mathlib.Core.Path.{◌≡◌, refl, ap, ◌∙◌}
use mathlib.Core.Bool.{Bool, true, false, cond}
use mathlib.Core.List.{List, [], ◌∷◌, map}
use Prim.Native.Nat.{ℕ, ◌≤◌, ◌<◌}
use native.Mathlib.Decide.{ℕ_discrete}
use native.Mathlib.Omega.{arith}
use lib.Dec.{eqb}
use Rattle.lists.specs.Lists.{those, occurrences, first_number}
use Rattle.meaning.specs.Row.{Node}
use Rattle.meaning.specs.Reading.{read, is_list}
use Rattle.meaning.proofs.Rows.AscendingRow.{Asc}
use Rattle.meaning.proofs.Rows.AscendingKeys.{Rising, member_here, member_past, member_above}
use Rattle.meaning.proofs.Outcomes.{on_read_lists}
use Rattle.classes.specs.Classes.{class_of, live_keys_in, live_keys, keys_in, lesser, least_of}
use Rattle.classes.proofs.Classes.{lesser_alone, lesser_first}

-- what rises from a number rises from a lesser one
rising_from : (low high : ℕ) (keys : List ℕ) → low ≤ high → Rising high keys → Rising low keys
rising_from low high [] h r = tt
rising_from low high (k ∷ keys) h r = (let l = r.0 in omega arith, r.1)

-- of keys that rise, those that pass a test rise
rising_those : (test : ℕ → Bool) (low : ℕ) (keys : List ℕ) → Rising low keys → Rising low (those test keys)
unfolding those
rising_those test low [] r = tt
rising_those test low (k ∷ keys) r = at (test k) (rising_those test k keys r.1)
  where
    at : (t : Bool) → Rising k (those test keys) → Rising low (cond t (k ∷ those test keys) (those test keys))
    at true more = (r.0, more)
    at false more = rising_from low k (those test keys) (let l = r.0 in omega arith) more

lives_rising : (low : ℕ) (row : List Node) → Asc low row → Rising low (live_keys_in row)
unfolding those
lives_rising low [] a = tt
lives_rising low (x ∷ row) a = at x.live (lives_rising x.key row a.1)
  where
    at : (t : Bool) → Rising x.key (live_keys_in row) →
        Rising low (map (λ y. y.key) (cond t (x ∷ those (λ y. y.live) row) (those (λ y. y.live) row)))
    at true more = (a.0, more)
    at false more = rising_from low x.key (live_keys_in row) (let l = a.0 in omega arith) more

-- the live keys of a class rise from 0
class_rising : (ws : List ℕ) → is_list ws ≡ true → (class : ℕ) → Rising 0 (keys_in class (live_keys ws))
class_rising ws list class =
    rising_those (λ key. eqb (class_of key) class) 0 (live_keys ws)
    (lives_rising 0 (read ws).row (on_read_lists (λ s us. Asc 0 s.row) (λ s v. v.ascends) ws list))

least_first : (low : ℕ) (keys : List ℕ) → Rising low keys → least_of keys ≡ first_number keys
unfolding least_of
least_first low [] r = refl
least_first low (k ∷ []) r = lesser_alone k
least_first low (k ∷ j ∷ keys) r =
    ap (lesser k) (least_first k (j ∷ keys) r.1) ∙ lesser_first k j (let h = r.0 in omega arith) (let h = r.1.0 in omega arith)

-- .. which is one of them, and no other is less
least_of_rising : (low : ℕ) (keys : List ℕ) → Rising low keys → (key : ℕ) → 0 < occurrences key keys → (least_of keys ≤ key) × (0 < occurrences (least_of keys) keys)
least_of_rising low [] r key h = absurd (none h)
  where
    none : 0 < occurrences key [] → ⊥
    none l = unfold occurrences in omega arith
least_of_rising low (k ∷ keys) r key h = rw (least_first low (k ∷ keys) r) (at (ℕ_discrete k key), member_here k keys)
  where
    at : Dec (k ≡ key) → k ≤ key
    at (yes e) = omega arith
    at (no ne) = let m = member_above k key keys r.1 (member_past key k keys ne h) in omega arith

pub least_is_least : (ws : List ℕ) → is_list ws ≡ true → (class key : ℕ) → 0 < occurrences key (keys_in class (live_keys ws)) →
    (least_of (keys_in class (live_keys ws)) ≤ key) × (0 < occurrences (least_of (keys_in class (live_keys ws))) (keys_in class (live_keys ws)))
least_is_least ws list class = least_of_rising 0 (keys_in class (live_keys ws)) (class_rising ws list class)
