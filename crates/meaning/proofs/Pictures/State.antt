-- A state in order, as facts: each of the tests of specs/State.antt, read as a statement.
use mathlib.Core.Path.{◌≡◌, refl}
use mathlib.Core.Bool.{Bool, true, false, ◌&&◌, ◌||◌, not}
use mathlib.Core.List.{List, ◌∷◌, ◌++◌, map}
use Prim.Native.Nat.{ℕ, ◌-◌, ◌^◌, ◌≤◌, ◌<◌}
use native.Mathlib.Decide.{dec_lt}
use native.Mathlib.Omega.{arith}
use lib.Dec.{eqb, leb, ltb}
use lib.ListN.{length}
use borrow.Author.Tests.{ltb-true, lt-ltb, leb-true, le-leb, eqb-true, eq-eqb, not-true, not-false}
use Rattle.settings.specs.Numbers.{in_range, base_of}
use Rattle.settings.specs.Base.{IsBase}
use Rattle.settings.proofs.Numbers.{Ranges, ranges, in_range_lem, base_is, base_at_least_two}
use Rattle.lists.specs.Lists.{every, occurrences}
use Rattle.lists.proofs.All.{All, every_all, all_every, all_map}
use Rattle.lists.proofs.Tests.{both, and_both}
use Rattle.meaning.specs.Keys.{shared}
use Rattle.meaning.specs.Row.{first_of, Place, places, Node}
use Rattle.meaning.specs.State.{State, position_key, ascending, debt_holds, settings_hold, keys_hold, cells_hold, values_hold, debts_hold}
use Rattle.meaning.specs.State.{position_holds, tests, valid}
use Rattle.meaning.proofs.Rows.AscendingRow.{Asc, ascending_asc, asc_ascending}

-- the cells of a state that are not the head: standing, then free
abbrev pub cells_in : State → List ℕ
cells_in s = map (λ x. x.cell) s.row ++ s.free

-- a debt that Debts 2 allows
pub record Debt (b D : ℕ) (n : Place) : Type 0 where
  pub later : 0 < length n.later
  pub unowing : (first_of n.later).owes ≡ false
  pub lower : n.dimension < shared b D n.node.key (first_of n.later).key

pub record Sound (s : State) : Type 0 where
  pub ranges : Ranges s.settings.dimensions s.settings.largest s.settings.cells
  pub base : s.settings.base ≡ base_of s.settings.dimensions s.settings.largest
  pub ascends : Asc 0 s.row
  pub keys : All (λ x. x.key ≤ s.settings.largest) s.row
  pub count : length (cells_in s) ≡ s.settings.cells - 1
  pub range : All (λ c. (0 < c) × (c < s.settings.cells)) (cells_in s)
  pub once : All (λ c. occurrences c (cells_in s) ≡ 1) (cells_in s)
  pub values : All (λ x. x.live ≡ false → x.value ≡ 0) s.row
  pub debts : All (λ n. n.node.owes ≡ true → Debt s.settings.base s.settings.dimensions n)
      (places s.settings.base s.settings.dimensions s.row)
  pub position : 0 < occurrences s.position (0 ∷ map (λ x. x.cell) s.row)
  pub dead : All (λ x. x.key ≤ position_key s → x.live ≡ false) s.row

-- A test that is an alternative

or_else : (t u : Bool) → (t || u) ≡ true → t ≡ false → u ≡ true
or_else true u e f = absurd (let z : ◌≡◌ {A = ℕ} 0 1 = cc in omega arith)
or_else false u e f = e

or_from : (t u : Bool) → (t ≡ false → u ≡ true) → (t || u) ≡ true
or_from true u f = refl
or_from false u f = f refl

not_of : (t u : Bool) → t ≡ u → not t ≡ not u
not_of t u e = rw e refl

-- What a test tells of each member, told of all, and back

facts : {A : Type 0} {P : A → Type 0} (test : A → Bool) → ((x : A) → test x ≡ true → P x) → (xs : List A) → every test xs ≡ true → All P xs
facts test f xs e = all_map f xs (every_all test xs e)

passed : {A : Type 0} {P : A → Type 0} (test : A → Bool) → ((x : A) → P x → test x ≡ true) → (xs : List A) → All P xs → every test xs ≡ true
passed test f xs a = all_every test xs (all_map f xs a)

-- The test of one member, as a fact, and back

debt_fact : (b D : ℕ) (n : Place) → debt_holds b D n ≡ true → n.node.owes ≡ true → Debt b D n
unfolding debt_holds
debt_fact b D n e o =
    let later = ltb 0 (length n.later) in
    let unowing = not (first_of n.later).owes in
    let lower = ltb n.dimension (shared b D n.node.key (first_of n.later).key) in
    let t = both (later && unowing) lower (or_else (not n.node.owes) (later && unowing && lower) e (not_of n.node.owes true o)) in
    let u = both later unowing t.0 in
    record {
      later = ltb-true 0 (length n.later) u.0;
      unowing = not-true (first_of n.later).owes u.1;
      lower = ltb-true n.dimension (shared b D n.node.key (first_of n.later).key) t.1;
    }

debt_test : (b D : ℕ) (n : Place) → (n.node.owes ≡ true → Debt b D n) → debt_holds b D n ≡ true
unfolding debt_holds
debt_test b D n f =
    let later = ltb 0 (length n.later) in
    let unowing = not (first_of n.later).owes in
    let lower = ltb n.dimension (shared b D n.node.key (first_of n.later).key) in
    or_from (not n.node.owes) (later && unowing && lower) (λ e.
    let d = f (not-false n.node.owes e) in
    and_both (later && unowing) lower
    (and_both later unowing (lt-ltb 0 (length n.later) d.later) (not_of (first_of n.later).owes false d.unowing))
    (lt-ltb n.dimension (shared b D n.node.key (first_of n.later).key) d.lower))

dead_fact : (position key : ℕ) (live : Bool) → (not live || ltb position key) ≡ true → key ≤ position → live ≡ false
dead_fact position key true e h = absurd (let t = ltb-true position key e in omega arith)
dead_fact position key false e h = refl

dead_test : (position key : ℕ) (live : Bool) → (key ≤ position → live ≡ false) → (not live || ltb position key) ≡ true
dead_test position key true f = at (dec_lt position key)
  where
    at : Dec (position < key) → ltb position key ≡ true
    at (yes h) = lt-ltb position key h
    at (no h) = absurd (let e = f (omega arith) in let z : ◌≡◌ {A = ℕ} 0 1 = cc in omega arith)
dead_test position key false f = refl

range_fact : (C c : ℕ) → (ltb 0 c && ltb c C) ≡ true → (0 < c) × (c < C)
range_fact C c e = let t = both (ltb 0 c) (ltb c C) e in (ltb-true 0 c t.0, ltb-true c C t.1)

range_test : (C c : ℕ) → (0 < c) × (c < C) → (ltb 0 c && ltb c C) ≡ true
range_test C c h = and_both (ltb 0 c) (ltb c C) (lt-ltb 0 c h.0) (lt-ltb c C h.1)

-- All tests

module _ (s : State) where
  abbrev b : ℕ
  b = s.settings.base

  abbrev D : ℕ
  D = s.settings.dimensions

  abbrev K : ℕ
  K = s.settings.largest

  abbrev C : ℕ
  C = s.settings.cells

  abbrev row : List Node
  row = s.row

  -- a cell's number is another than the head's, and below C
  abbrev inside : ℕ → Bool
  inside c = ltb 0 c && ltb c C

  -- a number is that of one cell
  abbrev single : ℕ → Bool
  single c = eqb (occurrences c (cells_in s)) 1

  -- how often the position stands
  abbrev stands : ℕ
  stands = occurrences s.position (0 ∷ map (λ x. x.cell) row)

  pub valid_sound : valid s ≡ true → Sound s
  unfolding tests valid
  valid_sound e =
      let holds = every_all (λ t. t) (tests s) e in
      let settings = both (in_range D K C) (eqb b (base_of D K)) holds.0 in
      let r = ranges D K C settings.0 in
      let keys = both (ascending 0 row) (every (λ x. leb x.key K) row) holds.1.0 in
      let cells = both (eqb (length (cells_in s)) (C - 1) && every inside (cells_in s)) (every single (cells_in s)) holds.1.1.0 in
      let counted = both (eqb (length (cells_in s)) (C - 1)) (every inside (cells_in s)) cells.0 in
      let position = both (ltb 0 stands) (every (λ x. not x.live || ltb (position_key s) x.key) row) holds.1.1.1.1.1.0 in
      record {
        ranges = r;
        base = eqb-true b (base_of D K) settings.1;
        ascends = ascending_asc 0 row keys.0;
        keys = facts {P = λ x. x.key ≤ K} (λ x. leb x.key K) (λ x. leb-true x.key K) row keys.1;
        count = eqb-true (length (cells_in s)) (C - 1) counted.0;
        range = facts {P = λ c. (0 < c) × (c < C)} inside (range_fact C) (cells_in s) counted.1;
        once = facts single (λ c. eqb-true (occurrences c (cells_in s)) 1) (cells_in s) cells.1;
        values =
            facts (λ x. x.live || eqb x.value 0) (λ x h f. eqb-true x.value 0 (or_else x.live (eqb x.value 0) h f))
            row holds.1.1.1.0;
        debts = facts (debt_holds b D) (debt_fact b D) (places b D row) holds.1.1.1.1.0;
        position = ltb-true 0 stands position.0;
        dead =
            facts {P = λ x. x.key ≤ position_key s → x.live ≡ false} (λ x. not x.live || ltb (position_key s) x.key)
            (λ x. dead_fact (position_key s) x.key x.live) row position.1;
      }

  pub sound_valid : Sound s → valid s ≡ true
  unfolding tests valid
  sound_valid v =
      let settings : settings_hold s ≡ true =
      and_both (in_range D K C) (eqb b (base_of D K)) (in_range_lem D K C v.ranges) (eq-eqb b (base_of D K) v.base) in
      let keys : keys_hold s ≡ true =
      and_both (ascending 0 row) (every (λ x. leb x.key K) row)
      (asc_ascending 0 row v.ascends)
      (passed (λ x. leb x.key K) (λ x. le-leb x.key K) row v.keys) in
      let cells : cells_hold s ≡ true =
      and_both (eqb (length (cells_in s)) (C - 1) && every inside (cells_in s)) (every single (cells_in s))
      (and_both (eqb (length (cells_in s)) (C - 1)) (every inside (cells_in s))
      (eq-eqb (length (cells_in s)) (C - 1) v.count)
      (passed inside (range_test C) (cells_in s) v.range))
      (passed single (λ c. eq-eqb (occurrences c (cells_in s)) 1) (cells_in s) v.once) in
      let values : values_hold s ≡ true =
      passed (λ x. x.live || eqb x.value 0) (λ x f. or_from x.live (eqb x.value 0) (λ h. eq-eqb x.value 0 (f h)))
      row v.values in
      let debts : debts_hold s ≡ true = passed (debt_holds b D) (debt_test b D) (places b D row) v.debts in
      let position : position_holds s ≡ true =
      and_both (ltb 0 stands) (every (λ x. not x.live || ltb (position_key s) x.key) row)
      (lt-ltb 0 stands v.position)
      (passed {P = λ x. x.key ≤ position_key s → x.live ≡ false} (λ x. not x.live || ltb (position_key s) x.key)
      (λ x. dead_test (position_key s) x.key x.live) row v.dead) in
      all_every (λ t. t) (tests s) (settings, (keys, (cells, (values, (debts, (position, tt))))))

-- The base

pub base_of_lem : (s : State) → Sound s → IsBase s.settings.dimensions s.settings.largest s.settings.base
base_of_lem s v = rw v.base (base_is s.settings.dimensions s.settings.largest (let h = v.ranges.dimensions_least in omega arith))

pub base_positive : (s : State) → Sound s → 0 < s.settings.base
base_positive s v = let h = base_at_least_two v.ranges.largest_least (base_of_lem s v) in omega arith

pub base_above : (s : State) → Sound s → s.settings.largest < s.settings.base ^ s.settings.dimensions
base_above s v = (base_of_lem s v).above
