-- What the sentences say of standing cells, by their keys; and that each of their relations has one answer: no two standing cells
-- have the same key, so the next smaller, the next larger and the least key are each of one cell.
use mathlib.Core.Path.{◌≡◌, refl, sym, ◌∙◌, ap, subst}
use mathlib.Core.Logic.{◌⊎◌, inl, inr}
use mathlib.Core.List.{List}
use Prim.Native.Nat.{ℕ, ◌^◌, ◌<◌}
use native.Mathlib.Decide.{ℕ_discrete, dec_lt}
use native.Mathlib.Omega.{arith}
use Rattle.settings.proofs.Numbers.{base_at_least_two}
use Rattle.meaning.specs.Keys.{coordinate, shared}
use Rattle.meaning.specs.Words.{key_at, mark_at, dimensions_at, cells_at, base_at}
use Rattle.meaning.specs.Sentences.{shared_at, Free, Standing, NextSmaller, NextLarger, Dimension, of_head, of_other, LargerAt, Settled, leads}
use Rattle.meaning.specs.Sentences.{leads_nowhere, below_dimension, AList}
use Rattle.meaning.proofs.Rows.Keys.{shared_agreed, coordinate_less, coordinate_larger}

module _ (ws : List ℕ) (a : AList ws) where
  -- Keys

  pub base_is_positive : 0 < base_at ws
  base_is_positive = let h = base_at_least_two a.largest.0 a.base in omega arith

  pub head_stands : Standing ws 0
  head_stands = record { cell = (let h = a.count.0 in omega arith); mark = inr a.head.1.1 }

  pub free_or_standing : (x : ℕ) → x < cells_at ws → Free ws x ⊎ Standing ws x
  free_or_standing x h = at (ℕ_discrete (mark_at ws x) 0) (ℕ_discrete (mark_at ws x) 1)
    where
      at : Dec (mark_at ws x ≡ 0) → Dec (mark_at ws x ≡ 1) → Free ws x ⊎ Standing ws x
      at (yes e) d = inl (record { cell = h; mark = e })
      at (no ne) (yes e) = inr (record { cell = h; mark = inl e })
      at (no ne) (no nf) = inr (record { cell = h; mark = inr (let m = a.marks x h in omega arith) })

  pub key_below_lem : (x : ℕ) → Standing ws x → key_at ws x < base_at ws ^ dimensions_at ws
  key_below_lem x st = at (ℕ_discrete x 0)
    where
      at : Dec (x ≡ 0) → key_at ws x < base_at ws ^ dimensions_at ws
      at (yes e) = rw e (let h = a.head.0 in let k = a.base.above in omega arith)
      at (no ne) = let h = a.keys x st (omega arith) in let k = a.base.above in omega arith

  pub cell_positive : (x : ℕ) → 0 < key_at ws x → 0 < x
  cell_positive x h = at (ℕ_discrete x 0)
    where
      at : Dec (x ≡ 0) → 0 < x
      at (yes e) = absurd (let k = ap (key_at ws) e ∙ a.head.0 in omega arith)
      at (no ne) = omega arith

  -- the leading coordinates that two standing cells share are those that their keys share
  pub shared_is : (x y : ℕ) → Standing ws x → Standing ws y → shared_at ws x y ≡ shared (base_at ws) (dimensions_at ws) (key_at ws x) (key_at ws y)
  shared_is x y sx sy = sym (shared_agreed (base_at ws) (dimensions_at ws) (key_at ws x) (key_at ws y) base_is_positive (key_below_lem x sx) (key_below_lem y sy))

  -- larger at the first coordinate that is not shared, and larger by the key
  pub larger_key : (x d y : ℕ) → Standing ws x → LargerAt ws x d y → key_at ws x < key_at ws y
  larger_key x d y sx l =
      let shares = sym (shared_is x y sx l.standing) ∙ l.shares in
      coordinate_larger (base_at ws) (dimensions_at ws) (key_at ws x) (key_at ws y) d base_is_positive (key_below_lem x sx) (key_below_lem y l.standing)
      (omega arith) l.larger

  pub larger_at : (x d y : ℕ) → Standing ws x → Standing ws y → key_at ws x < key_at ws y →
      shared (base_at ws) (dimensions_at ws) (key_at ws x) (key_at ws y) ≡ d → LargerAt ws x d y
  larger_at x d y sx sy h e =
      let b = base_at ws in
      let D = dimensions_at ws in
      record {
        standing = sy;
        shares = shared_is x y sx sy ∙ e;
        larger = subst (λ i. coordinate b D (key_at ws x) i < coordinate b D (key_at ws y) i) e
            (coordinate_less b D (key_at ws x) (key_at ws y) base_is_positive (key_below_lem x sx) (key_below_lem y sy) h);
      }

  -- One answer

  pub next_smaller_unique : (x y z : ℕ) → NextSmaller ws x y → NextSmaller ws x z → y ≡ z
  next_smaller_unique x y z p q =
      let h = p.next z q.standing q.smaller in
      let k = q.next y p.standing p.smaller in
      a.distinct y z p.standing q.standing (omega arith)

  pub next_larger_unique : (x y z : ℕ) → NextLarger ws x y → NextLarger ws x z → y ≡ z
  next_larger_unique x y z p q =
      let h = p.next z q.standing q.larger in
      let k = q.next y p.standing p.larger in
      a.distinct y z p.standing q.standing (omega arith)

  -- a cell is the next larger one of one cell
  pub next_larger_of_one : (x y z : ℕ) → Standing ws x → Standing ws y → NextLarger ws x z → NextLarger ws y z → x ≡ y
  next_larger_of_one x y z sx sy p q = a.distinct x y sx sy (at (dec_lt (key_at ws x) (key_at ws y)) (dec_lt (key_at ws y) (key_at ws x)))
    where
      at : Dec (key_at ws x < key_at ws y) → Dec (key_at ws y < key_at ws x) → key_at ws x ≡ key_at ws y
      at (yes h) d = absurd (let k = p.next y sy h in let l = q.larger in omega arith)
      at (no h) (yes k) = absurd (let m = q.next x sx k in let l = p.larger in omega arith)
      at (no h) (no k) = omega arith

  none_below_head : (y : ℕ) → NextSmaller ws 0 y → ⊥
  none_below_head y p = let h = p.smaller in let k = a.head.0 in omega arith

  pub dimension_unique : {x d e : ℕ} → Dimension ws x d → Dimension ws x e → d ≡ e
  dimension_unique of_head of_head = refl
  dimension_unique of_head (of_other {a = z} q) = absurd (none_below_head z q)
  dimension_unique (of_other {a = y} p) of_head = absurd (none_below_head y p)
  dimension_unique (of_other {x = x} {a = y} p) (of_other {a = z} q) = ap (λ i. shared_at ws i x) (next_smaller_unique x y z p q)

  pub settled_unique : {x d y z : ℕ} → Settled ws x d y → Settled ws x d z → y ≡ z
  settled_unique {y = y} {z = z} (leads e h l m) (leads f k n o) =
      let i = m z n in
      let j = o y l in
      a.distinct y z l.standing n.standing (omega arith)
  settled_unique {y = y} (leads e h l m) (leads_nowhere f k never) = absurd (never y l)
  settled_unique (leads e h l m) (below_dimension f k) = absurd (let i = dimension_unique e f in omega arith)
  settled_unique {z = z} (leads_nowhere e h never) (leads f k n o) = absurd (never z n)
  settled_unique (leads_nowhere e h never) (leads_nowhere f k other) = refl
  settled_unique (leads_nowhere e h never) (below_dimension f k) = refl
  settled_unique (below_dimension e h) (leads f k n o) = absurd (let i = dimension_unique e f in omega arith)
  settled_unique (below_dimension e h) (leads_nowhere f k never) = refl
  settled_unique (below_dimension e h) (below_dimension f k) = refl
