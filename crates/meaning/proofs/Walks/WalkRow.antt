-- The walk over a row, step by step. What it passes over shares more with the cell at hand than k does, so it lies below k and is not met;
-- and each move raises the coordinate at hand. So it goes to exactly the nodes met, and to at most D(b-1) of them.
use mathlib.Core.Path.{◌≡◌, refl, ◌∙◌, sym, ap}
use mathlib.Core.Bool.{Bool, true, false, cond}
use mathlib.Core.Logic.{◌⊎◌, inl, inr}
use mathlib.Core.List.{List, [], ◌∷◌, map}
use Prim.Native.Nat.{ℕ, suc, ◌+◌, ◌*◌, ◌-◌, ◌^◌, ◌≤◌, ◌<◌, min}
use native.Mathlib.Decide.{dec_le, ℕ_discrete}
use native.Mathlib.Nat.{mul-le-mul_right}
use native.Mathlib.Omega.{arith}
use lib.Dec.{eqb}
use lib.ListN.{length}
use borrow.Author.Tests.{lt-ltb, eq-eqb, ne_eqb}
use Rattle.lists.proofs.Occurrences.{Distinct}
use Rattle.lists.proofs.All.{All, all_map, all_of_map, all_mapped}
use Rattle.meaning.specs.Keys.{coordinate, shared}
use Rattle.meaning.specs.Row.{Node, first_sharing, Place, places_after}
use Rattle.meaning.specs.Walk.{gone_to, ends}
use Rattle.meaning.specs.declared.Step.{Step}
use Rattle.meaning.specs.declared.Step.TheVariants.{Go, Up, End}
use Rattle.meaning.proofs.Rows.AscendingRow.{Asc, asc_above}
use Rattle.meaning.proofs.Rows.Keys.{shared_same, shared_less, ultra, coordinate_below, coordinate_less}
use Rattle.meaning.proofs.Walks.Rule.{meets, met, none_met}
use Rattle.meaning.proofs.Rows.Parent.{sharing_behind}

-- The nodes met are nodes of the row, in its order.

pub met_all : (P : Node → Type 0) (b D k a : ℕ) (row : List Node) → All P row → All P (met b D k a row)
unfolding met
met_all P b D k a [] h = tt
met_all P b D k a (x ∷ row) h = go (meets b D k a x.key) (met_all P b D k x.key row h.1)
  where
    go : (t : Bool) → All P (met b D k x.key row) → All P (cond t (x ∷ met b D k x.key row) (met b D k x.key row))
    go true more = (h.0, more)
    go false more = more

-- each at most once, if no cell is twice in the row
pub met_distinct : (b D k a : ℕ) (row : List Node) → Distinct (map (λ x. x.cell) row) → Distinct (map (λ x. x.cell) (met b D k a row))
unfolding met
met_distinct b D k a [] h = tt
met_distinct b D k a (x ∷ row) h = go (meets b D k a x.key) (met_distinct b D k x.key row h.1)
  where
    others : List Node
    others = met b D k x.key row

    go : (t : Bool) → Distinct (map (λ z. z.cell) others) → Distinct (map (λ z. z.cell) (cond t (x ∷ others) others))
    go true more =
        let apart = all_of_map (λ c. x.cell ≡ c → ⊥) (λ z. z.cell) row h.0 in
        (all_mapped (λ c. x.cell ≡ c → ⊥) (λ z. z.cell) others (met_all (λ z. x.cell ≡ z.cell → ⊥) b D k x.key row apart), more)
    go false more = more

-- Where the walk goes from x, past all up to a: the place of the node that link d leads to, d being what x and k share. What holds of all
-- later places holds of it and of those after it.
pub record Next (b D k x a : ℕ) (later : List Node) (R : Place → Type 0) : Type 0 where
  pub to : Place
  pub leads : first_sharing b D x (shared b D x k) later ≡ to.node.cell
  pub gone : met b D k a later ≡ to.node ∷ met b D k to.node.key to.later
  pub above : x < to.node.key
  pub shares : shared b D x to.node.key ≡ shared b D x k
  pub dimension : to.dimension ≡ shared b D x k
  pub holds : R to
  pub after : All R (places_after b D to.node to.dimension to.later)
  pub ascends : Asc to.node.key to.later
  pub passed : All (λ y. y.key < to.node.key → shared b D x k < shared b D x y.key) later

-- Or there is no link, and the walk ends.
pub record Stop (b D k x a : ℕ) (later : List Node) : Type 0 where
  pub leads : first_sharing b D x (shared b D x k) later ≡ 0
  pub gone : met b D k a later ≡ []
  pub passed : All (λ y. y.key ≤ k → shared b D x k < shared b D x y.key) later

-- so it is from a place
abbrev pub NextOf : ℕ → ℕ → ℕ → (Place → Type 0) → Place → Type 0
NextOf b D k R p = Next b D k p.node.key p.node.key p.later R

abbrev pub StopAt : ℕ → ℕ → ℕ → Place → Type 0
StopAt b D k p = Stop b D k p.node.key p.node.key p.later

module _ (b D k : ℕ) (pos : 0 < b) (some : 0 < D) where
  -- where all up to a share more with x than k does, the node after a is met exactly if it shares with x just what k does
  meets_as : (x a y : ℕ) → x ≤ a → a < k → a < y → shared b D x k < shared b D x a → meets b D k a y ≡ eqb (shared b D x y) (shared b D x k)
  meets_as x a y h l m near =
      go (ultra b D x a k pos h (omega arith)) (ultra b D x a y pos h (omega arith)) (ℕ_discrete (shared b D x y) (shared b D x k))
    where
      go : shared b D x k ≡ min (shared b D x a) (shared b D a k) → shared b D x y ≡ min (shared b D x a) (shared b D a y) →
          Dec (shared b D x y ≡ shared b D x k) → meets b D k a y ≡ eqb (shared b D x y) (shared b D x k)
      go u v (yes e) = rw (lt-ltb a k l, eq-eqb (shared b D x y) (shared b D x k) e, eq-eqb (shared b D a k) (shared b D a y) (omega arith)) refl
      go u v (no n) = rw (lt-ltb a k l, ne_eqb (shared b D x y) (shared b D x k) n, ne_eqb (shared b D a k) (shared b D a y) (λ e. omega arith)) refl

  -- the next place, if all up to a share more with x than k does
  next_from_lem : (R : Place → Type 0) (later : List Node) (x : ℕ) (a : Node) (e : ℕ) → x ≤ a.key → a.key < k → shared b D x k < shared b D x a.key →
      Asc a.key later → All R (places_after b D a e later) → Stop b D k x a.key later ⊎ Next b D k x a.key later R
  unfolding first_sharing places_after met
  next_from_lem R [] x a e h l near asc all = inl (record { leads = refl; gone = refl; passed = tt })
  next_from_lem R (y ∷ later) x a e h l near asc all =
      let m = asc.0 in
      go (ℕ_discrete s₀ s) (dec_le s₀ s) (dec_le k y.key) (meets_as x a.key y.key h l m near)
      (next_from_lem R later x y (shared b D a.key y.key))
    where
      -- what x shares with k, and with y
      s : ℕ
      s = shared b D x k

      s₀ : ℕ
      s₀ = shared b D x y.key

      go : Dec (s₀ ≡ s) → Dec (s₀ ≤ s) → Dec (k ≤ y.key) → meets b D k a.key y.key ≡ eqb s₀ s →
          (x ≤ y.key → y.key < k → s < s₀ → Asc y.key later → All R (places_after b D y (shared b D a.key y.key) later) →
          Stop b D k x y.key later ⊎ Next b D k x y.key later R) → Stop b D k x a.key (y ∷ later) ⊎ Next b D k x a.key (y ∷ later) R
      -- gone to
      go (yes q) le over test further =
          let m = asc.0 in
          inr
          (record {
            to = record { node = y; dimension = shared b D a.key y.key; before = a; before_dimension = e; later = later };
            leads = rw (eq-eqb s₀ s q) refl;
            gone = rw (test, eq-eqb s₀ s q) refl;
            above = omega arith;
            shares = q;
            dimension = omega (arith, ultra b D x a.key y.key pos h (omega arith));
            holds = all.0;
            after = all.1;
            ascends = asc.1;
            passed = ((λ l. absurd (omega arith)), all_map (λ z l g. absurd (omega arith)) later (asc_above y.key later asc.1));
          })
      -- a node that shares less: it is beyond k
      go (no n) (yes le) (no m) test further = absurd (let g = asc.0 in omega (arith, ultra b D x y.key k pos (omega arith) (omega arith)))
      go (no n) (yes le) (yes m) test further =
          let g = asc.0 in
          let none = ne_eqb s₀ s n in
          let other : y.key ≡ k → ⊥ = λ q. n (ap (shared b D x) q) in
          inl
          (record {
            leads = rw none (sharing_behind b D pos x s y.key later (omega arith) (omega arith) asc.1);
            gone = rw (test, none) (none_met b D k y.key later m asc.1);
            passed = ((λ l. absurd (omega arith)), all_map (λ z l i. absurd (omega arith)) later (asc_above y.key later asc.1));
          })
      -- passed over: it shares more with x than k does
      go (no n) (no le) (yes m) test further = absurd (omega (arith, ultra b D x k y.key pos (omega arith) m))
      go (no n) (no le) (no m) test further =
          let g = asc.0 in
          past (ne_eqb s₀ s n) (further (omega arith) (omega arith) (omega arith) asc.1 all.1)
        where
          past : eqb s₀ s ≡ false → Stop b D k x y.key later ⊎ Next b D k x y.key later R →
              Stop b D k x a.key (y ∷ later) ⊎ Next b D k x a.key (y ∷ later) R
          past none (inl t) = inl (record { leads = rw none t.leads; gone = rw (test, none) t.gone; passed = ((λ h. omega arith), t.passed) })
          past none (inr t) =
              inr
              (record {
                to = t.to;
                leads = rw none t.leads;
                gone = rw (test, none) t.gone;
                above = t.above;
                shares = t.shares;
                dimension = t.dimension;
                holds = t.holds;
                after = t.after;
                ascends = t.ascends;
                passed = ((λ h. omega arith), t.passed);
              })

  -- from a place below k
  pub next : (R : Place → Type 0) (p : Place) → p.node.key < k → Asc p.node.key p.later →
      All R (places_after b D p.node p.dimension p.later) → StopAt b D k p ⊎ NextOf b D k R p
  next R p h asc all =
      let less = shared_less b D p.node.key k some (omega arith) in
      let same = shared_same b D p.node.key in
      next_from_lem R p.later p.node.key p.node p.dimension (omega arith) h (omega arith) asc all

-- The steps of the walk for k over a row, from place p and coordinate d: up as long as cell and k share the coordinate at hand, then along
-- the link of that number. It ends for want of that link, or at the first cell gone to at k or above it, there after what is shared or at
-- the last coordinate.
pub data RowTrail (b D k : ℕ) (R : Place → Type 0) : Place → ℕ → List Step → Type 0 where
  rises : {p : Place} {d : ℕ} {steps : List Step} → RowTrail b D k R p (suc d) steps → RowTrail b D k R p d (Up ∷ steps)
  moves :
      {p : Place} {d : ℕ} {steps : List Step} → p.node.key < k → p.dimension ≤ d → d ≡ shared b D p.node.key k →
      (to : NextOf b D k R p) → RowTrail b D k R to.to d steps → RowTrail b D k R p d (Go to.to.node.cell ∷ steps)
  wants :
      {p : Place} {d : ℕ} → p.node.key < k → p.dimension ≤ d → d ≡ shared b D p.node.key k → StopAt b D k p →
      RowTrail b D k R p d (End ∷ [])
  reaches : {p : Place} {d : ℕ} → k ≤ p.node.key → d ≡ min (shared b D p.node.key k) (D - 1) → RowTrail b D k R p d (End ∷ [])

pub last_bounded : (b D key d : ℕ) → 0 < b → d < D → d * (b - 1) + coordinate b D key d ≤ D * (b - 1)
last_bounded b D key d pos h = let digit = coordinate_below b D key d pos in let more = mul-le-mul_right (b - 1) h in omega arith

module _ {b D k : ℕ} {R : Place → Type 0} where
  pub row_trail_ends : {p : Place} {d : ℕ} {steps : List Step} → RowTrail b D k R p d steps → ends steps ≡ true
  unfolding ends
  row_trail_ends (rises t) = row_trail_ends t
  row_trail_ends (moves h up e to t) = row_trail_ends t
  row_trail_ends (wants h up e stop) = refl
  row_trail_ends (reaches h e) = refl

  -- the coordinates before the one at hand are shared by cell and k
  pub row_trail_shares : {p : Place} {d : ℕ} {steps : List Step} → RowTrail b D k R p d steps → d ≤ shared b D p.node.key k
  row_trail_shares (rises t) = let more = row_trail_shares t in omega arith
  row_trail_shares (moves h up e to t) = omega arith
  row_trail_shares (wants h up e stop) = omega arith
  row_trail_shares (reaches h e) = omega arith

  -- it goes to the nodes met
  pub row_trail_meets : {p : Place} {d : ℕ} {steps : List Step} → RowTrail b D k R p d steps → Asc p.node.key p.later →
      gone_to steps ≡ map (λ x. x.cell) (met b D k p.node.key p.later)
  unfolding gone_to
  row_trail_meets (rises t) asc = row_trail_meets t asc
  row_trail_meets (moves h up e to t) asc = rw to.gone (ap (λ l. to.to.node.cell ∷ l) (row_trail_meets t to.ascends))
  row_trail_meets (wants h up e stop) asc = rw stop.gone refl
  row_trail_meets {p} (reaches h e) asc = rw (none_met b D k p.node.key p.later h asc) refl

  -- at most D(b-1): each move raises the coordinate at hand
  module _ (pos : 0 < b) (some : 0 < D) (fits : (q : Place) → R q → q.node.key < b ^ D) where
    pub row_trail_bounded : {p : Place} {d : ℕ} {steps : List Step} → RowTrail b D k R p d steps →
        length (gone_to steps) + (d * (b - 1) + coordinate b D p.node.key d) ≤ D * (b - 1)
    unfolding gone_to
    row_trail_bounded {p} {d} (rises t) =
        let more = row_trail_bounded t in
        let digit = coordinate_below b D p.node.key d pos in
        omega arith
    row_trail_bounded {p} {d} (moves h up e to t) =
        let more = row_trail_bounded t in
        let y = to.to.node.key in
        let fit = fits to.to to.holds in
        let above = to.above in
        let raised = rw (to.shares ∙ sym e) at (coordinate_less b D p.node.key y pos (omega arith) fit above) in
        omega arith
    row_trail_bounded {p} {d} (wants h up e stop) =
        let less = shared_less b D p.node.key k some (omega arith) in
        omega (arith, last_bounded b D p.node.key d pos (omega arith))
    row_trail_bounded {p} {d} (reaches h e) = omega (arith, last_bounded b D p.node.key d pos (omega arith))
