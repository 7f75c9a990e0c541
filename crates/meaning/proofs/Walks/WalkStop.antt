-- Where the walk comes to rest: either below k, for want of a link, or, after a last move, at the first cell that its link leads to at k or
-- above it. If k does not stand, the cell that the link wanted or gone along belongs to is k's parent: every cell between shares more with
-- it than k does.
use Rattle.std.specs.Prelude.{None, Some}
use mathlib.Core.Path.{◌≡◌, refl, ◌∙◌, sym, ap, subst}
use mathlib.Core.Logic.{◌⊎◌, inl, inr}
use mathlib.Core.List.{List, [], ◌∷◌}
use Prim.Native.Nat.{ℕ, suc, ◌+◌, ◌-◌, ◌≤◌, ◌<◌, min}
use native.Mathlib.Decide.{dec_le}
use native.Mathlib.Omega.{arith}
use lib.ListN.{length}
use Rattle.lists.proofs.All.{All, all_map}
use Rattle.meaning.specs.Keys.{shared}
use Rattle.meaning.specs.Row.{Node, first_sharing, Place, node_at}
use Rattle.meaning.specs.State.{State}
use Rattle.meaning.specs.Picture.{picture}
use Rattle.meaning.specs.Walk.{trail, gone_to, walk}
use Rattle.meaning.specs.declared.Rest.{Rest}
use Rattle.meaning.specs.declared.Step.{Step}
use Rattle.meaning.specs.declared.Step.TheVariants.{Go, Up, End}
use Rattle.meaning.specs.Resting.{at_head, rest_after, rest_over, rest}
use Rattle.meaning.proofs.Pictures.State.{Sound}
use Rattle.meaning.proofs.Rows.Places.{node_past}
use Rattle.meaning.proofs.Cells.Placed.{Placed, Own, placed_at, placed_passed, head_placed}
use Rattle.meaning.proofs.Walks.WalkRow.{RowTrail, rises, moves, wants, reaches}
use Rattle.meaning.proofs.Walks.Walk.{row_trail}

-- the cells gone to are those that steps go to
pub rest_looked : (r : Rest) (steps : List Step) → (rest_over r steps).looked ≡ r.looked + length (gone_to steps)
unfolding rest_over gone_to
rest_looked r [] = omega arith
rest_looked r (Go y ∷ steps) = let more = rest_looked (rest_after r (Go y)) steps in omega arith
rest_looked r (Up ∷ steps) = rest_looked (rest_after r Up) steps
rest_looked r (End ∷ steps) = rest_looked r steps

pub rest_walk : (ws : List ℕ) (k : ℕ) → (rest ws k).looked ≡ length (walk ws k)
unfolding rest walk
rest_walk ws k = rest_looked at_head (trail ws k) ∙ (omega arith)

-- k would hang from place p: p's link of the number of coordinates that it shares with k is one of its own, and every later node below k
-- shares more with it
pub record Hangs (b D k : ℕ) (p : Place) : Type 0 where
  pub below : p.node.key < k
  pub dimension : p.dimension ≤ shared b D p.node.key k
  pub between : All (λ y. y.key < k → shared b D p.node.key k < shared b D p.node.key y.key) p.later

-- The walk ends for want of a link, at the place from which k would hang.
pub record Wanting (s : State) (k : ℕ) (r : Rest) : Type 0 where
  pub place : Place
  pub placed : Placed s r.at place
  pub hangs : Hangs s.settings.base s.settings.dimensions k place
  pub coordinate : r.coordinate ≡ shared s.settings.base s.settings.dimensions place.node.key k
  pub leads : first_sharing s.settings.base s.settings.dimensions place.node.key r.coordinate place.later ≡ 0
  pub absent : node_at k s.row ≡ None

-- The walk ends after a last move, from the place from which k hangs, or would hang, to the next, at k or above it.
pub record Moved (s : State) (k : ℕ) (r : Rest) : Type 0 where
  pub place : Place
  pub placed : Placed s r.from place
  pub hangs : Hangs s.settings.base s.settings.dimensions k place
  pub number : r.number ≡ shared s.settings.base s.settings.dimensions place.node.key k
  pub leads : first_sharing s.settings.base s.settings.dimensions place.node.key r.number place.later ≡ r.at
  pub to : Place
  pub to_placed : Placed s r.at to
  pub reached : k ≤ to.node.key
  pub present : to.node.key ≡ k → node_at k s.row ≡ Some to.node
  pub absent : k < to.node.key → node_at k s.row ≡ None
  pub coordinate : r.coordinate ≡ min (shared s.settings.base s.settings.dimensions to.node.key k) (s.settings.dimensions - 1)

-- Nodes up to k that share more with x than k does are not k's.
node_none : (key : ℕ) (row : List Node) → All (λ x. x.key ≡ key → ⊥) row → node_at key row ≡ None
unfolding node_at
node_none key [] a = refl
node_none key (x ∷ row) a = node_past key x row a.0 ∙ node_none key row a.1

node_between : (b D k x : ℕ) (later : List Node) → All (λ y. y.key ≤ k → shared b D x k < shared b D x y.key) later → node_at k later ≡ None
node_between b D k x later a =
    node_none k later (all_map (λ y f q. let more = f (omega arith) in let same = ap (λ z. shared b D x z) q in omega arith) later a)

module _ {s : State} (v : Sound s) {k : ℕ} where
  -- at k or above it the walk rests at the cell itself
  rest_reached : {p : Place} {d : ℕ} {steps : List Step} → RowTrail s.settings.base s.settings.dimensions k (Own s) p d steps →
      k ≤ p.node.key → (r : Rest) → r.coordinate ≡ d →
      rest_over r steps ≡ record {
        from = r.from;
        number = r.number;
        at = r.at;
        coordinate = min (shared s.settings.base s.settings.dimensions p.node.key k) (s.settings.dimensions - 1);
        looked = r.looked;
      }
  unfolding rest_over
  rest_reached (rises t) h r c = rest_reached t h (rest_after r Up) (ap suc c)
  rest_reached (moves l up e to t) h r c = absurd (omega arith)
  rest_reached (wants l up e stop) h r c = absurd (omega arith)
  rest_reached (reaches l e) h r c = ap (λ n. record { from = r.from; number = r.number; at = r.at; coordinate = n; looked = r.looked }) (c ∙ e)

  rests_from : {p : Place} {d : ℕ} {steps : List Step} → RowTrail s.settings.base s.settings.dimensions k (Own s) p d steps →
      p.node.key < k → (r : Rest) → Placed s r.at p → r.coordinate ≡ d → Wanting s k (rest_over r steps) ⊎ Moved s k (rest_over r steps)
  unfolding rest_over
  rests_from (rises t) h r here c = rests_from t h (rest_after r Up) here (ap suc c)
  rests_from {p} (moves {steps = steps} h up e to t) l r here c = at (dec_le k y.node.key) (λ m. rests_from t m after to.holds c)
    where
      b : ℕ
      b = s.settings.base

      D : ℕ
      D = s.settings.dimensions

      y : Place
      y = to.to

      after : Rest
      after = rest_after r (Go y.node.cell)

      at : Dec (k ≤ y.node.key) → (y.node.key < k → Wanting s k (rest_over after steps) ⊎ Moved s k (rest_over after steps)) →
          Wanting s k (rest_over after steps) ⊎ Moved s k (rest_over after steps)
      at (no m) further = further (omega arith)
      at (yes m) further =
          inr
          (subst (Moved s k) (sym (rest_reached t m after c))
          (record {
            place = p;
            placed = here;
            hangs = record { below = h; dimension = omega arith; between = all_map (λ z f g. f (omega arith)) p.later to.passed };
            number = c ∙ e;
            leads = ap (λ n. first_sharing b D p.node.key n p.later) (c ∙ e) ∙ to.leads;
            to = y;
            to_placed = to.holds;
            reached = m;
            present = λ q. ap (λ z. node_at z s.row) (sym q) ∙ placed_at v to.holds (let above = to.above in omega arith);
            absent = λ over.
                placed_passed v here k h ∙ node_between b D k p.node.key p.later (all_map (λ z f g. f (omega arith)) p.later to.passed);
            coordinate = refl;
          }))
  rests_from {p} (wants h up e stop) l r here c =
      let b = s.settings.base in
      let D = s.settings.dimensions in
      inl
      (record {
        place = p;
        placed = here;
        hangs = record { below = h; dimension = omega arith; between = all_map (λ y f g. f (omega arith)) p.later stop.passed };
        coordinate = c ∙ e;
        leads = ap (λ n. first_sharing b D p.node.key n p.later) (c ∙ e) ∙ stop.leads;
        absent = placed_passed v here k h ∙ node_between b D k p.node.key p.later stop.passed;
      })
  rests_from (reaches l e) h r here c = absurd (omega arith)

-- where the walk of a list rests
pub rests : (s : State) → Sound s → (k : ℕ) → 1 ≤ k → k ≤ s.settings.largest → Wanting s k (rest (picture s) k) ⊎ Moved s k (rest (picture s) k)
unfolding rest
rests s v k least most = rests_from v (row_trail s v k least most) least at_head (head_placed s) refl
