-- The trail of the walk on the words of a list is the trail over its row: so the walk goes to exactly the keys that the rule for looked
-- counts, each once, and to at most D(b-1) of them. A step reads off a place of the row what is settled there, and raises
-- d * b + (the cell's coordinate d), which stays below D * b: so the walk ends within D * b steps.
use mathlib.Core.Path.{◌≡◌, refl, ◌∙◌, sym, ap, ap₂, subst}
use mathlib.Core.Bool.{true, cond}
use mathlib.Core.Logic.{◌⊎◌, inl, inr}
use mathlib.Core.List.{List, [], ◌∷◌, map}
use Prim.Native.Nat.{ℕ, zero, suc, ◌+◌, ◌*◌, ◌-◌, ◌^◌, ◌≤◌, ◌<◌}
use native.Mathlib.Decide.{dec_le, ℕ_discrete}
use native.Mathlib.Nat.{mul-le-mul_right}
use native.Mathlib.Omega.{arith}
use lib.Dec.{eqb, ltb}
use lib.ListN.{length, length-map}
use borrow.Author.Tests.{lt-ltb, le-ltb, eq-eqb, ne_eqb}
use Rattle.lists.proofs.Occurrences.{Distinct, distinct_left}
use Rattle.lists.proofs.All.{All, all_map}
use Rattle.meaning.specs.Keys.{coordinate, shared}
use Rattle.meaning.specs.Row.{Node, first_sharing, Place, places_after, head_place, places}
use Rattle.meaning.specs.State.{State}
use Rattle.meaning.specs.Picture.{picture}
use Rattle.meaning.specs.Operations.{looked}
use Rattle.meaning.specs.Rule.{rule}
use Rattle.meaning.specs.Words.{key_at, dimensions_at, base_at}
use Rattle.meaning.specs.Walk.{link_read, step_along, step_at, on_from, trail_from, trail, ends, walk}
use Rattle.meaning.specs.Layer.Near.{Near, NearAlong}
use Rattle.meaning.specs.declared.Step.{Step}
use Rattle.meaning.specs.declared.Step.TheVariants.{Go, Up, End}
use Rattle.meaning.proofs.Rows.AscendingRow.{Asc}
use Rattle.meaning.proofs.Rows.Keys.{shared_same, shared_sym, shared_less, triangle, coordinate_below, coordinate_same, coordinate_less}
use Rattle.meaning.proofs.Pictures.State.{Sound, base_positive, base_above}
use Rattle.meaning.proofs.Pictures.StateCells.{cells_distinct}
use Rattle.meaning.proofs.Pictures.Picture.{picture_dimensions, picture_base}
use Rattle.meaning.proofs.Cells.Placed.{Own, placed_has, placed_other}
use Rattle.meaning.proofs.BothWays.SentencesShape.{places_placed, key_below_lem}
use Rattle.meaning.proofs.Walks.Rule.{met, rule_is_met}
use Rattle.meaning.proofs.Walks.WalkRow.{met_all, met_distinct, NextOf, StopAt, next, RowTrail, rises, moves, wants, reaches, row_trail_ends, row_trail_shares}
use Rattle.meaning.proofs.Walks.WalkRow.{row_trail_meets, row_trail_bounded}
use Rattle.meaning.proofs.Cells.WalkRead.{Read, settled_above, places_read, row_key_read}
use Rattle.meaning.proofs.Walks.WalkSteps.{trail_first, trail_enough}

-- The steps that are left: D * b, less d * b + (the cell's coordinate d).

abbrev pub Room : ℕ → ℕ → ℕ → ℕ → ℕ → Type 0
Room b D fuel key d = D * b ≤ fuel + (d * b + coordinate b D key d)

pub room_none : (b D key d : ℕ) → 0 < b → d < D → Room b D 0 key d → ⊥
room_none b D key d pos h room =
    let more = mul-le-mul_right b h in
    let digit = coordinate_below b D key d pos in
    omega arith

pub room_up : (b D fuel key d : ℕ) → 0 < b → Room b D (suc fuel) key d → Room b D fuel key (suc d)
room_up b D fuel key d pos room = let digit = coordinate_below b D key d pos in omega arith

-- a move to y at coordinate d leaves fewer steps, and y shares at least d coordinates with k
move_room : (b D k fuel x y d : ℕ) → 0 < b → x < y → y < b ^ D → d ≡ shared b D x k → shared b D x y ≡ shared b D x k →
    Room b D (suc fuel) x d → Room b D fuel y d
move_room b D k fuel x y d pos l fits e s room = let raised = rw (s ∙ sym e) at (coordinate_less b D x y pos (omega arith) fits l) in omega arith

move_shares : (b D k x y d : ℕ) → 0 < b → d ≡ shared b D x k → shared b D x y ≡ shared b D x k → d ≤ shared b D y k
move_shares b D k x y d pos e s = omega (arith, triangle b D y x k pos, shared_sym b D y x)

along_go : (y : ℕ) → 0 < y → step_along y ≡ Go y
along_go y h = rw (ne_eqb y 0 (λ e. omega arith)) refl

-- the place of a standing cell, as the words have it
pub record StandingPlace (ws : List ℕ) (b D : ℕ) (p : Place) : Type 0 where
  pub read : Read ws b D p
  pub other : 0 < p.node.key → 0 < p.node.cell
  pub fits : p.node.key < b ^ D

module _ (ws : List ℕ) (b D k : ℕ) (is-D : dimensions_at ws ≡ D) (is_b : base_at ws ≡ b) (pos : 0 < b) (some : 0 < D) (kfits : k < b ^ D)
    (R : Place → Type 0) (stands : (p : Place) → R p → StandingPlace ws b D p) where
  -- the step at a place, by the coordinates of cell and k
  place_step : (p : Place) → R p → (d : ℕ) → d < D →
      step_at ws k p.node.cell d
      ≡ cond (ltb (coordinate b D p.node.key d) (coordinate b D k d)) (step_along (link_read ws p.node.cell d))
      (cond (eqb (coordinate b D p.node.key d) (coordinate b D k d)) (cond (eqb (suc d) D) End Up) End)
  unfolding step_at
  place_step p r d l = rw ((stands p r).read.key, is-D, is_b) refl

  -- up, as long as they share the coordinate at hand; ..
  place_up : (p : Place) → R p → (d : ℕ) → d < shared b D p.node.key k → suc d < D → step_at ws k p.node.cell d ≡ Up
  place_up p r d h l =
      let own = coordinate b D p.node.key d in
      let same = coordinate_same b D p.node.key k d h in
      place_step p r d (omega arith)
      ∙ rw (le-ltb own (coordinate b D k d) (omega arith), eq-eqb own (coordinate b D k d) same, ne_eqb (suc d) D (λ z. omega arith)) refl

  -- .. the end, after the last coordinate; ..
  place_top : (p : Place) → R p → (d : ℕ) → d < shared b D p.node.key k → suc d ≡ D → step_at ws k p.node.cell d ≡ End
  place_top p r d h e =
      let own = coordinate b D p.node.key d in
      let same = coordinate_same b D p.node.key k d h in
      place_step p r d (omega arith)
      ∙ rw (le-ltb own (coordinate b D k d) (omega arith), eq-eqb own (coordinate b D k d) same, eq-eqb (suc d) D e) refl

  -- .. where they first differ, the end if the cell is above k, ..
  place_over_lem : (p : Place) → R p → k ≤ p.node.key → (d : ℕ) → d < D → d ≡ shared b D p.node.key k → step_at ws k p.node.cell d ≡ End
  place_over_lem p r h d l e =
      let own = coordinate b D p.node.key d in
      let same : shared b D k p.node.key ≡ d = omega (arith, shared_sym b D k p.node.key) in
      let other : k ≡ p.node.key → ⊥ = (λ q. omega (arith, ap (shared b D p.node.key) q, shared_same b D p.node.key)) in
      let less = rw same at (coordinate_less b D k p.node.key pos kfits (stands p r).fits (omega arith)) in
      place_step p r d l ∙ rw (le-ltb own (coordinate b D k d) (omega arith), ne_eqb own (coordinate b D k d) (λ z. omega arith)) refl

  -- .. and along the settled link if it is below k.
  place_along : (p : Place) → R p → p.node.key < k → (d : ℕ) → d < D → p.dimension ≤ d → d ≡ shared b D p.node.key k →
      step_at ws k p.node.cell d ≡ step_along (first_sharing b D p.node.key (shared b D p.node.key k) p.later)
  place_along p r h d l up e =
      let less = rw (sym e) at (coordinate_less b D p.node.key k pos (omega arith) kfits h) in
      place_step p r d l
      ∙ rw (lt-ltb (coordinate b D p.node.key d) (coordinate b D k d) less)
      (ap step_along ((stands p r).read.link d up l ∙ settled_above b D p d up ∙ ap (λ n. first_sharing b D p.node.key n p.later) e))

  -- From a place, with steps enough, the trail on the words is the trail over the row.

  abbrev Trails : ℕ → Type 0
  Trails fuel =
      (p : Place) → R p → All R (places_after b D p.node p.dimension p.later) → Asc p.node.key p.later →
      (d : ℕ) → d < D → d ≤ shared b D p.node.key k → (p.node.key < k → p.dimension ≤ d) → Room b D fuel p.node.key d →
      RowTrail b D k R p d (trail_from fuel ws k p.node.cell d)

  trail_over_row : (fuel : ℕ) → Trails fuel
  trail_over_row zero p r after asc d l near up room = absurd (room_none b D p.node.key d pos l room)
  trail_over_row (suc fuel) p r after asc d l near up room =
      go (dec_le (shared b D p.node.key k) d) (dec_le k p.node.key) (ℕ_discrete (suc d) D) (trail_over_row fuel)
    where
      x : ℕ
      x = p.node.cell

      Whole : Type 0
      Whole = RowTrail b D k R p d (trail_from (suc fuel) ws k x d)

      first : {t : Step} → step_at ws k x d ≡ t → RowTrail b D k R p d (t ∷ on_from (trail_from fuel ws k) x d t) → Whole
      first e t = subst (RowTrail b D k R p d) (sym (trail_first fuel ws k x d e)) t

      -- along the link, if there is one
      along : Trails fuel → p.node.key < k → d ≡ shared b D p.node.key k → StopAt b D k p ⊎ NextOf b D k R p → Whole
      along further h e (inl stop) = first (place_along p r h d l (up h) e ∙ ap step_along stop.leads) (wants h (up h) e stop)
      along further h e (inr to) =
          let y = to.to in
          let at = stands y to.holds in
          let above = to.above in
          let dim = to.dimension in
          first (place_along p r h d l (up h) e ∙ ap step_along to.leads ∙ along_go y.node.cell (at.other (omega arith)))
          (moves h (up h) e to
          (further y to.holds to.after to.ascends d l
          (move_shares b D k p.node.key y.node.key d pos e to.shares) (λ m. omega arith)
          (move_room b D k fuel p.node.key y.node.key d pos above at.fits e to.shares room)))

      go : Dec (shared b D p.node.key k ≤ d) → Dec (k ≤ p.node.key) → Dec (suc d ≡ D) → Trails fuel → Whole
      go (no m) h (no n) further =
          first (place_up p r d (omega arith) (omega arith))
          (rises
          (further p r after asc (suc d) (omega arith) (omega arith) (λ h. let low = up h in omega arith) (room_up b D fuel p.node.key d pos room)))
      go (no m) (yes h) (yes e) further = first (place_top p r d (omega arith) e) (reaches h (omega arith))
      go (no m) (no h) (yes e) further = absurd (let less = shared_less b D p.node.key k some (omega arith) in omega arith)
      go (yes m) (yes h) top further = first (place_over_lem p r h d l (omega arith)) (reaches h (omega arith))
      go (yes m) (no h) top further = along further (omega arith) (omega arith) (next b D k pos some R p (omega arith) asc after)

-- On a list.

pub placed_stands : {s : State} (v : Sound s) {p : Place} → Own s p → StandingPlace (picture s) s.settings.base s.settings.dimensions p
placed_stands {s} v here =
    record {
      read = placed_has here (Read (picture s) s.settings.base s.settings.dimensions) (places_read s v);
      other = placed_other v here;
      fits = key_below_lem v here;
    }

module _ {s : State} (v : Sound s) {k : ℕ} where
  row_near : {p : Place} {d : ℕ} {steps : List Step} → Own s p → RowTrail s.settings.base s.settings.dimensions k (Own s) p d steps →
      Near s.settings.base s.settings.dimensions k (key_at (picture s) p.node.cell) d
  row_near {p} here t =
      let at = placed_stands v here in
      rw at.read.key (at.fits, row_trail_shares t)

  row_trail_near : {p : Place} {d : ℕ} {steps : List Step} → Own s p → RowTrail s.settings.base s.settings.dimensions k (Own s) p d steps →
      NearAlong s.settings.base s.settings.dimensions k (key_at (picture s)) p.node.cell d steps
  row_trail_near here (rises t) = (row_near here (rises t), row_trail_near here t)
  row_trail_near here (moves h up e to t) = (row_near here (moves h up e to t), row_trail_near to.holds t)
  row_trail_near here (wants h up e stop) = (row_near here (wants h up e stop), tt)
  row_trail_near here (reaches h e) = (row_near here (reaches h e), tt)

keys_of_cells : (ws : List ℕ) (row : List Node) → All (λ x. key_at ws x.cell ≡ x.key) row → map (key_at ws) (map (λ x. x.cell) row) ≡ map (λ x. x.key) row
keys_of_cells ws [] a = refl
keys_of_cells ws (x ∷ row) a = ap₂ ◌∷◌ a.0 (keys_of_cells ws row a.1)

module _ (s : State) (v : Sound s) (k : ℕ) (least : 1 ≤ k) (most : k ≤ s.settings.largest) where
  -- the trail of a list is the trail over its row
  pub row_trail : RowTrail s.settings.base s.settings.dimensions k (Own s) (head_place s.row) 0 (trail (picture s) k)
  unfolding trail places picture
  row_trail =
      let b = s.settings.base in
      let D = s.settings.dimensions in
      let h = v.ranges.dimensions_least in
      let above = base_above s v in
      let own = places_placed v in
      trail_over_row (picture s) b D k (picture_dimensions s) (picture_base s) (base_positive s v) (omega arith) (omega arith) (Own s)
      (λ q here. placed_stands v here) (D * b) (head_place s.row) own.0 own.1 v.ascends
      0 (omega arith) (omega arith) (λ m. omega arith) (omega arith)

  pub trail_ends : ends (trail (picture s) k) ≡ true
  trail_ends = row_trail_ends row_trail

  pub trail_near : NearAlong s.settings.base s.settings.dimensions k (key_at (picture s)) 0 0 (trail (picture s) k)
  unfolding places
  trail_near = row_trail_near v (places_placed v).0 row_trail

  -- more steps than D * b go nowhere else
  pub trail_more : (fuel : ℕ) → s.settings.dimensions * s.settings.base ≤ fuel → trail_from fuel (picture s) k 0 0 ≡ trail (picture s) k
  unfolding trail picture
  trail_more fuel h = trail_enough (s.settings.dimensions * s.settings.base) fuel (picture s) k 0 0 trail_ends h

  walk_is_met : walk (picture s) k ≡ map (λ x. x.cell) (met s.settings.base s.settings.dimensions k 0 s.row)
  unfolding walk
  walk_is_met = row_trail_meets row_trail v.ascends

  -- Looked and the walk 4: the cells gone to are those that the rule counts
  pub walk_is_rule : map (key_at (picture s)) (walk (picture s) k) ≡ rule s.settings.base s.settings.dimensions (map (λ x. x.key) s.row) k
  walk_is_rule =
      let b = s.settings.base in
      let D = s.settings.dimensions in
      let h = v.ranges.dimensions_least in
      let above = base_above s v in
      ap (map (key_at (picture s))) walk_is_met
      ∙ keys_of_cells (picture s) (met b D k 0 s.row) (met_all (λ x. key_at (picture s) x.cell ≡ x.key) b D k 0 s.row (row_key_read s v))
      ∙ sym
      (rule_is_met b D k (base_positive s v) (omega arith) (omega arith) s.row v.ascends (all_map (λ x h. omega arith) s.row v.keys))

  pub walk_bounded : length (walk (picture s) k) ≤ s.settings.dimensions * (s.settings.base - 1)
  unfolding walk
  walk_bounded =
      let h = v.ranges.dimensions_least in
      omega (arith, row_trail_bounded (base_positive s v) (omega arith) (λ q here. key_below_lem v here) row_trail)

  -- Looked and the walk 3: the count and its bound
  pub walk_looked : length (walk (picture s) k) ≡ looked s k
  unfolding looked
  walk_looked = sym (length-map (walk (picture s) k) (key_at (picture s))) ∙ ap length walk_is_rule

  -- Looked and the walk 3: no cell is gone to twice
  pub walk_once : Distinct (walk (picture s) k)
  walk_once =
      rw walk_is_met
      (met_distinct s.settings.base s.settings.dimensions k 0 s.row
      (distinct_left (map (λ x. x.cell) s.row) s.free (cells_distinct s v).1))
