-- The way to the standing cell of next smaller key than k, from the place from which k hangs or would hang: every later node below k shares at
-- least d coordinates with the cell at hand, d being the number of the link at hand. Where that link leads nowhere they share more; else they
-- share as much with the cell that it leads to, which is below k too. At D there is none left, so the cell at hand is the one of next smaller
-- key. Each step raises the number or, at the same number, the cell's digit there: so there are at most D(b-1) cells on the way.
use mathlib.Core.Path.{◌≡◌, refl, sym, ap, ◌∙◌, subst}
use mathlib.Core.Logic.{◌⊎◌, inl, inr}
use mathlib.Core.List.{List, [], ◌∷◌}
use Prim.Native.Nat.{ℕ, zero, suc, ◌+◌, ◌*◌, ◌-◌, ◌≤◌, ◌<◌, min}
use native.Mathlib.Decide.{dec_le, ℕ_discrete}
use native.Mathlib.Omega.{arith}
use lib.Arith.{lt_of_le-ne}
use lib.ListN.{length}
use borrow.Author.Tests.{lt-ltb, le-ltb, eq-eqb, ne_eqb}
use Rattle.lists.proofs.All.{All, all_map, all_zip}
use Rattle.meaning.specs.Keys.{coordinate, shared}
use Rattle.meaning.specs.Row.{Node, head_node, first_sharing, Place, places_after, places, smaller_than}
use Rattle.meaning.specs.State.{State}
use Rattle.meaning.specs.Picture.{picture}
use Rattle.meaning.specs.Words.{key_at, dimensions_at}
use Rattle.meaning.specs.Walk.{link_read}
use Rattle.meaning.specs.Lower.{way_from, lower_way, last_gone, lower_from, lower_way_for, lower_for}
use Rattle.meaning.specs.Resting.{rest}
use Rattle.meaning.specs.declared.Rest.{Rest}
use Rattle.meaning.proofs.Rows.AscendingRow.{Asc, asc_above}
use Rattle.meaning.proofs.Rows.Keys.{shared_same, shared_less, ultra, coordinate_below, coordinate_less}
use Rattle.meaning.proofs.Pictures.State.{Sound, base_positive}
use Rattle.meaning.proofs.Rows.Parent.{sharing_behind}
use Rattle.meaning.proofs.Pictures.Picture.{picture_dimensions}
use Rattle.meaning.proofs.Cells.Placed.{Placed, Own, placed_has, placed_cell, place_key}
use Rattle.meaning.proofs.BothWays.SentencesShape.{places_placed, placed_ascends}
use Rattle.meaning.proofs.Cells.WalkRead.{settled_above}
use Rattle.meaning.proofs.Walks.WalkRow.{last_bounded}
use Rattle.meaning.proofs.Walks.WalkStop.{Hangs, Wanting, Moved, rests}
use Rattle.meaning.proofs.Walks.Walk.{StandingPlace, Room, room_none, room_up, placed_stands}
use Rattle.meaning.proofs.Walks.Smaller.{smaller_placed}

-- the later places of a place hold what all places do
after_all_lem : (R : Place → Type 0) (b D : ℕ) (a : Node) (e : ℕ) (row : List Node) → All R (places_after b D a e row) →
    All (λ p. All R (places_after b D p.node p.dimension p.later)) (places_after b D a e row)
unfolding places_after
after_all_lem R b D a e [] r = tt
after_all_lem R b D a e (x ∷ row) r = (r.1, after_all_lem R b D x (shared b D a.key x.key) row r.1)

-- k lies beyond place p and the branch of its links from number d on, and every node between the two is in that branch
pub record Nears (b D k : ℕ) (p : Place) (d : ℕ) : Type 0 where
  pub below : p.node.key < k
  pub apart : shared b D p.node.key k < d
  pub dimension : p.dimension ≤ d
  pub between : All (λ z. z.key < k → d ≤ shared b D p.node.key z.key) p.later

pub hangs_nears : {b D k : ℕ} {p : Place} → Hangs b D k p → Nears b D k p (suc (shared b D p.node.key k))
hangs_nears {p = p} h =
    let up = h.dimension in
    record { below = h.below; apart = omega arith; dimension = omega arith; between = all_map (λ z f l. let m = f l in omega arith) p.later h.between }

-- The first later node that shares exactly d coordinates with x, where all up to a share more; what holds of all later nodes and places holds
-- of those after it.
pub record Leads (b D x d : ℕ) (later : List Node) (R : Place → Type 0) (Q : Node → Type 0) : Type 0 where
  pub to : Place
  pub leads : first_sharing b D x d later ≡ to.node.cell
  pub above : x < to.node.key
  pub shares : shared b D x to.node.key ≡ d
  pub dimension : to.dimension ≡ d
  pub holds : R to
  pub after : All R (places_after b D to.node to.dimension to.later)
  pub ascends : Asc to.node.key to.later
  pub rest : All Q to.later

-- or there is none
pub record LeadsNowhere (b D x d : ℕ) (later : List Node) : Type 0 where
  pub leads : first_sharing b D x d later ≡ 0
  pub none : All (λ z. shared b D x z.key ≡ d → ⊥) later

module _ (b D : ℕ) (pos : 0 < b) (R : Place → Type 0) (Q : Node → Type 0) where
  link_from : (later : List Node) (x : ℕ) (a : Node) (e d : ℕ) → x ≤ a.key → d < shared b D x a.key → Asc a.key later →
      All R (places_after b D a e later) → All Q later → LeadsNowhere b D x d later ⊎ Leads b D x d later R Q
  unfolding first_sharing places_after
  link_from [] x a e d h near asc all q = inl (record { leads = refl; none = tt })
  link_from (y ∷ later) x a e d h near asc all q =
      go (ℕ_discrete (shared b D x y.key) d) (dec_le (shared b D x y.key) d)
      (let l = asc.0 in ultra b D x a.key y.key pos h (omega arith)) (link_from later x y (shared b D a.key y.key) d)
    where
      s : ℕ
      s = shared b D x y.key

      go : Dec (s ≡ d) → Dec (s ≤ d) → s ≡ min (shared b D x a.key) (shared b D a.key y.key) →
          (x ≤ y.key → d < s → Asc y.key later → All R (places_after b D y (shared b D a.key y.key) later) → All Q later →
          LeadsNowhere b D x d later ⊎ Leads b D x d later R Q) → LeadsNowhere b D x d (y ∷ later) ⊎ Leads b D x d (y ∷ later) R Q
      go (yes i) le u further =
          let l = asc.0 in
          inr
          (record {
            to = record { node = y; dimension = shared b D a.key y.key; before = a; before_dimension = e; later = later };
            leads = rw (eq-eqb s d i) refl;
            above = omega arith;
            shares = i;
            dimension = omega arith;
            holds = all.0;
            after = all.1;
            ascends = asc.1;
            rest = q.1;
          })
      go (no n) (yes le) u further =
          let l = asc.0 in
          let less : s < d = lt_of_le-ne le n in
          inl
          (record {
            leads = rw (ne_eqb s d n) (sharing_behind b D pos x d y.key later (omega arith) less asc.1);
            none = (
              n,
              all_map (λ z g i. let w = ultra b D x y.key z.key pos (omega arith) (omega arith) in omega arith) later
                  (asc_above y.key later asc.1),
            );
          })
      go (no n) (no le) u further = let l = asc.0 in past (further (omega arith) (omega arith) asc.1 all.1 q.1)
        where
          past : LeadsNowhere b D x d later ⊎ Leads b D x d later R Q → LeadsNowhere b D x d (y ∷ later) ⊎ Leads b D x d (y ∷ later) R Q
          past (inl t) = inl (record { leads = rw (ne_eqb s d n) t.leads; none = (n, t.none) })
          past (inr t) =
              inr
              (record {
                to = t.to;
                leads = rw (ne_eqb s d n) t.leads;
                above = t.above;
                shares = t.shares;
                dimension = t.dimension;
                holds = t.holds;
                after = t.after;
                ascends = t.ascends;
                rest = t.rest;
              })

-- One step, by where link d of a place leads

module _ {b D k : ℕ} (pos : 0 < b) {p : Place} {d : ℕ} (n : Nears b D k p d) (asc : Asc p.node.key p.later) where
  pub nears_up : LeadsNowhere b D p.node.key d p.later → Nears b D k p (suc d)
  nears_up t =
      let low = n.dimension in
      let apart = n.apart in
      record {
        below = n.below;
        apart = omega arith;
        dimension = omega arith;
        between = all_zip (λ z f ne l. let m = f l in let other = lt_of_le-ne m (λ e. ne (sym e)) in omega arith) p.later n.between t.none;
      }

  -- the cell that it leads to is below k
  led_below : (y : ℕ) → p.node.key < y → shared b D p.node.key y ≡ d → y < k
  led_below y above same = at (dec_le k y)
    where
      at : Dec (k ≤ y) → y < k
      at (yes over) = let low = n.below in absurd (omega (arith, ultra b D p.node.key k y pos (omega arith) over, n.apart))
      at (no under) = omega arith

  pub nears_along : {R : Place → Type 0} (t : Leads b D p.node.key d p.later R (λ z. z.key < k → d ≤ shared b D p.node.key z.key)) →
      Nears b D k t.to d
  nears_along t =
      let y = t.to.node.key in
      let above = t.above in
      let below = led_below y above t.shares in
      let dim = t.dimension in
      record {
        below = below;
        apart = omega (arith, ultra b D p.node.key y k pos (omega arith) (omega arith), t.shares, n.apart);
        dimension = omega arith;
        between =
            all_zip (λ z up f l. let m = f l in omega (arith, ultra b D p.node.key y z.key pos (omega arith) (omega arith), t.shares)) t.to.later
            (asc_above y t.to.later t.ascends) t.rest;
      }

-- What a way from place p and link d comes to: the last place below k, and not too many cells.
pub record Lowest (b D k : ℕ) (R : Place → Type 0) (p : Place) (d : ℕ) (cells : List ℕ) : Type 0 where
  pub to : Place
  pub holds : R to
  pub below : to.node.key < k
  pub beyond : All (λ z. k ≤ z.key) to.later
  pub cell : last_gone p.node.cell cells ≡ to.node.cell
  pub bounded : d < D → length cells + (d * (b - 1) + coordinate b D p.node.key d) ≤ D * (b - 1)
  pub none : D ≤ d → length cells ≡ 0

module _ (ws : List ℕ) (b D k : ℕ) (is-D : dimensions_at ws ≡ D) (pos : 0 < b) (some : 0 < D) (R : Place → Type 0)
    (stands : (p : Place) → R p → StandingPlace ws b D p) where
  lowest_here : (p : Place) → R p → Asc p.node.key p.later → (d : ℕ) → D ≤ d → Nears b D k p d → Lowest b D k R p d []
  lowest_here p r asc d top n =
      record {
        to = p;
        holds = r;
        below = n.below;
        beyond =
            all_zip (λ z above f. at z above f (dec_le k z.key)) p.later (asc_above p.node.key p.later asc) n.between;
        cell = refl;
        bounded = λ l. absurd (omega arith);
        none = λ l. refl;
      }
    where
      at : (z : Node) → p.node.key < z.key → (z.key < k → d ≤ shared b D p.node.key z.key) → Dec (k ≤ z.key) → k ≤ z.key
      at z above f (yes h) = h
      at z above f (no h) =
          let m = f (omega arith) in
          absurd (omega (arith, shared_less b D p.node.key z.key some (omega arith)))

  abbrev Ways : ℕ → Type 0
  Ways fuel =
      (p : Place) → R p → All R (places_after b D p.node p.dimension p.later) → Asc p.node.key p.later → (d : ℕ) → Nears b D k p d →
      Room b D fuel p.node.key d → Lowest b D k R p d (way_from fuel ws p.node.cell d)

  way_over_row : (fuel : ℕ) → Ways fuel
  unfolding way_from
  way_over_row zero p r after asc d n room = at (dec_le D d)
    where
      at : Dec (D ≤ d) → Lowest b D k R p d []
      at (yes top) = lowest_here p r asc d top n
      at (no l) = absurd (room_none b D p.node.key d pos (omega arith) room)
  way_over_row (suc fuel) p r after asc d n room = at (dec_le D d) (way_over_row fuel)
    where
      x : ℕ
      x = p.node.cell

      Q : Node → Type 0
      Q z = z.key < k → d ≤ shared b D p.node.key z.key

      -- the cells, where it is known whether there are more links and where this one leads
      Whole : Type 0
      Whole = Lowest b D k R p d (way_from (suc fuel) ws x d)

      along : Ways fuel → d < D → LeadsNowhere b D p.node.key d p.later ⊎ Leads b D p.node.key d p.later R Q → Whole
      along further l (inl t) =
          let link = (stands p r).read.link d n.dimension l ∙ settled_above b D p d n.dimension ∙ t.leads in
          let up = further p r after asc (suc d) (nears_up pos n asc t) (room_up b D fuel p.node.key d pos room) in
          let digit = coordinate_below b D p.node.key d pos in
          rw (is-D, lt-ltb d D l, eq-eqb (link_read ws x d) 0 link)
          (record {
            to = up.to;
            holds = up.holds;
            below = up.below;
            beyond = up.beyond;
            cell = up.cell;
            bounded = λ h. bounded up (dec_le D (suc d));
            none = λ h. absurd (omega arith);
          })
        where
          bounded : Lowest b D k R p (suc d) (way_from fuel ws x (suc d)) → Dec (D ≤ suc d) →
              length (way_from fuel ws x (suc d)) + (d * (b - 1) + coordinate b D p.node.key d) ≤ D * (b - 1)
          bounded up (yes top) = omega (arith, up.none top, last_bounded b D p.node.key d pos l)
          bounded up (no under) = let more = up.bounded (omega arith) in let digit = coordinate_below b D p.node.key d pos in omega arith
      along further l (inr t) =
          let y = t.to.node in
          let at = stands t.to t.holds in
          let above = t.above in
          let link : link_read ws x d ≡ y.cell = (stands p r).read.link d n.dimension l ∙ settled_above b D p d n.dimension ∙ t.leads in
          let real = at.other (omega arith) in
          let raised = rw t.shares at (coordinate_less b D p.node.key y.key pos (stands p r).fits at.fits above) in
          let on = further t.to t.holds t.after t.ascends d (nears_along pos n asc t) (omega arith) in
          rw (is-D, lt-ltb d D l, link, ne_eqb y.cell 0 (λ e. omega arith))
          (record {
            to = on.to;
            holds = on.holds;
            below = on.below;
            beyond = on.beyond;
            cell = on.cell;
            bounded = λ h. let more = on.bounded h in omega arith;
            none = λ h. absurd (omega arith);
          })

      at : Dec (D ≤ d) → Ways fuel → Whole
      at (yes top) further = rw (is-D, le-ltb d D top) (lowest_here p r asc d top n)
      at (no l) further =
          along further (omega arith)
          (link_from b D pos R Q p.later p.node.key p.node p.dimension d (omega arith) (omega (arith, shared_same b D p.node.key)) asc after
          n.between)

-- On a list

-- what holds of all places holds of those after a place
own_after : {s : State} → Sound s → {x : ℕ} {p : Place} → Placed s x p →
    All (Own s) (places_after s.settings.base s.settings.dimensions p.node p.dimension p.later)
unfolding places
own_after {s} v placed =
    let b = s.settings.base in
    let D = s.settings.dimensions in
    let own = places_placed v in
    placed_has placed (λ q. All (Own s) (places_after b D q.node q.dimension q.later)) (own.1, after_all_lem (Own s) b D head_node 0 s.row own.1)

-- where link d of a place leads
module _ {s : State} (v : Sound s) {x : ℕ} {p : Place} (placed : Placed s x p) (d : ℕ) (up : p.dimension ≤ d) (l : d < s.settings.dimensions) where
  pub link_leads : link_read (picture s) x d ≡ first_sharing s.settings.base s.settings.dimensions p.node.key d p.later
  link_leads =
      ap (λ c. link_read (picture s) c d) (sym (placed_cell placed))
      ∙ (placed_stands v (subst (λ c. Placed s c p) (sym (placed_cell placed)) placed)).read.link d up l
      ∙ settled_above s.settings.base s.settings.dimensions p d up

  pub led : (Q : Node → Type 0) → All Q p.later →
      LeadsNowhere s.settings.base s.settings.dimensions p.node.key d p.later
      ⊎ Leads s.settings.base s.settings.dimensions p.node.key d p.later (Own s) Q
  led Q q =
      let same = shared_same s.settings.base s.settings.dimensions p.node.key in
      link_from s.settings.base s.settings.dimensions (base_positive s v) (Own s) Q p.later p.node.key p.node p.dimension d
      (omega arith) (omega arith) (placed_ascends v placed) (own_after v placed) q

-- From the place from which k hangs or would hang

module _ (s : State) (v : Sound s) (k : ℕ) {x : ℕ} {p : Place} (placed : Placed s x p) (hangs : Hangs s.settings.base s.settings.dimensions k p) where
  abbrev number : ℕ
  number = suc (shared s.settings.base s.settings.dimensions p.node.key k)

  way_lowest : Lowest s.settings.base s.settings.dimensions k (Own s) p number (lower_way (picture s) x number)
  unfolding picture
  way_lowest =
      let b = s.settings.base in
      let D = s.settings.dimensions in
      let deep = v.ranges.dimensions_least in
      let here : Own s p = subst (λ c. Placed s c p) (sym (placed_cell placed)) placed in
      subst (λ c. Lowest b D k (Own s) p number (way_from (D * b) (picture s) c number)) (placed_cell placed)
      (way_over_row (picture s) b D k (picture_dimensions s) (base_positive s v) (omega arith) (Own s) (λ q there. placed_stands v there) (D * b) p here
      (own_after v placed) (placed_ascends v placed) number (hangs_nears hangs) (omega arith))

  pub lower_is : lower_from (picture s) x number ≡ (smaller_than k s.row).cell
  lower_is =
      let w = way_lowest in
      ap (λ c. last_gone c (lower_way (picture s) x number)) (sym (placed_cell placed)) ∙ w.cell
      ∙ ap (λ y. y.cell) (sym (smaller_placed v w.holds k w.below w.beyond))

  pub lower_bounded : length (lower_way (picture s) x number) ≤ s.settings.dimensions * (s.settings.base - 1)
  lower_bounded = at (dec_le s.settings.dimensions number)
    where
      at : Dec (s.settings.dimensions ≤ number) → length (lower_way (picture s) x number) ≤ s.settings.dimensions * (s.settings.base - 1)
      at (yes top) = omega (arith, way_lowest.none top)
      at (no under) = omega (arith, way_lowest.bounded (omega arith))

-- From where the walk rests

pub way_to_lower : (s : State) → Sound s → (k : ℕ) → 1 ≤ k → k ≤ s.settings.largest →
    (lower_for (picture s) k ≡ (smaller_than k s.row).cell) × (length (lower_way_for (picture s) k) ≤ s.settings.dimensions * (s.settings.base - 1))
way_to_lower s v k least most = at (rests s v k least most)
  where
    r : Rest
    r = rest (picture s) k

    b : ℕ
    b = s.settings.base

    D : ℕ
    D = s.settings.dimensions

    Is : ℕ → ℕ → Type 0
    Is x n = (lower_from (picture s) x (suc n) ≡ (smaller_than k s.row).cell) × (length (lower_way (picture s) x (suc n)) ≤ D * (b - 1))

    is : {x n : ℕ} {p : Place} → Placed s x p → Hangs b D k p → n ≡ shared b D p.node.key k → Is x n
    is {x} placed hangs e = subst (Is x) (sym e) (lower_is s v k placed hangs, lower_bounded s v k placed hangs)

    at : Wanting s k r ⊎ Moved s k r →
        (lower_for (picture s) k ≡ (smaller_than k s.row).cell) × (length (lower_way_for (picture s) k) ≤ s.settings.dimensions * (s.settings.base - 1))
    at (inl w) =
        let below = w.hangs.below in
        let key = place_key v w.placed in
        rw (lt-ltb (key_at (picture s) r.at) k (omega arith)) (is w.placed w.hangs w.coordinate)
    at (inr m) =
        let reached = m.reached in
        let key = place_key v m.to_placed in
        rw (le-ltb (key_at (picture s) r.at) k (omega arith)) (is m.placed m.hangs m.number)
