-- The way to the standing cell of next smaller key, turn by turn: where the cell at hand and the number of the link at hand have come to, what is
-- left of the way leads to its last cell, and each turn raises the number or the cell's digit there.
use Rattle.std.specs.Prelude.{Option, None, Some}
use mathlib.Core.Path.{◌≡◌, refl, sym, ap, ◌∙◌, subst, subst₂}
use mathlib.Core.Logic.{◌⊎◌, inl, inr}
use mathlib.Core.List.{List}
use Prim.Native.Nat.{ℕ, zero, suc, ◌*◌, ◌≤◌, ◌<◌}
use native.Mathlib.Omega.{arith}
use borrow.Author.Tests.{lt-ltb, le-ltb, eq-eqb, ne_eqb}
use Rattle.settings.specs.declared.Settings.{Settings}
use Rattle.meaning.specs.Keys.{coordinate, shared}
use Rattle.meaning.specs.Row.{Node, first_sharing, Place, node_at, smaller_than}
use Rattle.meaning.specs.State.{State}
use Rattle.meaning.specs.Picture.{picture}
use Rattle.meaning.specs.Reading.{read}
use Rattle.meaning.specs.Words.{key_at}
use Rattle.meaning.specs.Walk.{link_read}
use Rattle.meaning.specs.Lower.{way_from, last_gone, lower_from}
use Rattle.meaning.specs.Resting.{rest}
use Rattle.meaning.specs.Layer.Listed.{Listed}
use Rattle.meaning.proofs.Rows.Keys.{shared_less, coordinate_less}
use Rattle.meaning.proofs.Pictures.State.{Sound, base_positive}
use Rattle.meaning.proofs.Pictures.Picture.{picture_dimensions}
use Rattle.meaning.proofs.Cells.Placed.{Placed, Own, placed_below, placed_other, place_key}
use Rattle.meaning.proofs.BothWays.SentencesShape.{key_below_lem, placed_ascends}
use Rattle.meaning.proofs.Kept.Slot.{gap, dimensions_positive}
use Rattle.meaning.proofs.Rows.Nodes.{node_split}
use Rattle.meaning.proofs.Rows.Nodes.{node_key}
use Rattle.meaning.proofs.Walks.Walk.{Room, room_none, room_up}
use Rattle.meaning.proofs.Walks.WalkStop.{Hangs, Wanting, Moved, rests}
use Rattle.meaning.proofs.Walks.Lower.{Nears, hangs_nears, Leads, LeadsNowhere, nears_up, nears_along, link_leads, led, lower_is}
use Rattle.words.proofs.Listed.{on_listed}
use Rattle.search.specs.Found.{slot_number, slot_parent, found_at, found_of, Sought}
use Rattle.search.specs.declared.Found.{Found}
use Rattle.search.proofs.Sides.{Sides, sides_absent, sides_present}
use Rattle.search.proofs.Resting.{hangs_parent}

-- Where the way starts: k hangs, or would hang, from its parent.
record HangsFrom (s : State) (k : ℕ) : Type 0 where
  place : Place
  placed : Placed s (slot_parent s k) place
  hangs : Hangs s.settings.base s.settings.dimensions k place
  number : shared s.settings.base s.settings.dimensions place.node.key k ≡ slot_number s k

hangs_from : (s : State) → Sound s → (k : ℕ) → 1 ≤ k → k ≤ s.settings.largest → HangsFrom s k
hangs_from s v k least most = at (node_at k s.row) refl
  where
    of : {x : ℕ} {p : Place} {pre middle post : List Node} → Sides k s.row pre middle post → Placed s x p →
        Hangs s.settings.base s.settings.dimensions k p → HangsFrom s k
    of {p = p} sides placed hangs =
        let is = hangs_parent v least placed hangs sides in
        record { place = p; placed = subst (λ c. Placed s c p) is.0 placed; hangs = hangs; number = is.1 }

    by : {pre middle post : List Node} → Sides k s.row pre middle post → Wanting s k (rest (picture s) k) ⊎ Moved s k (rest (picture s) k) → HangsFrom s k
    by sides (inl w) = of sides w.placed w.hangs
    by sides (inr m) = of sides m.placed m.hangs

    at : (o : Option Node) → node_at k s.row ≡ o → HangsFrom s k
    at None e = by (sides_absent (gap k 0 s.row v.ascends e)) (rests s v k least most)
    at (Some x) e =
        let (pre, post, split) = node_split k x s.row e in
        by (sides_present pre x post v.ascends (node_key k x s.row e) split) (rests s v k least most)

-- .. which the search has answered
found_from : (s : State) (k : ℕ) {f : Found} → f ≡ found_of s k → (slot_parent s k ≡ f.parent) × (slot_number s k ≡ f.p)
unfolding found_of found_at
found_from s k {f} is = at (node_at k s.row) is
  where
    at : (o : Option Node) → f ≡ found_at s k o → (slot_parent s k ≡ f.parent) × (slot_number s k ≡ f.p)
    at None e = (ap (λ (g : Found). g.parent) (sym e), ap (λ (g : Found). g.p) (sym e))
    at (Some x) e = (ap (λ (g : Found). g.parent) (sym e), ap (λ (g : Found). g.p) (sym e))

-- the way has come to cell `at` and link d; `last` is its last cell
pub record OnWay (s : State) (ws : List ℕ) (k last at d : ℕ) : Type 0 where
  pub place : Place
  pub placed : Placed s at place
  pub nears : Nears s.settings.base s.settings.dimensions k place d
  pub fuel : ℕ
  pub room : Room s.settings.base s.settings.dimensions fuel place.node.key d
  pub same : last ≡ last_gone at (way_from fuel ws at d)

way_starts : {s : State} → Sound s → {k : ℕ} → 1 ≤ k → k ≤ s.settings.largest → {f : Found} → f ≡ found_of s k →
    OnWay s (picture s) k (lower_from (picture s) f.parent (suc f.p)) f.parent (suc f.p)
unfolding picture
way_starts {s} v {k} least most {f} is =
    let from = hangs_from s v k least most in
    let at = found_from s k is in
    record {
      place = from.place;
      placed = subst (λ c. Placed s c from.place) at.0 from.placed;
      nears = subst (λ n. Nears s.settings.base s.settings.dimensions k from.place (suc n)) (from.number ∙ at.1) (hangs_nears from.hangs);
      fuel = s.settings.dimensions * s.settings.base;
      room = omega arith;
      same = refl;
    }

module _ {s : State} (v : Sound s) {k last at d : ℕ} (w : OnWay s (picture s) k last at d) where
  way_ended : s.settings.dimensions ≤ d → at ≡ last
  unfolding way_from
  way_ended top = sym (w.same ∙ none w.fuel)
    where
      none : (fuel : ℕ) → last_gone at (way_from fuel (picture s) at d) ≡ at
      none zero = refl
      none (suc fuel) = rw (picture_dimensions s, le-ltb d s.settings.dimensions top) refl

  module _ (l : d < s.settings.dimensions) where
    abbrev Between : Node → Type 0
    Between z = z.key < k → d ≤ shared s.settings.base s.settings.dimensions w.place.node.key z.key

    leads : LeadsNowhere s.settings.base s.settings.dimensions w.place.node.key d w.place.later
        ⊎ Leads s.settings.base s.settings.dimensions w.place.node.key d w.place.later (Own s) Between
    leads = led v w.placed d w.nears.dimension l Between w.nears.between

    link : link_read (picture s) at d ≡ first_sharing s.settings.base s.settings.dimensions w.place.node.key d w.place.later
    link = link_leads v w.placed d w.nears.dimension l

    -- where the link leads nowhere, on with the next number
    way_up : link_read (picture s) at d ≡ 0 → OnWay s (picture s) k last at (suc d)
    unfolding way_from
    way_up nowhere = go leads w.fuel w.room w.same
      where
        go : LeadsNowhere s.settings.base s.settings.dimensions w.place.node.key d w.place.later
            ⊎ Leads s.settings.base s.settings.dimensions w.place.node.key d w.place.later (Own s) Between →
            (fuel : ℕ) → Room s.settings.base s.settings.dimensions fuel w.place.node.key d →
            last ≡ last_gone at (way_from fuel (picture s) at d) → OnWay s (picture s) k last at (suc d)
        go (inr t) fuel room same =
            let above = t.above in
            let real = placed_other v t.holds (omega arith) in
            absurd (omega (arith, nowhere, link, t.leads))
        go (inl t) zero room same = absurd (room_none s.settings.base s.settings.dimensions w.place.node.key d (base_positive s v) l room)
        go (inl t) (suc fuel) room same =
            record {
              place = w.place;
              placed = w.placed;
              nears = nears_up (base_positive s v) w.nears (placed_ascends v w.placed) t;
              fuel = fuel;
              room = room_up s.settings.base s.settings.dimensions fuel w.place.node.key d (base_positive s v) room;
              same = same ∙ rw (picture_dimensions s, lt-ltb d s.settings.dimensions l, eq-eqb (link_read (picture s) at d) 0 nowhere) refl;
            }

    -- else along it, to a cell with a larger digit there
    way_along : (link_read (picture s) at d ≡ 0 → ⊥) → OnWay s (picture s) k last (link_read (picture s) at d) d ×
        (coordinate s.settings.base s.settings.dimensions (key_at (picture s) at) d
        < coordinate s.settings.base s.settings.dimensions (key_at (picture s) (link_read (picture s) at d)) d)
    unfolding way_from
    way_along there = go leads w.fuel w.room w.same
      where
        b : ℕ
        b = s.settings.base

        D : ℕ
        D = s.settings.dimensions

        go : LeadsNowhere s.settings.base s.settings.dimensions w.place.node.key d w.place.later
            ⊎ Leads s.settings.base s.settings.dimensions w.place.node.key d w.place.later (Own s) Between →
            (fuel : ℕ) → Room s.settings.base s.settings.dimensions fuel w.place.node.key d →
            last ≡ last_gone at (way_from fuel (picture s) at d) → OnWay s (picture s) k last (link_read (picture s) at d) d ×
            (coordinate s.settings.base s.settings.dimensions (key_at (picture s) at) d
            < coordinate s.settings.base s.settings.dimensions (key_at (picture s) (link_read (picture s) at d)) d)
        go (inl t) fuel room same = absurd (there (link ∙ t.leads))
        go (inr t) zero room same = absurd (room_none b D w.place.node.key d (base_positive s v) l room)
        go (inr t) (suc fuel) room same =
            let to : link_read (picture s) at d ≡ t.to.node.cell = link ∙ t.leads in
            let placed : Placed s (link_read (picture s) at d) t.to = subst (λ c. Placed s c t.to) (sym to) t.holds in
            let raised = rw t.shares at
            (coordinate_less b D w.place.node.key t.to.node.key (base_positive s v) (key_below_lem v w.placed) (key_below_lem v placed) t.above) in (
              record {
                place = t.to;
                placed = placed;
                nears = nears_along (base_positive s v) w.nears (placed_ascends v w.placed) t;
                fuel = fuel;
                room = omega arith;
                same = same ∙ rw (picture_dimensions s, lt-ltb d s.settings.dimensions l, ne_eqb (link_read (picture s) at d) 0 there) refl;
              },
              rw (place_key v w.placed, place_key v placed) raised,
            )

-- On a list, as the code has it

-- the way of some key
pub record OnSomeWay (ws : List ℕ) (last at d : ℕ) : Type 0 where
  pub key : ℕ
  pub way : OnWay (read ws) ws key last at d

module _ {ws : List ℕ} {s : Settings} (h : Listed ws s) where
  pub lower_starts : {k : ℕ} {f : Found} → Sought ws s k f → OnSomeWay ws (lower_from ws f.parent (suc f.p)) f.parent (suc f.p)
  lower_starts {k} {f} k-sought =
      record {
        key = k;
        way = on_listed (λ t ws s. k ≤ s.largest → f ≡ found_of t k → OnWay t ws k (lower_from ws f.parent (suc f.p)) f.parent (suc f.p))
            (λ t v m q. way_starts v k-sought.least m q) h k-sought.most k-sought.is;
      }

  pub lower_number : {k : ℕ} {f : Found} → Sought ws s k f → f.p < s.dimensions
  lower_number {k} {f} h =
      on_listed (λ t ws s. k ≤ s.largest → f ≡ found_of t k → f.p < s.dimensions)
      (λ t v m q.
      let from = hangs_from t v k h.least m in
      let below = from.hangs.below in
      omega (
        arith,
        (found_from t k q).1,
        from.number,
        shared_less t.settings.base t.settings.dimensions from.place.node.key k (dimensions_positive t v) (omega arith),
      ))
      h.list h.most h.is

  module _ {last at d : ℕ} (w : OnSomeWay ws last at d) where
    pub lower_cell : at < s.cells
    lower_cell = on_listed (λ t ws s. OnWay t ws w.key last at d → at < s.cells) (λ t v o. placed_below v o.placed) h w.way

    pub lower_ends : s.dimensions ≤ d → at ≡ last
    lower_ends = on_listed (λ t ws s. OnWay t ws w.key last at d → s.dimensions ≤ d → at ≡ last) (λ t v o. way_ended v o) h w.way

    pub lower_up : d < s.dimensions → link_read ws at d ≡ 0 → OnSomeWay ws last at (suc d)
    lower_up l e =
        record {
          key = w.key;
          way = on_listed
              (λ t ws s. OnWay t ws w.key last at d → d < s.dimensions → link_read ws at d ≡ 0 → OnWay t ws w.key last at (suc d))
              (λ t v o m. way_up v o m) h w.way l e;
        }

    lower_on : d < s.dimensions → (link_read ws at d ≡ 0 → ⊥) → OnWay (read ws) ws w.key last (link_read ws at d) d ×
        (coordinate s.base s.dimensions (key_at ws at) d < coordinate s.base s.dimensions (key_at ws (link_read ws at d)) d)
    lower_on =
        on_listed
        (λ t ws s. OnWay t ws w.key last at d → d < s.dimensions → (link_read ws at d ≡ 0 → ⊥) → OnWay t ws w.key last (link_read ws at d) d ×
        (coordinate s.base s.dimensions (key_at ws at) d < coordinate s.base s.dimensions (key_at ws (link_read ws at d)) d))
        (λ t v o m. way_along v o m) h w.way

    pub lower_along : d < s.dimensions → (link_read ws at d ≡ 0 → ⊥) → OnSomeWay ws last (link_read ws at d) d
    lower_along l there = record { key = w.key; way = (lower_on l there).0 }

    pub lower_raised : d < s.dimensions → (link_read ws at d ≡ 0 → ⊥) →
        coordinate s.base s.dimensions (key_at ws at) d < coordinate s.base s.dimensions (key_at ws (link_read ws at d)) d
    lower_raised l there = (lower_on l there).1

-- The last cell of the way is that of next smaller key.
pub lower_found : {ws : List ℕ} {s : Settings} {k : ℕ} {f : Found} → Sought ws s k f → lower_from ws f.parent (suc f.p) ≡ (smaller_than k (read ws).row).cell
lower_found {k = k} {f = f} h =
    on_listed (λ t ws s. k ≤ s.largest → f ≡ found_of t k → lower_from ws f.parent (suc f.p) ≡ (smaller_than k t.row).cell)
    (λ t v m q.
    let from = hangs_from t v k h.least m in
    let at = found_from t k q in
    subst₂ (λ x n. lower_from (picture t) x (suc n) ≡ (smaller_than k t.row).cell) at.0 (from.number ∙ at.1)
    (lower_is t v k from.placed from.hangs))
    h.list h.most h.is
