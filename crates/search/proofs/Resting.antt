-- Where the walk for k rests is what the search answers. For want of a link it rests at k's parent, whose slot is empty. Else its last
-- move was the parent's link: to k itself, or to the node of next larger key, which has the slot.
use Rattle.std.specs.Prelude.{None, Some}
use mathlib.Core.Path.{◌≡◌, refl, sym, ap, ap₂, ◌∙◌, subst}
use mathlib.Core.Bool.{true, false, cond}
use mathlib.Core.List.{List, [], ◌∷◌, ◌++◌}
use mathlib.Core.Logic.{◌⊎◌, inl, inr}
use Prim.Native.Nat.{ℕ, ◌≤◌, ◌<◌}
use native.Mathlib.Omega.{arith}
use lib.Dec.{eqb}
use borrow.Author.Tests.{eq-eqb, ne_eqb}
use Rattle.settings.specs.declared.Settings.{Settings}
use Rattle.meaning.specs.Keys.{shared}
use Rattle.meaning.specs.Row.{Node, head_node, first_of, first_sharing, Place, places, place_of, node_at}
use Rattle.meaning.specs.State.{State}
use Rattle.meaning.specs.Picture.{picture}
use Rattle.meaning.specs.Reading.{read}
use Rattle.meaning.specs.Operations.{looked, settled_link_at}
use Rattle.meaning.specs.Words.{key_at}
use Rattle.meaning.specs.declared.Rest.{Rest}
use Rattle.meaning.specs.Resting.{rest}
use Rattle.meaning.specs.Layer.Listed.{Listed}
use Rattle.meaning.proofs.Rows.AscendingRow.{Asc}
use Rattle.meaning.proofs.Rows.Keys.{shared_sym, shared_less}
use Rattle.meaning.proofs.Pictures.State.{Sound, base_positive}
use Rattle.meaning.proofs.Rows.Places.{asc_left, last_from, dimension_from}
use Rattle.meaning.proofs.Rows.Parent.{dimension_after, Apart, asc_last, apart_left, apart_before, place_at}
use Rattle.meaning.proofs.Kept.Slot as slot
use Rattle.meaning.proofs.Rows.Nodes.{node_split}
use Rattle.meaning.proofs.Kept.KeepsInsert.{slot_first}
use Rattle.meaning.proofs.Cells.WalkRead.{settled_above}
use Rattle.meaning.proofs.Walks.Walk.{walk_looked}
use Rattle.meaning.proofs.Walks.WalkStop.{rest_walk, Hangs, Wanting, Moved, rests}
use Rattle.meaning.proofs.Cells.Placed.{Placed, placed_cell, placed_below, placed_other, place_key}
use Rattle.search.specs.Found.{slot_number, slot_parent, slot_shared, slot_cell, found_at, found_of, Searched}
use Rattle.search.specs.declared.Found.{Found}
use Rattle.words.proofs.Listed.{on_listed}
use Rattle.search.proofs.Sides.{Sides, sides_absent, sides_present, slot_at, hung_at}

-- What is answered, part by part

absent_is :
    (s : State) (k : ℕ) {parent p c q n : ℕ} → node_at k s.row ≡ None → parent ≡ slot_parent s k → p ≡ slot_number s k → c ≡ slot_cell s k →
    q ≡ cond (eqb (slot_cell s k) 0) 0 (slot_shared s k) → n ≡ looked s k →
    record { standing = false; parent = parent; p = p; c = c; q = q; looked = n } ≡ found_of s k
unfolding found_of found_at
absent_is s k absent parent p c q n =
    ◌∙◌ {A = Found} (λ i. record { standing = false; parent = parent i; p = p i; c = c i; q = q i; looked = n i }) (sym (ap (found_at s k) absent))

present_is :
    (s : State) (k : ℕ) {x : Node} {parent p c q n : ℕ} → node_at k s.row ≡ Some x → parent ≡ slot_parent s k → p ≡ slot_number s k → c ≡ x.cell →
    q ≡ s.settings.dimensions → n ≡ looked s k →
    record { standing = true; parent = parent; p = p; c = c; q = q; looked = n } ≡ found_of s k
unfolding found_of found_at
present_is s k present parent p c q n =
    ◌∙◌ {A = Found} (λ i. record { standing = true; parent = parent i; p = p i; c = c i; q = q i; looked = n i }) (sym (ap (found_at s k) present))

-- what the search answers where the walk rests at r, by the key of the cell at hand, which is one of the list's
pub record Answers (t : State) (s : Settings) (k key : ℕ) (r : Rest) : Type 0 where
  pub below : key < k → record { standing = false; parent = r.at; p = r.coordinate; c = 0; q = 0; looked = r.looked } ≡ found_of t k
  pub above :
      k < key → record { standing = false; parent = r.from; p = r.number; c = r.at; q = r.coordinate; looked = r.looked } ≡ found_of t k
  pub here :
      key ≡ k → record { standing = true; parent = r.from; p = r.number; c = r.at; q = s.dimensions; looked = r.looked } ≡ found_of t k
  pub cell : r.at < s.cells

-- the node of next larger key, where its cell is the one that has the slot
next_is :
    (b D k d : ℕ) (pre post : List Node) {c : ℕ} {to : Place} → Apart (head_node ∷ (pre ++ post)) → 0 < c → slot.cell_after b D k d post ≡ c →
    place_of c (places b D (pre ++ post)) ≡ Some to → (first_of post).key ≡ to.node.key
unfolding places
next_is b D k d pre [] o nz e found = absurd (omega arith)
next_is b D k d pre (x ∷ post) {c} {to} o nz e found =
    let here : c ≡ x.cell = sym e ∙ (slot_first b D k d (x ∷ post) (λ z. omega arith)).1 in
    let at = place_at b D head_node 0 head_node 0 pre x post (apart_before (head_node ∷ pre) x post o) in
    let same : to ≡ record {
      node = x;
      dimension = dimension_after b D head_node pre x.key;
      before = last_from head_node pre;
      before_dimension = dimension_from b D head_node 0 pre;
      later = post;
    } = cc in
    ap (λ p. p.node.key) (sym same)

module _ {s : State} (v : Sound s) {k : ℕ} (least : 1 ≤ k) {x : ℕ} {p : Place} (here : Placed s x p)
    (h : Hangs s.settings.base s.settings.dimensions k p) where
  -- parent and number of a slot, where k would hang from place p
  pub hangs_parent : {pre middle post : List Node} → Sides k s.row pre middle post →
      (x ≡ slot_parent s k) × (shared s.settings.base s.settings.dimensions p.node.key k ≡ slot_number s k)
  hangs_parent sides =
      let t = slot_at s v k least sides in
      let is = hung_at v least sides here h in
      (sym (t.parent ∙ is.1 ∙ placed_cell here), sym (t.number ∙ is.0))

  -- the cell in the slot, where k does not stand: where the parent's link leads
  slot_leads : node_at k s.row ≡ None →
      slot_cell s k ≡ first_sharing s.settings.base s.settings.dimensions p.node.key
      (shared s.settings.base s.settings.dimensions p.node.key k) p.later
  unfolding settled_link_at
  slot_leads absent =
      let b = s.settings.base in
      let D = s.settings.dimensions in
      let g = slot.gap k 0 s.row v.ascends absent in
      let sides = sides_absent g in
      let is = hung_at v least sides here h in
      let a : Asc 0 (g.pre ++ g.post) = subst (Asc 0) g.splits v.ascends in
      let o : Apart (head_node ∷ (g.pre ++ g.post)) = subst (λ r. Apart (head_node ∷ r)) g.splits (slot.sound_apart s v) in
      (slot_at s v k least sides).cell
      ∙ sym
      (slot.slot_c b D (base_positive s v) (slot.dimensions_positive s v) k g.pre g.post least (asc_left 0 g.pre g.post a)
      (apart_left (head_node ∷ g.pre) g.post o) g.below
      (slot.gap_above k (last_from head_node g.pre).key g.post (asc_last head_node g.pre g.post a) g.above))
      ∙ ap₂ (λ d c. settled_link_at b D d (place_of c (places b D (g.pre ++ g.post)))) is.0 (is.1 ∙ placed_cell here)
      ∙ ap (settled_link_at b D (shared b D p.node.key k)) (subst (λ r. place_of x (places b D r) ≡ Some p) g.splits here.found)
      ∙ settled_above b D p (shared b D p.node.key k) h.dimension

module _ (s : State) (v : Sound s) (k : ℕ) (least : 1 ≤ k) (most : k ≤ s.settings.largest) (r : Rest) (is : r ≡ rest (picture s) k) where
  looked_is : r.looked ≡ looked s k
  looked_is = ap (λ t. t.looked) is ∙ rest_walk (picture s) k ∙ walk_looked s v k least most

  -- for want of a link
  wanting_found : Wanting s k r → record { standing = false; parent = r.at; p = r.coordinate; c = 0; q = 0; looked = r.looked } ≡ found_of s k
  wanting_found w =
      let t = hangs_parent v least w.placed w.hangs (sides_absent (slot.gap k 0 s.row v.ascends w.absent)) in
      let empty : slot_cell s k ≡ 0 = slot_leads v least w.placed w.hangs w.absent ∙ rw w.coordinate at w.leads in
      absent_is s k w.absent t.0 (w.coordinate ∙ t.1) (sym empty) (rw (eq-eqb (slot_cell s k) 0 empty) refl) looked_is

  -- after a last move
  moved_present : (m : Moved s k r) → m.to.node.key ≡ k →
      record { standing = true; parent = r.from; p = r.number; c = r.at; q = s.settings.dimensions; looked = r.looked } ≡ found_of s k
  moved_present m e =
      let split = node_split k m.to.node s.row (m.present e) in
      let t = hangs_parent v least m.placed m.hangs (sides_present split.0 m.to.node split.1 v.ascends e split.2) in
      present_is s k (m.present e) t.0 (m.number ∙ t.1) (sym (placed_cell m.to_placed)) refl looked_is

  moved_absent : (m : Moved s k r) → k < m.to.node.key →
      record { standing = false; parent = r.from; p = r.number; c = r.at; q = r.coordinate; looked = r.looked } ≡ found_of s k
  moved_absent m above =
      let b = s.settings.base in
      let D = s.settings.dimensions in
      let absent = m.absent above in
      let g = slot.gap k 0 s.row v.ascends absent in
      let sides = sides_absent g in
      let t = hangs_parent v least m.placed m.hangs sides in
      let is = slot_at s v k least sides in
      let held : slot_cell s k ≡ r.at = slot_leads v least m.placed m.hangs absent ∙ rw m.number at m.leads in
      let other = placed_other v m.to_placed (omega arith) in
      let next : (first_of g.post).key ≡ m.to.node.key =
      next_is b D k (dimension_after b D head_node g.pre k) g.pre g.post
      (subst (λ r. Apart (head_node ∷ r)) g.splits (slot.sound_apart s v)) other (sym is.cell ∙ held)
      (subst (λ row. place_of r.at (places b D row) ≡ Some m.to) g.splits m.to_placed.found) in
      let some-c : slot_cell s k ≡ 0 → ⊥ = (λ e. omega arith) in
      let less = shared_less b D m.to.node.key k (slot.dimensions_positive s v) (omega arith) in
      let shares : slot_shared s k ≡ shared b D m.to.node.key k = is.shares ∙ ap (shared b D k) next ∙ shared_sym b D k m.to.node.key in
      let q : r.coordinate ≡ slot_shared s k = (let c = m.coordinate in omega arith) in
      absent_is s k absent t.0 (m.number ∙ t.1) (sym held) (rw (ne_eqb (slot_cell s k) 0 some-c) q) looked_is

  -- which of the three it is
  pub rest_answers : Answers s s.settings k (key_at (picture s) r.at) r
  rest_answers = at (subst (λ t. Wanting s k t ⊎ Moved s k t) (sym is) (rests s v k least most))
    where
      at : Wanting s k r ⊎ Moved s k r → Answers s s.settings k (key_at (picture s) r.at) r
      at (inl w) =
          let key = place_key v w.placed in
          record {
            below = λ h. wanting_found w;
            above = λ h. absurd (omega (arith, w.hangs.below));
            here = λ h. absurd (omega (arith, w.hangs.below));
            cell = placed_below v w.placed;
          }
      at (inr m) =
          let key = place_key v m.to_placed in
          record {
            below = λ h. absurd (omega (arith, m.reached));
            above = λ h. moved_absent m (omega arith);
            here = λ h. moved_present m (sym key ∙ h);
            cell = placed_below v m.to_placed;
          }

-- On a list, as the code has it: r is where the walk rests, and `key` the key of the cell at hand
pub answers :
    {ws : List ℕ} {s : Settings} → Listed ws s → (k : ℕ) → 1 ≤ k → k ≤ s.largest → {r : Rest} → r ≡ rest ws k → {key : ℕ} → key ≡ key_at ws r.at →
    Answers (read ws) s k key r
answers h k least most {r} is e =
    rw e
    (on_listed (λ t ws u. k ≤ u.largest → r ≡ rest ws k → Answers t u k (key_at ws r.at) r) (λ t v m q. rest_answers t v k least m r q)
    h most is)

-- what is answered of the place where the walk rests is answered of the walk: g is that, and f what the function gives
pub searched :
    {ws : List ℕ} {s : Settings} → Listed ws s → (k : ℕ) → 1 ≤ k → k ≤ s.largest → {r : Rest} {f g : Found} → r ≡ rest ws k → f ≡ g →
    g.looked ≡ r.looked → g ≡ found_of (read ws) k → Searched ws s k f
searched {ws} h k least most is same counted found =
    record {
      sought = record { list = h; least = least; most = most; is = same ∙ found };
      walked = ap (λ t. t.looked) same ∙ counted ∙ ap (λ t. t.looked) is ∙ rest_walk ws k;
    }
