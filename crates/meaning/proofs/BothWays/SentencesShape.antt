-- How cells hang together 2 and 3, as conditions on the words of a picture: the standing cells of next smaller and next larger key, the
-- dimension, and the settled links are those of the places. Keys ascend along the row, so what is later in it is larger, and larger at
-- the first coordinate not shared; what is first in it is least.
use mathlib.Core.Path.{◌≡◌, refl, sym, ap, ap₂, ◌∙◌, subst, subst₂}
use mathlib.Core.List.{List, [], ◌∷◌}
use Prim.Native.Nat.{ℕ, ◌^◌, ◌≤◌, ◌<◌}
use native.Mathlib.Decide.{dec_le}
use native.Mathlib.Omega.{arith}
use lib.ListN.{length}
use borrow.Author.Tests.{le-leb, lt-leb}
use Rattle.lists.specs.Compared.{agreed}
use Rattle.lists.proofs.All.{All, all_map, all_zip, all_in}
use Rattle.meaning.specs.Keys.{coordinate, coordinates, shared}
use Rattle.meaning.specs.Row.{Node, head_node, Place, places_after, places, settled_link, first_sharing}
use Rattle.meaning.specs.State.{State, places_of}
use Rattle.meaning.specs.Picture.{picture}
use Rattle.meaning.specs.Words.{key_at, coordinate_at}
use Rattle.meaning.specs.Sentences.{shared_at, NextSmaller, NextLarger, Dimension, Settled, LargerAt}
use Rattle.meaning.specs.Sentences.Dimension.{of_head, of_other}
use Rattle.meaning.specs.Sentences.Settled.{leads, leads_nowhere, below_dimension}
use Rattle.meaning.proofs.Rows.AscendingRow.{Asc, asc_above}
use Rattle.meaning.proofs.Rows.Keys.{shared_agreed, coordinate_less, coordinate_larger}
use Rattle.meaning.proofs.Pictures.State.{Sound, base_positive, base_above}
use Rattle.meaning.proofs.Pictures.Picture.{place_found, places_later}
use Rattle.meaning.proofs.BothWays.SentencesRow.{Next, Followed, Led, places_followed, places_led, Later, Compared, places_compared, places_ascend}
use Rattle.meaning.proofs.BothWays.SentencesRow.{Least, SharesExactly, first_sharing_lem}
use Rattle.meaning.proofs.BothWays.SentencesRow.Followed.{last, followed}
use Rattle.meaning.proofs.BothWays.SentencesRow.Led.{head, led}
use Rattle.meaning.proofs.BothWays.SentencesRow.Compared.{same, later, earlier}
use Rattle.meaning.proofs.BothWays.SentencesRow.Least.{least, nowhere}
use Rattle.meaning.proofs.Cells.Placed.{Placed, Own, placed_has, placed_cell, placed_most, place_key, place_standing, cell_standing, place_coordinate}

-- q is the place after p; p is the head's or has a place before it; p is the last or has a place after it
abbrev pub NextIn : State → Place → Place → Type 0
NextIn s p q = Next s.settings.base s.settings.dimensions p q

abbrev pub LedIn : State → Place → Type 0
LedIn s p = Led s.settings.base s.settings.dimensions (Own s) s.row p

abbrev pub FollowedIn : State → Place → Type 0
FollowedIn s p = Followed s.settings.base s.settings.dimensions (Own s) p

-- a node that has a place
pub record HasPlace (s : State) (y : Node) : Type 0 where
  pub place : Place
  pub placed : Placed s y.cell place
  pub node : place.node ≡ y

-- Settled links, in any words

-- The first of the later nodes that shares just d with a key is what link d leads to, if the later ones that do are just the larger
-- ones at d.
pub settled_first : (ws : List ℕ) (b D x key d : ℕ) (row : List Node) {e : ℕ} → Dimension ws x e → e ≤ d → Asc key row →
    All (λ y. key_at ws y.cell ≡ y.key) row → All (λ y. SharesExactly b D key d y → LargerAt ws x d y.cell) row →
    ((P : ℕ → Type 0) → All (λ y. SharesExactly b D key d y → P y.cell) row → (z : ℕ) → LargerAt ws x d z → P z) →
    Settled ws x d (first_sharing b D key d row)
settled_first ws b D x key d row dimension h asc keys larger has = at (first_sharing_lem b D key d key row asc)
  where
    at : {c : ℕ} → Least (SharesExactly b D key d) row c → Settled ws x d c
    at (least y m q all) =
        leads dimension h (all_in (λ z. SharesExactly b D key d z → LargerAt ws x d z.cell) m larger q)
        (has (λ z. key_at ws y.cell ≤ key_at ws z)
        (all_zip (λ z k f r. let l = f r in omega (arith, k, all_in (λ z. key_at ws z.cell ≡ z.key) m keys)) row keys all))
    at (nowhere all) = leads_nowhere dimension h (has (λ z. ⊥) all)

-- below the dimension the settled link is 0
pub settled_link_lem : (ws : List ℕ) (b D x : ℕ) (p : Place) (d : ℕ) → Dimension ws x p.dimension →
    (p.dimension ≤ d → Settled ws x d (first_sharing b D p.node.key d p.later)) → Settled ws x d (settled_link b D p d)
settled_link_lem ws b D x p d dimension first = at (dec_le p.dimension d)
  where
    at : Dec (p.dimension ≤ d) → Settled ws x d (settled_link b D p d)
    at (yes h) = rw (le-leb p.dimension d h) (first h)
    at (no h) = rw (lt-leb p.dimension d (omega arith)) (below_dimension dimension (omega arith))

module _ {s : State} (v : Sound s) where
  pub places_placed : All (Own s) (places_of s s.row)
  places_placed = all_map (λ p e. record { found = e }) (places_of s s.row) (place_found s v)

  -- Keys

  pub key_below_lem : {x : ℕ} {p : Place} → Placed s x p → p.node.key < s.settings.base ^ s.settings.dimensions
  key_below_lem here = omega (arith, placed_most v here, base_above s v)

  pub placed_shared : {x y : ℕ} {p q : Place} → Placed s x p → Placed s y q →
      shared_at (picture s) x y ≡ shared s.settings.base s.settings.dimensions p.node.key q.node.key
  unfolding picture
  placed_shared {p = p} {q = q} here there =
      let b = s.settings.base in
      let D = s.settings.dimensions in
      ap₂ (λ k l. agreed (coordinates b D k) (coordinates b D l)) (place_key v here) (place_key v there)
      ∙ sym (shared_agreed b D p.node.key q.node.key (base_positive s v) (key_below_lem here) (key_below_lem there))

  pub placed_ascends : {x : ℕ} {p : Place} → Placed s x p → Asc p.node.key p.later
  placed_ascends here =
      placed_has here (λ p. Asc p.node.key p.later) (places_ascend s.settings.base s.settings.dimensions s.row v.ascends)

  pub placed_compared : {x y : ℕ} {p q : Place} → Placed s x p → Placed s y q → Compared p q
  placed_compared {p = p} here there =
      placed_has there (λ q. Compared p q)
      (placed_has here (λ p. All (λ q. Compared p q) (places_of s s.row))
      (places_compared s.settings.base s.settings.dimensions s.row v.ascends))

  -- Neighbours

  pub placed_led : {x : ℕ} {p : Place} → Placed s x p → LedIn s p
  placed_led here =
      placed_has here (LedIn s)
      (places_led s.settings.base s.settings.dimensions (Own s) s.row places_placed)

  pub placed_followed : {x : ℕ} {p : Place} → Placed s x p → FollowedIn s p
  placed_followed here =
      placed_has here (FollowedIn s)
      (places_followed s.settings.base s.settings.dimensions (Own s) s.row places_placed)

  pub next_smaller : {x y : ℕ} {p q : Place} → Placed s x p → Placed s y q → NextIn s q p → NextSmaller (picture s) x y
  next_smaller {x} {y} {p} {q} here there next =
      record {
        standing = place_standing v there;
        smaller = omega (arith, (subst (Asc q.node.key) next.later (placed_ascends there)).0, place_key v here, place_key v there);
        next = λ z stands less. let (r, found) = cell_standing s z stands in at z r found less (placed_compared found here);
      }
    where
      at : (z : ℕ) (r : Place) → Placed s z r → key_at (picture s) z < key_at (picture s) x → Compared r p → key_at (picture s) z ≤ key_at (picture s) y
      at z r found less (same e) = omega (arith, place_key v here, place_key v found, less, ap (λ q. q.node.key) e)
      at z r found less (later l) = omega (arith, place_key v there, place_key v found, l.up_to, ap (λ e. e.key) next.before)
      at z r found less (earlier l) = omega (arith, place_key v here, place_key v found, less, l.larger)

  pub next_larger : {x y : ℕ} {p q : Place} → Placed s x p → Placed s y q → NextIn s p q → NextLarger (picture s) x y
  next_larger {x} {y} {p} {q} here there next =
      record {
        standing = place_standing v there;
        larger = let h = ascends.0 in omega (arith, place_key v here, place_key v there);
        next = λ z stands less. let (r, found) = cell_standing s z stands in at z r found less (placed_compared here found);
      }
    where
      ascends : Asc p.node.key (q.node ∷ q.later)
      ascends = subst (Asc p.node.key) next.later (placed_ascends here)

      all_from_lem : All (λ z. q.node.key ≤ z.key) p.later
      all_from_lem =
          subst (All (λ z. q.node.key ≤ z.key)) (sym next.later)
          (omega arith, all_map (λ z h. omega arith) q.later (asc_above q.node.key q.later ascends.1))

      at : (z : ℕ) (r : Place) → Placed s z r → key_at (picture s) x < key_at (picture s) z → Compared p r → key_at (picture s) y ≤ key_at (picture s) z
      at z r found less (same e) = omega (arith, place_key v here, place_key v found, less, ap (λ q. q.node.key) e)
      at z r found less (later l) = omega (arith, place_key v there, place_key v found, all_in (λ z. q.node.key ≤ z.key) l.member all_from_lem)
      at z r found less (earlier l) = omega (arith, place_key v here, place_key v found, less, l.larger)

  -- the place before that of a cell that is not the head
  pub place_before_lem : {x : ℕ} {p : Place} → Placed s x p → 0 < x → (q : Place) × Placed s q.node.cell q × NextIn s q p
  place_before_lem {x} {p} here h = at (placed_led here)
    where
      at : LedIn s p → (q : Place) × Placed s q.node.cell q × NextIn s q p
      at (head e) = absurd (omega (arith, h, placed_cell here, ap (λ q. q.node.cell) e))
      at (led q there next) = (q, there, next)

  -- the place after that of a cell with later ones
  pub place_after : {x : ℕ} {p : Place} → Placed s x p → 0 < length p.later → (q : Place) × Placed s q.node.cell q × NextIn s p q
  place_after {x} {p} here h = at (placed_followed here)
    where
      at : FollowedIn s p → (q : Place) × Placed s q.node.cell q × NextIn s p q
      at (last e) = absurd (omega (arith, h, ap length e))
      at (followed q there next) = (q, there, next)

  -- the standing cell of next smaller key
  pub place_next_smaller : {x : ℕ} {p : Place} → Placed s x p → 0 < x → NextSmaller (picture s) x p.before.cell
  place_next_smaller {x} here h =
      let (q, there, next) = place_before_lem here h in
      subst (NextSmaller (picture s) x) (sym (ap (λ y. y.cell) next.before)) (next_smaller here there next)

  -- How cells hang together 2: the dimension
  pub place_dimension : {x : ℕ} {p : Place} → Placed s x p → Dimension (picture s) x p.dimension
  place_dimension {x} {p} here = at (placed_led here)
    where
      at : LedIn s p → Dimension (picture s) x p.dimension
      at (head e) =
          subst₂ (Dimension (picture s)) (sym (ap (λ q. q.node.cell) e) ∙ placed_cell here) (sym (ap (λ q. q.dimension) e)) of_head
      at (led q there next) =
          subst (Dimension (picture s) x) (placed_shared there here ∙ sym next.dimension) (of_other (next_smaller here there next))

  -- Settled links

  -- each node of the row has a place, and so has each node later than a place
  placed_after : (b D : ℕ) (a : Node) (e : ℕ) (row : List Node) → All (Own s) (places_after b D a e row) → All (HasPlace s) row
  unfolding places_after
  placed_after b D a e [] all = tt
  placed_after b D a e (x ∷ row) all = (record { place = _; placed = all.0; node = refl }, placed_after b D x (shared b D a.key x.key) row all.1)

  pub row_placed : All (HasPlace s) s.row
  unfolding places
  row_placed = placed_after s.settings.base s.settings.dimensions head_node 0 s.row places_placed.1

  pub later_placed : {x : ℕ} {p : Place} → Placed s x p → All (HasPlace s) p.later
  later_placed here =
      placed_has here (λ p. All (HasPlace s) p.later)
      (places_later (HasPlace s) s.settings.base s.settings.dimensions s.row row_placed)

  -- what shares exactly d coordinates with a standing cell and is larger at d is a later one
  larger_later : {x : ℕ} {p : Place} → Placed s x p → (d z : ℕ) (r : Place) → Placed s z r →
      shared_at (picture s) x z ≡ d → coordinate_at (picture s) x d < coordinate_at (picture s) z d →
      SharesExactly s.settings.base s.settings.dimensions p.node.key d r.node × Later p.node.key p.later r
  larger_later {x} {p} here d z r found shares larger = (exactly, at (placed_compared here found))
    where
      b : ℕ
      b = s.settings.base

      D : ℕ
      D = s.settings.dimensions

      exactly : shared b D p.node.key r.node.key ≡ d
      exactly = sym (placed_shared here found) ∙ shares

      above : coordinate b D p.node.key d < coordinate b D r.node.key d
      above = subst₂ (λ i j. i < j) (place_coordinate v here d) (place_coordinate v found d) larger

      at : Compared p r → Later p.node.key p.later r
      at (same e) = absurd (omega (arith, above, ap (λ q. coordinate b D q.node.key d) e))
      at (later l) = l
      at (earlier l) =
          absurd (omega (
            arith,
            l.larger,
            coordinate_larger b D p.node.key r.node.key d (base_positive s v) (key_below_lem here) (key_below_lem found) (omega (arith, exactly)) above,
          ))

  -- a later one that does is larger at d
  later_larger : {x : ℕ} {p : Place} → Placed s x p → (d : ℕ) (y : Node) → HasPlace s y → p.node.key < y.key →
      SharesExactly s.settings.base s.settings.dimensions p.node.key d y → LargerAt (picture s) x d y.cell
  later_larger {x} {p} here d y stands above exactly =
      let b = s.settings.base in
      let D = s.settings.dimensions in
      let there = stands.placed in
      let key = ap (λ e. e.key) stands.node in
      let shares : shared b D p.node.key stands.place.node.key ≡ d = ap (shared b D p.node.key) key ∙ exactly in
      let less = coordinate_less b D p.node.key stands.place.node.key (base_positive s v) (key_below_lem here) (key_below_lem there) (omega arith) in
      record {
        standing = place_standing v there;
        shares = placed_shared here there ∙ shares;
        larger =
            subst₂ (λ i j. i < j) (sym (place_coordinate v here d)) (sym (place_coordinate v there d))
            (subst (λ e. coordinate b D p.node.key e < coordinate b D stands.place.node.key e) shares less);
      }

  -- How cells hang together 3: the settled links
  pub place_settled : {x : ℕ} {p : Place} → Placed s x p → (d : ℕ) →
      Settled (picture s) x d (settled_link s.settings.base s.settings.dimensions p d)
  place_settled {x} {p} here d =
      settled_link_lem (picture s) b D x p d (place_dimension here) (λ h.
      settled_first (picture s) b D x p.node.key d p.later (place_dimension here) h (placed_ascends here)
      (all_map (λ y stands. place_key v stands.placed ∙ ap (λ e. e.key) stands.node) p.later (later_placed here))
      (all_zip (λ y stands above exactly. later_larger here d y stands above exactly) p.later (later_placed here)
      (asc_above p.node.key p.later (placed_ascends here)))
      (λ P all z l.
      let (r, found) = cell_standing s z l.standing in
      let (exactly, after) = larger_later here d z r found l.shares l.larger in
      subst P (placed_cell found) (all_in (λ y. SharesExactly b D p.node.key d y → P y.cell) after.member all exactly)))
    where
      b : ℕ
      b = s.settings.base

      D : ℕ
      D = s.settings.dimensions
