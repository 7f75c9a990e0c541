-- The parent of a standing cell: of the head and the nodes up to the one before the cell, the first that shares more with that one
-- than the cell does. All between it and the cell share more with it than the cell does, so its link of the cell's dimension leads to
-- the cell. What comes before it shares too little, what comes after it has too large a dimension: no other link leads there.
use Rattle.std.specs.Prelude.{Some}
use mathlib.Core.Path.{◌≡◌, refl, ◌∙◌, sym, subst}
use mathlib.Core.Bool.{cond}
use mathlib.Core.List.{List, [], ◌∷◌, ◌++◌}
use Prim.Native.Nat.{ℕ, suc, ◌≤◌, ◌<◌}
use native.Mathlib.Omega.{arith}
use native.Mathlib.Decide.{ℕ_discrete, dec_lt, dec_le}
use lib.Dec.{eqb, leb}
use borrow.Author.Tests.{eq-eqb, ne_eqb, lt-ltb, le-ltb, le-leb, lt-leb}
use Rattle.lists.proofs.All.{All, all_map, all_left, all_right, all_zip}
use Rattle.meaning.specs.Keys.{shared}
use Rattle.meaning.specs.Row.{Node, head_node, first_sharing, Place, places_after, places, settled_link, place_of}
use Rattle.meaning.specs.State.{State, key_of}
use Rattle.meaning.specs.Picture.{first_with}
use Rattle.meaning.specs.Operations.{leads_to, dimension_at, parent_in}
use Rattle.meaning.proofs.Rows.AscendingRow.{Asc, asc_above}
use Rattle.meaning.proofs.Rows.Keys.{shared_same, shared_less, ultra}
use Rattle.meaning.proofs.Rows.Places.{asc_left, places_nodes, last_from, dimension_from}

-- the dimension of a key that comes next after y and some nodes
abbrev pub dimension_after : ℕ → ℕ → Node → List Node → ℕ → ℕ
dimension_after b D y pre key = shared b D (last_from y pre).key key

-- the first of y and the nodes that shares more with the last of them than the key does
abbrev pub parent_after : ℕ → ℕ → Node → List Node → ℕ → ℕ
parent_after b D y pre key = first_with b D (last_from y pre).key (suc (dimension_after b D y pre key)) (y ∷ pre)

-- y, of dimension e and after w, as a place, and the places after it
abbrev pub places_from : ℕ → ℕ → Node → ℕ → Node → ℕ → List Node → List Place
places_from b D w f y e later =
    record { node = y; dimension = e; before = w; before_dimension = f; later = later } ∷ places_after b D y e later

-- no node has this cell
abbrev pub Without : ℕ → List Node → Type 0
Without c row = All (λ z. z.cell ≡ c → ⊥) row

-- no two nodes have the same cell
abbrev pub Apart : List Node → Type 0
Apart [] = Unit {0}
Apart (y ∷ row) = Without y.cell row × Apart row

-- A place whose link d leads to the first of some later nodes that shares just d with it, all before them sharing more: its
-- dimension is at most d, and it shares more than d with a, the last before those nodes.
pub record ParentPlace (b D d : ℕ) (a : Node) (later : List Node) (p : Place) : Type 0 where
  pub between : List Node
  pub later_is : p.later ≡ between ++ later
  pub last_is : last_from p.node between ≡ a
  pub ascends : Asc p.node.key between
  pub low : p.dimension ≤ d
  pub shares : d < shared b D p.node.key a.key

-- Rows

-- a place shares no more with an earlier node than its dimension
pub dimension_least :
    (b D : ℕ) → 0 < b → (y : Node) (e : ℕ) (row : List Node) → Asc y.key row →
    All (λ p. shared b D y.key p.node.key ≤ p.dimension) (places_after b D y e row)
unfolding places_after
dimension_least b D pos y e [] a = tt
dimension_least b D pos y e (z ∷ row) a =
    let f = shared b D y.key z.key in
    let h = a.0 in (
      omega arith,
      all_zip (λ p l g. omega (arith, l, ultra b D y.key z.key p.node.key pos (omega arith) (omega arith))) (places_after b D z f row)
          (dimension_least b D pos z f row a.1) (places_nodes (λ x. z.key < x.key) b D z f row (asc_above z.key row a.1)),
    )

pub all_last : (P : Node → Type 0) (y : Node) (row : List Node) → P y → All P row → P (last_from y row)
unfolding last_from
all_last P y [] p a = p
all_last P y (z ∷ row) p a = all_last P z row a.0 a.1

pub asc_last : (y : Node) (pre post : List Node) → Asc y.key (pre ++ post) → Asc (last_from y pre).key post
unfolding last_from
asc_last y [] post a = a
asc_last y (z ∷ pre) post a = asc_last z pre post a.1

pub last_least : (y : Node) (row : List Node) → Asc y.key row → y.key ≤ (last_from y row).key
unfolding last_from
last_least y [] a = omega arith
last_least y (z ∷ row) a = let h = a.0 in let k = last_least z row a.1 in omega arith

pub last_greatest : (y : Node) (row : List Node) → Asc y.key row → All (λ z. z.key ≤ (last_from y row).key) row
unfolding last_from
last_greatest y [] a = tt
last_greatest y (z ∷ row) a = (last_least z row a.1, last_greatest z row a.1)

pub apart_left : (pre post : List Node) → Apart (pre ++ post) → Apart pre
apart_left [] post o = tt
apart_left (y ∷ pre) post o = (all_left (λ z. z.cell ≡ y.cell → ⊥) pre post o.0, apart_left pre post o.1)

pub apart_before : (pre : List Node) (x : Node) (post : List Node) → Apart (pre ++ x ∷ post) → Without x.cell pre
apart_before [] x post o = tt
apart_before (y ∷ pre) x post o = (λ e. (all_right (λ z. z.cell ≡ y.cell → ⊥) pre (x ∷ post) o.0).0 (sym e), apart_before pre x post o.1)

pub apart_at : (y : Node) (pre : List Node) (x : Node) (post : List Node) → Apart (y ∷ (pre ++ x ∷ post)) → Without x.cell (y ∷ (pre ++ post))
apart_at y [] x post o = (λ e. o.0.0 (sym e), o.1.0)
apart_at y (z ∷ pre) x post o = (λ e. (all_right (λ t. t.cell ≡ y.cell → ⊥) (z ∷ pre) (x ∷ post) o.0).0 (sym e), apart_at z pre x post o.1)

-- the place of a standing cell
pub place_at :
    (b D : ℕ) (w : Node) (f : ℕ) (y : Node) (e : ℕ) (pre : List Node) (x : Node) (post : List Node) → Without x.cell (y ∷ pre) →
    place_of x.cell (places_from b D w f y e (pre ++ x ∷ post)) ≡ Some
    (record {
      node = x;
      dimension = dimension_after b D y pre x.key;
      before = last_from y pre;
      before_dimension = dimension_from b D y e pre;
      later = post;
    })
unfolding place_of places_after last_from dimension_from
place_at b D w f y e [] x post o = rw (ne_eqb y.cell x.cell o.0, eq-eqb x.cell x.cell refl) refl
place_at b D w f y e (z ∷ pre) x post o = rw (ne_eqb y.cell x.cell o.0) (place_at b D y e z (shared b D y.key z.key) pre x post o.1)

-- Where a link leads

module _ (b D : ℕ) where
  pub sharing_skips :
      (key d : ℕ) (pre later : List Node) → All (λ z. shared b D key z.key ≡ d → ⊥) pre →
      first_sharing b D key d (pre ++ later) ≡ first_sharing b D key d later
  unfolding first_sharing
  sharing_skips key d [] later a = refl
  sharing_skips key d (z ∷ pre) later a = rw (ne_eqb (shared b D key z.key) d a.0) (sharing_skips key d pre later a.1)

  pub sharing_hits : (key d : ℕ) (x : Node) (later : List Node) → shared b D key x.key ≡ d → first_sharing b D key d (x ∷ later) ≡ x.cell
  unfolding first_sharing
  sharing_hits key d x later e = rw (eq-eqb (shared b D key x.key) d e) refl

  pub sharing_none : (key d : ℕ) (later : List Node) → All (λ z. shared b D key z.key ≡ d → ⊥) later → first_sharing b D key d later ≡ 0
  unfolding first_sharing
  sharing_none key d [] a = refl
  sharing_none key d (z ∷ later) a = rw (ne_eqb (shared b D key z.key) d a.0) (sharing_none key d later a.1)

  -- keys that the same of some nodes share just d with
  pub sharing_alike :
      (k l d : ℕ) (later : List Node) →
      All (λ y. (shared b D k y.key ≡ d → shared b D l y.key ≡ d) × (shared b D l y.key ≡ d → shared b D k y.key ≡ d)) later →
      first_sharing b D k d later ≡ first_sharing b D l d later
  unfolding first_sharing
  sharing_alike k l d [] a = refl
  sharing_alike k l d (y ∷ later) a = at (ℕ_discrete (shared b D k y.key) d) (sharing_alike k l d later a.1)
    where
      at : Dec (shared b D k y.key ≡ d) → first_sharing b D k d later ≡ first_sharing b D l d later →
          first_sharing b D k d (y ∷ later) ≡ first_sharing b D l d (y ∷ later)
      at (yes e) more = sharing_hits k d y later e ∙ sym (sharing_hits l d y later (a.0.0 e))
      at (no ne) more = rw (ne_eqb (shared b D k y.key) d ne, ne_eqb (shared b D l y.key) d (λ e. ne (a.0.1 e))) more

  -- what comes after a key y shares no more with a smaller key than y does
  sharing_falls : 0 < b → (key y : ℕ) (later : List Node) → key ≤ y → Asc y later → All (λ z. shared b D key z.key ≤ shared b D key y) later
  sharing_falls pos key y later h asc = all_map (λ z l. omega (arith, ultra b D key y z.key pos h (omega arith))) later (asc_above y later asc)

  -- so after a y that shares less than d none shares just d
  pub sharing_behind : 0 < b → (key d y : ℕ) (later : List Node) → key ≤ y → shared b D key y < d → Asc y later → first_sharing b D key d later ≡ 0
  sharing_behind pos key d y later h l asc = sharing_none key d later (all_map (λ z m e. omega arith) later (sharing_falls pos key y later h asc))

  -- nor does that y itself
  pub sharing_above : 0 < b → (key d : ℕ) (y : Node) (later : List Node) → key ≤ y.key → Asc y.key later → shared b D key y.key < d →
      first_sharing b D key d (y ∷ later) ≡ 0
  sharing_above pos key d y later h asc l = sharing_skips key d (y ∷ []) later ((λ e. omega arith), tt) ∙ sharing_behind pos key d y.key later h l asc

  -- no link leads to a cell that does not come later
  pub sharing_without : (key d c : ℕ) (later : List Node) → (c ≡ 0 → ⊥) → Without c later → first_sharing b D key d later ≡ c → ⊥
  unfolding first_sharing
  sharing_without key d c [] nz w e = nz (sym e)
  sharing_without key d c (z ∷ later) nz w e = at (ℕ_discrete (shared b D key z.key) d) e (sharing_without key d c later nz w.1)
    where
      at : Dec (shared b D key z.key ≡ d) → cond (eqb (shared b D key z.key) d) z.cell (first_sharing b D key d later) ≡ c →
          (first_sharing b D key d later ≡ c → ⊥) → ⊥
      at (yes q) r ih = w.0 (rw (eq-eqb (shared b D key z.key) d q) at r)
      at (no q) r ih = ih (rw (ne_eqb (shared b D key z.key) d q) at r)

  -- a link that leads to x passes over all before x, and x shares just its number
  pub sharing_to :
      (key d : ℕ) (pre : List Node) (x : Node) (post : List Node) → (x.cell ≡ 0 → ⊥) → Without x.cell (pre ++ post) →
      first_sharing b D key d (pre ++ x ∷ post) ≡ x.cell → All (λ z. shared b D key z.key ≡ d → ⊥) pre × (shared b D key x.key ≡ d)
  unfolding first_sharing
  sharing_to key d [] x post nz w e = at (ℕ_discrete (shared b D key x.key) d) e
    where
      at : Dec (shared b D key x.key ≡ d) → cond (eqb (shared b D key x.key) d) x.cell (first_sharing b D key d post) ≡ x.cell →
          Unit {0} × (shared b D key x.key ≡ d)
      at (yes q) r = (tt, q)
      at (no q) r = absurd (sharing_without key d x.cell post nz w (rw (ne_eqb (shared b D key x.key) d q) at r))
  sharing_to key d (z ∷ pre) x post nz w e = at (ℕ_discrete (shared b D key z.key) d) e (sharing_to key d pre x post nz w.1)
    where
      Passed : List Node → Type 0
      Passed row = All (λ y. shared b D key y.key ≡ d → ⊥) row × (shared b D key x.key ≡ d)

      at : Dec (shared b D key z.key ≡ d) → cond (eqb (shared b D key z.key) d) z.cell (first_sharing b D key d (pre ++ x ∷ post)) ≡ x.cell →
          (first_sharing b D key d (pre ++ x ∷ post) ≡ x.cell → Passed pre) → Passed (z ∷ pre)
      at (yes q) r ih = absurd (w.0 (rw (eq-eqb (shared b D key z.key) d q) at r))
      at (no q) r ih = let t = ih (rw (ne_eqb (shared b D key z.key) d q) at r) in ((q, t.0), t.1)

-- The first that shares enough

module _ (b D : ℕ) where
  pub first_skips : (key n : ℕ) (y : Node) (later : List Node) → shared b D y.key key < n → first_with b D key n (y ∷ later) ≡ first_with b D key n later
  unfolding first_with
  first_skips key n y later h = rw (lt-ltb (shared b D y.key key) n h) refl

  pub first_hits : (key n : ℕ) (y : Node) (later : List Node) → n ≤ shared b D y.key key → first_with b D key n (y ∷ later) ≡ y.cell
  unfolding first_with
  first_hits key n y later h = rw (le-ltb (shared b D y.key key) n h) refl

  -- where the last node shares enough, what comes after it does not matter
  pub first_front :
      (key n : ℕ) (y : Node) (pre later : List Node) → n ≤ shared b D (last_from y pre).key key →
      first_with b D key n (y ∷ (pre ++ later)) ≡ first_with b D key n (y ∷ pre)
  unfolding last_from
  first_front key n y [] later h = first_hits key n y later h ∙ sym (first_hits key n y [] h)
  first_front key n y (z ∷ pre) later h = at (dec_lt (shared b D y.key key) n) (first_front key n z pre later h)
    where
      at : Dec (shared b D y.key key < n) → first_with b D key n (z ∷ (pre ++ later)) ≡ first_with b D key n (z ∷ pre) →
          first_with b D key n (y ∷ z ∷ (pre ++ later)) ≡ first_with b D key n (y ∷ z ∷ pre)
      at (yes g) ih = first_skips key n y (z ∷ (pre ++ later)) g ∙ ih ∙ sym (first_skips key n y (z ∷ pre) g)
      at (no g) ih = first_hits key n y (z ∷ (pre ++ later)) (omega arith) ∙ sym (first_hits key n y (z ∷ pre) (omega arith))

  -- and the first is one of them
  pub first_among :
      (P : ℕ → Type 0) (key n : ℕ) (y : Node) (pre : List Node) → n ≤ shared b D (last_from y pre).key key → P y.cell → All (λ z. P z.cell) pre →
      P (first_with b D key n (y ∷ pre))
  unfolding last_from
  first_among P key n y [] h p a = rw (first_hits key n y [] h) p
  first_among P key n y (z ∷ pre) h p a = at (dec_lt (shared b D y.key key) n) (first_among P key n z pre h a.0 a.1)
    where
      at : Dec (shared b D y.key key < n) → P (first_with b D key n (z ∷ pre)) → P (first_with b D key n (y ∷ z ∷ pre))
      at (yes g) ih = rw (first_skips key n y (z ∷ pre) g) ih
      at (no g) ih = let l : n ≤ shared b D y.key key = omega arith in rw (first_hits key n y (z ∷ pre) l) p

  -- it is found by its cell, and its key is not above the last one's
  pub first_key :
      (key n : ℕ) (y : Node) (pre later : List Node) → Asc y.key pre → Apart (y ∷ pre) → n ≤ shared b D (last_from y pre).key key →
      key_of (first_with b D key n (y ∷ pre)) (y ∷ (pre ++ later)) ≤ (last_from y pre).key
  unfolding key_of last_from
  first_key key n y [] later a o h = rw (first_hits key n y [] h, eq-eqb y.cell y.cell refl) (omega arith)
  first_key key n y (z ∷ pre) later a o h = at (dec_lt (shared b D y.key key) n) (first_key key n z pre later a.1 o.1 h)
    where
      at : Dec (shared b D y.key key < n) → key_of (first_with b D key n (z ∷ pre)) (z ∷ (pre ++ later)) ≤ (last_from z pre).key →
          cond (eqb y.cell (first_with b D key n (y ∷ z ∷ pre))) y.key (key_of (first_with b D key n (y ∷ z ∷ pre)) (z ∷ (pre ++ later)))
          ≤ (last_from z pre).key
      at (yes g) ih =
          let other : y.cell ≡ first_with b D key n (z ∷ pre) → ⊥ = first_among (λ c. y.cell ≡ c → ⊥) key n z pre h (λ e. o.0.0 (sym e))
          (all_map (λ x k e. k (sym e)) pre o.0.1) in
          let Found : ℕ → Type 0 = λ c. cond (eqb y.cell c) y.key (key_of c (z ∷ (pre ++ later))) ≤ (last_from z pre).key in
          subst Found (sym (first_skips key n y (z ∷ pre) g)) (rw (ne_eqb y.cell (first_with b D key n (z ∷ pre)) other) ih)
      at (no g) ih =
          let l : n ≤ shared b D y.key key = omega arith in
          let k = last_least y (z ∷ pre) a in
          rw (first_hits key n y (z ∷ pre) l, eq-eqb y.cell y.cell refl) k

-- the node before x shares more with itself than x does
pub last_shares : (b D : ℕ) → 0 < D → (y : Node) (pre : List Node) (x : Node) (post : List Node) → Asc y.key (pre ++ x ∷ post) →
    dimension_after b D y pre x.key < shared b D (last_from y pre).key (last_from y pre).key
last_shares b D deep y pre x post a =
    let A = last_from y pre in
    let r = (asc_last y pre (x ∷ post) a).0 in
    omega (arith, shared_same b D A.key, shared_less b D A.key x.key deep (omega arith))

-- The links to x

module _ (b D : ℕ) (pos : 0 < b) (deep : 0 < D) where
  -- what y shares with the last node it shares with all of them
  pub near : (y : Node) (row : List Node) → Asc y.key row → All (λ z. shared b D y.key (last_from y row).key ≤ shared b D y.key z.key) row
  near y row a =
      all_zip (λ z l g. let u = ultra b D y.key z.key (last_from y row).key pos (omega arith) g in omega arith) row
      (asc_above y.key row a) (last_greatest y row a)

  -- y has a link to a later x, if y shares more with the node before x than x does
  pub link_leads :
      (y : Node) (pre : List Node) (x : Node) (post : List Node) → Asc y.key (pre ++ x ∷ post) →
      dimension_after b D y pre x.key < shared b D y.key (last_from y pre).key →
      first_sharing b D y.key (dimension_after b D y pre x.key) (pre ++ x ∷ post) ≡ x.cell
  link_leads y pre x post a h =
      let A = last_from y pre in
      let l = last_least y pre (asc_left y.key pre (x ∷ post) a) in
      let r = (asc_last y pre (x ∷ post) a).0 in
      let u = ultra b D y.key A.key x.key pos l (omega arith) in
      sharing_skips b D y.key (shared b D A.key x.key) pre (x ∷ post)
      (all_map (λ z g. omega arith) pre (near y pre (asc_left y.key pre (x ∷ post) a)))
      ∙ sharing_hits b D y.key (shared b D A.key x.key) x post (omega arith)

  -- and then only this one, and else none
  pub link_from :
      (y : Node) (d : ℕ) (pre : List Node) (x : Node) (post : List Node) → Asc y.key (pre ++ x ∷ post) → (x.cell ≡ 0 → ⊥) →
      Without x.cell (pre ++ post) →
      first_sharing b D y.key d (pre ++ x ∷ post) ≡ x.cell → (d ≡ dimension_after b D y pre x.key) × (d < shared b D y.key (last_from y pre).key)
  link_from y d pre x post a nz w e =
      let A = last_from y pre in
      let t = sharing_to b D y.key d pre x post nz w e in
      let l = last_least y pre (asc_left y.key pre (x ∷ post) a) in
      let r = (asc_last y pre (x ∷ post) a).0 in
      let u = ultra b D y.key A.key x.key pos l (omega arith) in
      let m : shared b D y.key x.key < D = shared_less b D y.key x.key deep (omega arith) in
      let q : shared b D y.key y.key ≡ d → ⊥ = λ g. omega (arith, shared_same b D y.key, t.1) in
      let n = all_last (λ z. shared b D y.key z.key ≡ d → ⊥) y pre q t.0 in
      let g = t.1 in
      (omega arith, omega arith)

  -- the same of settled links, where y has dimension e
  pub settled_leads :
      (y : Node) (e : ℕ) (pre : List Node) (x : Node) (post : List Node) → Asc y.key (pre ++ x ∷ post) →
      dimension_after b D y pre x.key < shared b D y.key (last_from y pre).key → e ≤ dimension_after b D y pre x.key →
      cond (leb e (dimension_after b D y pre x.key)) (first_sharing b D y.key (dimension_after b D y pre x.key) (pre ++ x ∷ post)) 0 ≡ x.cell
  settled_leads y e pre x post a h g = rw (le-leb e (dimension_after b D y pre x.key) g) (link_leads y pre x post a h)

  pub settled_from :
      (e : ℕ) (y : Node) (d : ℕ) (pre : List Node) (x : Node) (post : List Node) → Asc y.key (pre ++ x ∷ post) → (x.cell ≡ 0 → ⊥) →
      Without x.cell (pre ++ post) →
      cond (leb e d) (first_sharing b D y.key d (pre ++ x ∷ post)) 0 ≡ x.cell →
      (e ≤ d) × (d ≡ dimension_after b D y pre x.key) × (d < shared b D y.key (last_from y pre).key)
  settled_from e y d pre x post a nz w q = at (dec_le e d) q
    where
      at : Dec (e ≤ d) → cond (leb e d) (first_sharing b D y.key d (pre ++ x ∷ post)) 0 ≡ x.cell →
          (e ≤ d) × (d ≡ dimension_after b D y pre x.key) × (d < shared b D y.key (last_from y pre).key)
      at (yes h) r = let t = link_from y d pre x post a nz w (rw (le-leb e d h) at r) in (h, t.0, t.1)
      at (no h) r = absurd (nz (sym (rw (lt-leb e d (omega arith)) at r)))

  settled_without : (e key d c : ℕ) (later : List Node) → (c ≡ 0 → ⊥) → Without c later → cond (leb e d) (first_sharing b D key d later) 0 ≡ c → ⊥
  settled_without e key d c later nz o q = at (dec_le e d) q
    where
      at : Dec (e ≤ d) → cond (leb e d) (first_sharing b D key d later) 0 ≡ c → ⊥
      at (yes h) r = sharing_without b D key d c later nz o (rw (le-leb e d h) at r)
      at (no h) r = nz (sym (rw (lt-leb e d (omega arith)) at r))

  -- The first place whose link of x's dimension leads to x

  leads_step : (c d k : ℕ) (p : Place) (standing : List Place) → (settled_link b D p d ≡ c → ⊥) → leads_to b D d c standing ≡ k →
      leads_to b D d c (p ∷ standing) ≡ k
  unfolding leads_to
  leads_step c d k p standing n e = rw (ne_eqb (settled_link b D p d) c n) e

  leads_here : (c d : ℕ) (p : Place) (standing : List Place) → settled_link b D p d ≡ c → leads_to b D d c (p ∷ standing) ≡ p.node.cell
  unfolding leads_to
  leads_here c d p standing e = rw (eq-eqb (settled_link b D p d) c e) refl

  -- The first that shares enough has dimension at most x's, since the one before it shares too little: so its link leads to x.
  leads_first :
      (w : Node) (f : ℕ) (y : Node) (e : ℕ) (pre : List Node) (x : Node) (post : List Node) → Asc y.key (pre ++ x ∷ post) → (x.cell ≡ 0 → ⊥) →
      Without x.cell (pre ++ post) →
      (dimension_after b D y pre x.key < shared b D y.key (last_from y pre).key → e ≤ dimension_after b D y pre x.key) →
      leads_to b D (dimension_after b D y pre x.key) x.cell (places_from b D w f y e (pre ++ x ∷ post)) ≡ parent_after b D y pre x.key
  unfolding places_after last_from
  leads_first w f y e [] x post a nz o i =
      let l = last_shares b D deep y [] x post a in
      leads_here x.cell (shared b D y.key x.key) (record { node = y; dimension = e; before = w; before_dimension = f; later = x ∷ post })
      (places_after b D y e (x ∷ post)) (settled_leads y e [] x post a l (i l))
      ∙ sym (first_hits b D y.key (suc (shared b D y.key x.key)) y [] l)
  leads_first w f y e (z ∷ pre) x post a nz o i =
      at (dec_lt d (shared b D y.key A.key)) (leads_first y e z (shared b D y.key z.key) pre x post a.1 nz o.1)
    where
      A : Node
      A = last_from z pre

      d : ℕ
      d = shared b D A.key x.key

      p : Place
      p = record { node = y; dimension = e; before = w; before_dimension = f; later = z ∷ (pre ++ x ∷ post) }

      at : Dec (d < shared b D y.key A.key) → ((d < shared b D z.key A.key → shared b D y.key z.key ≤ d) →
          leads_to b D d x.cell (places_after b D y e p.later) ≡ first_with b D A.key (suc d) (z ∷ pre)) →
          leads_to b D d x.cell (p ∷ places_after b D y e p.later) ≡ first_with b D A.key (suc d) (y ∷ z ∷ pre)
      at (yes h) ih = leads_here x.cell d p (places_after b D y e p.later) (settled_leads y e (z ∷ pre) x post a h (i h))
          ∙ sym (first_hits b D A.key (suc d) y (z ∷ pre) h)
      at (no h) ih =
          let l = a.0 in
          let g = last_least z pre (asc_left z.key pre (x ∷ post) a.1) in
          let u = ultra b D y.key z.key A.key pos (omega arith) g in
          leads_step x.cell d (first_with b D A.key (suc d) (y ∷ z ∷ pre)) p (places_after b D y e p.later)
          (λ q. let t = settled_from e y d (z ∷ pre) x post a nz o q in h t.2)
          (ih (λ k. omega arith) ∙ sym (first_skips b D A.key (suc d) y (z ∷ pre) (omega arith)))

  -- No other link leads to x

  -- no link leads back
  behind_links : (y : Node) (e c : ℕ) (later : List Node) → (c ≡ 0 → ⊥) → Without c later →
      All (λ p. (d : ℕ) → settled_link b D p d ≡ c → ⊥) (places_after b D y e later)
  unfolding places_after
  behind_links y e c [] nz o = tt
  behind_links y e c (z ∷ later) nz o = (
    λ d q. settled_without (shared b D y.key z.key) z.key d c later nz o.1 q,
    behind_links z
        (shared b D y.key z.key) c later nz o.1,
  )

  -- after a node that shares more with the one before x than x does, dimensions up to x are larger than x's
  deep_links :
      (y : Node) (e : ℕ) (pre : List Node) (x : Node) (post : List Node) → Asc y.key (pre ++ x ∷ post) → (x.cell ≡ 0 → ⊥) →
      Without x.cell (pre ++ post) →
      dimension_after b D y pre x.key < shared b D y.key (last_from y pre).key →
      All (λ p. (d : ℕ) → settled_link b D p d ≡ x.cell → ⊥) (places_after b D y e (pre ++ x ∷ post))
  unfolding places_after last_from
  deep_links y e [] x post a nz o h = (
    λ d q. settled_without (shared b D y.key x.key) x.key d x.cell post nz o q,
    behind_links x
        (shared b D y.key x.key) x.cell post nz o,
  )
  deep_links y e (z ∷ pre) x post a nz o h =
      let l = a.0 in
      let g = last_least z pre (asc_left z.key pre (x ∷ post) a.1) in
      let u = ultra b D y.key z.key (last_from z pre).key pos (omega arith) g in (
        λ d q. let t = settled_from (shared b D y.key z.key) z d pre x post a.1 nz o.1 q in omega arith,
        deep_links z (shared b D y.key z.key) pre x post a.1 nz o.1 (omega arith),
      )

  unique_from :
      (w : Node) (f : ℕ) (y : Node) (e : ℕ) (pre : List Node) (x : Node) (post : List Node) → Asc y.key (pre ++ x ∷ post) → (x.cell ≡ 0 → ⊥) →
      Without x.cell (pre ++ post) →
      All (λ p. (d : ℕ) → settled_link b D p d ≡ x.cell → (p.node.cell ≡ parent_after b D y pre x.key) × (d ≡ dimension_after b D y pre x.key))
      (places_from b D w f y e (pre ++ x ∷ post))
  unfolding places_after last_from
  unique_from w f y e [] x post a nz o =
      let l = last_shares b D deep y [] x post a in (
        λ d q. (sym (first_hits b D y.key (suc (shared b D y.key x.key)) y [] l), (settled_from e y d [] x post a nz o q).1),
        all_map (λ p n d q. absurd (n d q)) (places_after b D y e (x ∷ post)) (deep_links y e [] x post a nz o l),
      )
  unique_from w f y e (z ∷ pre) x post a nz o =
      at (dec_lt d (shared b D y.key A.key)) (unique_from y e z (shared b D y.key z.key) pre x post a.1 nz o.1)
    where
      A : Node
      A = last_from z pre

      d : ℕ
      d = shared b D A.key x.key

      later : List Node
      later = z ∷ (pre ++ x ∷ post)

      Parent : List Node → Place → Type 0
      Parent row p = (n : ℕ) → settled_link b D p n ≡ x.cell → (p.node.cell ≡ first_with b D A.key (suc d) row) × (n ≡ d)

      at : Dec (d < shared b D y.key A.key) → All (Parent (z ∷ pre)) (places_after b D y e later) →
          All (Parent (y ∷ z ∷ pre)) (places_from b D w f y e later)
      at (yes h) ih = (
        λ n q. (sym (first_hits b D A.key (suc d) y (z ∷ pre) h), (settled_from e y n (z ∷ pre) x post a nz o q).1),
        all_map (λ p k n q. absurd (k n q)) (places_after b D y e later) (deep_links y e (z ∷ pre) x post a nz o h),
      )
      at (no h) ih = (
        λ n q. let t = settled_from e y n (z ∷ pre) x post a nz o q in absurd (omega arith),
        all_map (λ p k n q. ((k n q).0 ∙ sym (first_skips b D A.key (suc d) y (z ∷ pre) (omega arith)), (k n q).1)) (places_after b D y e later) ih,
      )

  -- Where the parent stands, whether what is later holds x yet or not

  pub first_place :
      (d : ℕ) (w : Node) (f : ℕ) (y : Node) (e : ℕ) (pre later : List Node) → Asc y.key pre → Apart (y ∷ pre) → d < D →
      (d < shared b D y.key (last_from y pre).key → e ≤ d) →
      (p : Place) × (place_of (first_with b D (last_from y pre).key (suc d) (y ∷ pre)) (places_from b D w f y e (pre ++ later)) ≡ Some p)
      × ParentPlace b D d (last_from y pre) later p
  unfolding place_of places_after last_from
  first_place d w f y e [] later a o h i =
      let l : d < shared b D y.key y.key = omega (arith, shared_same b D y.key) in
      let p : Place = record { node = y; dimension = e; before = w; before_dimension = f; later = later } in (
        p,
        rw (first_hits b D y.key (suc d) y [] l, eq-eqb y.cell y.cell refl)
            refl,
        record { between = []; later_is = refl; last_is = refl; ascends = tt; low = i l; shares = l },
      )
  first_place d w f y e (z ∷ pre) later a o h i =
      at (dec_lt d (shared b D y.key A.key)) (first_place d y e z (shared b D y.key z.key) pre later a.1 o.1 h)
    where
      A : Node
      A = last_from z pre

      y_place : Place
      y_place = record { node = y; dimension = e; before = w; before_dimension = f; later = z ∷ (pre ++ later) }

      Stands : List Node → List Place → Type 0
      Stands row standing = (p : Place) × (place_of (first_with b D A.key (suc d) row) standing ≡ Some p) × ParentPlace b D d A later p

      at : Dec (d < shared b D y.key A.key) → ((d < shared b D z.key A.key → shared b D y.key z.key ≤ d) →
          Stands (z ∷ pre) (places_after b D y e y_place.later)) → Stands (y ∷ z ∷ pre) (y_place ∷ places_after b D y e y_place.later)
      at (yes l) ih = (
        y_place,
        rw (first_hits b D A.key (suc d) y (z ∷ pre) l, eq-eqb y.cell y.cell refl)
            refl,
        record { between = z ∷ pre; later_is = refl; last_is = refl; ascends = a; low = i l; shares = l },
      )
      at (no l) ih =
          let k = a.0 in
          let g = last_least z pre a.1 in
          let u = ultra b D y.key z.key A.key pos (omega arith) g in
          let t = ih (λ m. omega arith) in
          let q : suc d ≤ shared b D A.key A.key = omega (arith, shared_same b D A.key) in
          let other : y.cell ≡ first_with b D A.key (suc d) (z ∷ pre) → ⊥ =
          first_among b D (λ c. y.cell ≡ c → ⊥) A.key (suc d) z pre q (λ r. o.0.0 (sym r)) (all_map (λ x n r. n (sym r)) pre o.0.1) in
          let m : shared b D y.key A.key < suc d = omega arith in
          let Found : ℕ → Type 0 = λ c. place_of c (y_place ∷ places_after b D y e y_place.later) ≡ Some t.0 in
          (t.0, subst Found (sym (first_skips b D A.key (suc d) y (z ∷ pre) m)) (rw (ne_eqb y.cell (first_with b D A.key (suc d) (z ∷ pre)) other) t.1), t.2)

  -- what a node shares with the last one is at most that one's dimension
  pub last_dimension : (y : Node) (z : Node) (row : List Node) → Asc y.key (z ∷ row) →
      shared b D y.key (last_from z row).key ≤ dimension_from b D z (shared b D y.key z.key) row
  unfolding last_from dimension_from
  last_dimension y z [] a = omega arith
  last_dimension y z (x ∷ row) a =
      let h = a.0 in
      let g = last_least z (x ∷ row) a.1 in
      let u = ultra b D y.key z.key (last_from x row).key pos (omega arith) g in
      let k = last_dimension z x row a.1 in
      omega arith

  -- the last node is itself the first that shares enough, if its dimension is small
  pub last_first :
      (d : ℕ) (y : Node) (e : ℕ) (pre : List Node) → Asc y.key pre → d < D → dimension_from b D y e pre ≤ d →
      first_with b D (last_from y pre).key (suc d) (y ∷ pre) ≡ (last_from y pre).cell
  unfolding last_from dimension_from
  last_first d y e [] a h l = first_hits b D y.key (suc d) y [] (omega (arith, shared_same b D y.key))
  last_first d y e (z ∷ pre) a h l =
      let k = last_dimension y z pre a in
      first_skips b D (last_from z pre).key (suc d) y (z ∷ pre) (omega arith)
      ∙ last_first d z (shared b D y.key z.key) pre a.1 h l

-- In a row of a state

module _ (s : State) (pre : List Node) (x : Node) (post : List Node) (pos : 0 < s.settings.base) (deep : 0 < s.settings.dimensions)
    (a : Asc 0 (pre ++ x ∷ post)) (o : Apart (head_node ∷ (pre ++ x ∷ post))) where
  pub parent_is : parent_in s x.cell (pre ++ x ∷ post) ≡ parent_after s.settings.base s.settings.dimensions head_node pre x.key
  unfolding parent_in places dimension_at
  parent_is =
      let b = s.settings.base in
      let D = s.settings.dimensions in
      let n = apart_at head_node pre x post o in
      rw (place_at b D head_node 0 head_node 0 pre x post (n.0, all_left (λ z. z.cell ≡ x.cell → ⊥) pre post n.1))
      (leads_first b D pos deep head_node 0 head_node 0 pre x post a (λ e. n.0 (sym e)) n.1 (λ h. omega arith))

  -- a place with a settled link that leads to x is the parent, and the link's number is x's dimension
  pub parent_unique :
      All (λ p. (d : ℕ) → settled_link s.settings.base s.settings.dimensions p d ≡ x.cell →
      (p.node.cell ≡ parent_after s.settings.base s.settings.dimensions head_node pre x.key)
      × (d ≡ dimension_after s.settings.base s.settings.dimensions head_node pre x.key))
      (places s.settings.base s.settings.dimensions (pre ++ x ∷ post))
  unfolding places
  parent_unique =
      let n = apart_at head_node pre x post o in
      unique_from s.settings.base s.settings.dimensions pos deep head_node 0 head_node 0 pre x post a (λ e. n.0 (sym e)) n.1
