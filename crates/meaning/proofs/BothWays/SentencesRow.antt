-- The places of an ascending row, one to another: each but the head's has a place before it, each but the last a place after it, and of
-- two different places one is later than the other. And the first node of such a row for which something holds is the least one.
use mathlib.Core.Path.{◌≡◌, refl}
use mathlib.Core.List.{List, [], ◌∷◌, Memᴰ}
use Prim.Native.Nat.{ℕ, ◌≤◌, ◌<◌}
use native.Mathlib.Decide.{ℕ_discrete, dec_lt}
use native.Mathlib.Omega.{arith}
use borrow.Author.Tests.{eq-eqb, ne_eqb, lt-ltb, le-ltb}
use Rattle.lists.proofs.All.{All, all_map, all_zip, members}
use Rattle.meaning.specs.Keys.{shared}
use Rattle.meaning.specs.Row.{Node, head_node, first_sharing, Place, head_place, places_after, places}
use Rattle.meaning.specs.Picture.{first_with}
use Rattle.meaning.proofs.Rows.AscendingRow.{Asc, asc_above}

-- Members

-- Neighbours

-- a place by its parts
abbrev place : Node → ℕ → Node → ℕ → List Node → Place
place x e a f later = record { node = x; dimension = e; before = a; before_dimension = f; later = later }

-- q is the place after p
pub record Next (b D : ℕ) (p q : Place) : Type 0 where
  pub before : q.before ≡ p.node
  pub before_dimension : q.before_dimension ≡ p.dimension
  pub dimension : q.dimension ≡ shared b D p.node.key q.node.key
  pub later : p.later ≡ q.node ∷ q.later

-- p has a place after it for which Q holds, or is the last
pub data Followed (b D : ℕ) (Q : Place → Type 0) (p : Place) : Type 0 where
  last : p.later ≡ [] → Followed b D Q p
  followed : (q : Place) → Q q → Next b D p q → Followed b D Q p

-- p is the head's place, or has a place before it for which Q holds
pub data Led (b D : ℕ) (Q : Place → Type 0) (row : List Node) (p : Place) : Type 0 where
  head : p ≡ head_place row → Led b D Q row p
  led : (q : Place) → Q q → Next b D q p → Led b D Q row p

module _ (b D : ℕ) (Q : Place → Type 0) where
  next_is : (x a : Node) (e : ℕ) (before : Node) (f : ℕ) (row : List Node) →
      Next b D (place a e before f (x ∷ row)) (place x (shared b D a.key x.key) a e row)
  next_is x a e before f row = record { before = refl; before_dimension = refl; dimension = refl; later = refl }

  followed_after_lem : (a : Node) (e : ℕ) (before : Node) (f : ℕ) (row : List Node) → All Q (places_after b D a e row) →
      All (Followed b D Q) (place a e before f row ∷ places_after b D a e row)
  unfolding places_after
  followed_after_lem a e before f [] all = (last refl, tt)
  followed_after_lem a e before f (x ∷ row) all =
      let d = shared b D a.key x.key in
      (followed (place x d a e row) all.0 (next_is x a e before f row), followed_after_lem x d a e row all.1)

  led_after : (top : List Node) (a : Node) (e : ℕ) (before : Node) (f : ℕ) (row : List Node) →
      Q (place a e before f row) → All Q (places_after b D a e row) → All (Led b D Q top) (places_after b D a e row)
  unfolding places_after
  led_after top a e before f [] here all = tt
  led_after top a e before f (x ∷ row) here all =
      let d = shared b D a.key x.key in
      (led (place a e before f (x ∷ row)) here (next_is x a e before f row), led_after top x d a e row all.0 all.1)

  pub places_followed : (row : List Node) → All Q (places b D row) → All (Followed b D Q) (places b D row)
  unfolding places
  places_followed row all = followed_after_lem head_node 0 head_node 0 row all.1

  pub places_led : (row : List Node) → All Q (places b D row) → All (Led b D Q row) (places b D row)
  unfolding places
  places_led row all = (head refl, led_after row head_node 0 head_node 0 row all.0 all.1)

-- Order

-- the place q is later than a place with this key and these later nodes
pub record Later (key : ℕ) (later : List Node) (q : Place) : Type 0 where
  pub member : Memᴰ q.node later
  pub up_to : key ≤ q.before.key
  pub larger : key < q.node.key

pub data Compared (p q : Place) : Type 0 where
  same : p ≡ q → Compared p q
  later : Later p.node.key p.later q → Compared p q
  earlier : Later q.node.key q.later p → Compared p q

-- all places are later than those in front of them
abbrev InOrder : List Place → Type 0
InOrder [] = Unit {0}
InOrder (p ∷ ps) = All (Later p.node.key p.later) ps × InOrder ps

in_order_compared : (ps : List Place) → InOrder ps → All (λ p. All (λ q. Compared p q) ps) ps
in_order_compared [] o = tt
in_order_compared (p ∷ ps) o =
    ((same refl, all_map (λ q l. later l) ps o.0), all_zip (λ q l more. (earlier l, more)) ps o.0 (in_order_compared ps o.1))

module _ (b D : ℕ) where
  all_later : (key : ℕ) (top : List Node) (a : Node) (e : ℕ) (row : List Node) → key ≤ a.key → Asc a.key row → All (λ y. Memᴰ y top) row →
      All (Later key top) (places_after b D a e row)
  unfolding places_after
  all_later key top a e [] h asc m = tt
  all_later key top a e (x ∷ row) h asc m =
      let k = asc.0 in
      let d = shared b D a.key x.key in
      (record { member = m.0; up_to = h; larger = omega arith }, all_later key top x d row (omega arith) asc.1 m.1)

  in_order_after : (a : Node) (e : ℕ) (before : Node) (f : ℕ) (row : List Node) → Asc a.key row →
      InOrder (place a e before f row ∷ places_after b D a e row)
  unfolding places_after
  in_order_after a e before f [] asc = (tt, tt)
  in_order_after a e before f (x ∷ row) asc =
      let d = shared b D a.key x.key in
      (all_later a.key (x ∷ row) a e (x ∷ row) (omega arith) asc (members (x ∷ row)), in_order_after x d a e row asc.1)

  -- of two places of an ascending row, one is later than the other, or they are the same
  pub places_compared : (row : List Node) → Asc 0 row → All (λ p. All (λ q. Compared p q) (places b D row)) (places b D row)
  unfolding places
  places_compared row asc = in_order_compared (places b D row) (in_order_after head_node 0 head_node 0 row asc)

  ascends_after : (a : Node) (e : ℕ) (row : List Node) → Asc a.key row → All (λ p. Asc p.node.key p.later) (places_after b D a e row)
  unfolding places_after
  ascends_after a e [] asc = tt
  ascends_after a e (x ∷ row) asc = (asc.1, ascends_after x (shared b D a.key x.key) row asc.1)

  pub places_ascend : (row : List Node) → Asc 0 row → All (λ p. Asc p.node.key p.later) (places b D row)
  unfolding places
  places_ascend row asc = (asc, ascends_after head_node 0 row asc)

-- The least of some nodes

-- the cell of the least-key node for which P holds, or 0 if there is none
pub data Least (P : Node → Type 0) (row : List Node) : ℕ → Type 0 where
  least : (y : Node) → Memᴰ y row → P y → All (λ z. P z → y.key ≤ z.key) row → Least P row y.cell
  nowhere : All (λ z. P z → ⊥) row → Least P row 0

module _ (P : Node → Type 0) where
  least_here : (y : Node) (row : List Node) → Asc y.key row → P y → Least P (y ∷ row) y.cell
  least_here y row asc h =
      least y (Memᴰ.head refl) h ((λ q. omega arith), all_map (λ z k q. omega arith) row (asc_above y.key row asc))

  least_past : (y : Node) (row : List Node) {c : ℕ} → (P y → ⊥) → Least P row c → Least P (y ∷ row) c
  least_past y row never (least z m h a) = least z (Memᴰ.tail m) h ((λ q. absurd (never q)), a)
  least_past y row never (nowhere a) = nowhere (never, a)

-- the node shares exactly d coordinates with a key, or at least n
abbrev pub SharesExactly : ℕ → ℕ → ℕ → ℕ → Node → Type 0
SharesExactly b D key d y = shared b D key y.key ≡ d

abbrev pub SharesAtLeast : ℕ → ℕ → ℕ → ℕ → Node → Type 0
SharesAtLeast b D key n y = n ≤ shared b D y.key key

module _ (b D key : ℕ) where
  pub first_sharing_lem : (d low : ℕ) (row : List Node) → Asc low row → Least (SharesExactly b D key d) row (first_sharing b D key d row)
  unfolding first_sharing
  first_sharing_lem d low [] asc = nowhere tt
  first_sharing_lem d low (y ∷ row) asc = at (ℕ_discrete (shared b D key y.key) d) (first_sharing_lem d y.key row asc.1)
    where
      at : Dec (shared b D key y.key ≡ d) → Least (SharesExactly b D key d) row (first_sharing b D key d row) →
          Least (SharesExactly b D key d) (y ∷ row) (first_sharing b D key d (y ∷ row))
      at (yes e) more = rw (eq-eqb (shared b D key y.key) d e) (least_here (SharesExactly b D key d) y row asc.1 e)
      at (no ne) more = rw (ne_eqb (shared b D key y.key) d ne) (least_past (SharesExactly b D key d) y row ne more)

  first_with_more : (n : ℕ) (y : Node) (row : List Node) → Asc y.key row → Least (SharesAtLeast b D key n) row (first_with b D key n row) →
      Least (SharesAtLeast b D key n) (y ∷ row) (first_with b D key n (y ∷ row))
  unfolding first_with
  first_with_more n y row asc more = at (dec_lt (shared b D y.key key) n)
    where
      at : Dec (shared b D y.key key < n) → Least (SharesAtLeast b D key n) (y ∷ row) (first_with b D key n (y ∷ row))
      at (yes h) = rw (lt-ltb (shared b D y.key key) n h) (least_past (SharesAtLeast b D key n) y row (λ k. omega arith) more)
      at (no h) = rw (le-ltb (shared b D y.key key) n (omega arith)) (least_here (SharesAtLeast b D key n) y row asc (omega arith))

  pub first_with_lem : (n : ℕ) (y : Node) (row : List Node) → Asc y.key row → Least (SharesAtLeast b D key n) (y ∷ row) (first_with b D key n (y ∷ row))
  unfolding first_with
  first_with_lem n y [] asc = first_with_more n y [] asc (nowhere tt)
  first_with_lem n y (z ∷ row) asc = first_with_more n y (z ∷ row) asc (first_with_lem n z row asc.1)
