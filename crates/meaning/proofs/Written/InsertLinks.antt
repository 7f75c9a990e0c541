-- What a new node x changes of the links of a row, where nothing is owed that it touches. A link of a node before x changes only if it
-- leads to x, and that is link p of the parent. The next larger node's dimension becomes q: if that is more than it was, x owes, and
-- what the node then has below q is just what x is due. What comes later keeps its links.
use Rattle.std.specs.Prelude.{Option, None, Some}
use mathlib.Core.Path.{◌≡◌, refl, sym, ◌∙◌, ap, subst, subst₂}
use mathlib.Core.Bool.{Bool, true, false, cond, ◌&&◌, and-false}
use mathlib.Core.List.{List, [], ◌∷◌, ◌++◌}
use Prim.Native.Nat.{ℕ, ◌≤◌, ◌<◌, min}
use native.Mathlib.Omega.{arith}
use native.Mathlib.Decide.{ℕ_discrete, dec_lt, dec_le}
use lib.Dec.{eqb, leb, ltb}
use borrow.Author.Tests.{leb-true, eq-eqb, ne_eqb, le-leb, lt-leb, lt-ltb, le-ltb}
use Rattle.lists.proofs.All.{All, all_map, all_zip}
use Rattle.lists.proofs.Tests.{both, and_both}
use Rattle.meaning.specs.Keys.{shared}
use Rattle.meaning.specs.Row.{Node, head_node, first_of, first_sharing, Place, places_after, places, settled_link, owed, low, high, between, link, place_of}
use Rattle.meaning.specs.State.{State}
use Rattle.meaning.proofs.Rows.AscendingRow.{Asc, asc_above}
use Rattle.meaning.proofs.Rows.Keys.{shared_less, ultra}
use Rattle.meaning.proofs.Pictures.Picture.{place_here, place_past, Told, told}
use Rattle.meaning.proofs.Rows.Places.{asc_left, last_from}
use Rattle.meaning.proofs.Rows.Parent.{dimension_after, parent_after, places_from, Apart, ParentPlace, asc_last, apart_left, sharing_skips}
use Rattle.meaning.proofs.Rows.Parent.{sharing_hits, sharing_none, link_leads, first_place, parent_unique, sharing_alike, sharing_above}
use Rattle.meaning.proofs.Cells.WalkRead.{all_places, between_not, between_is, settled_above, between_below, link_due, due_link, link_owing}
use Rattle.meaning.proofs.Cells.WalkRead.{link_tested, link_settled}
use Rattle.meaning.proofs.BothWays.SentencesRow.{places_ascend}

-- Choices between numbers

cond_same : (t u : Bool) (v w v' w' : ℕ) → t ≡ u → (u ≡ true → v ≡ v') → (u ≡ false → w ≡ w') → cond t v w ≡ cond u v' w'
cond_same t u v w v' w' e f g = ap (λ r. cond r v w) e ∙ at u f g
  where
    at : (u : Bool) → (u ≡ true → v ≡ v') → (u ≡ false → w ≡ w') → cond u v w ≡ cond u v' w'
    at true f g = f refl
    at false f g = g refl

and_same : (o t u : Bool) → (o ≡ true → t ≡ u) → (o && t) ≡ (o && u)
and_same true t u e = e refl
and_same false t u e = refl

zero_either : (t : Bool) (v : ℕ) → v ≡ 0 → cond t 0 v ≡ 0
zero_either true v e = refl
zero_either false v e = e

zero_or : (t : Bool) (v : ℕ) → v ≡ 0 → cond t v 0 ≡ 0
zero_or true v e = e
zero_or false v e = refl

-- x of dimension d, after a of dimension e
abbrev pub place_after : Node → ℕ → Node → ℕ → List Node → Place
place_after a e x d later = record { node = x; dimension = d; before = a; before_dimension = e; later = later }

-- Links as they stand, by who owes

module _ (b D : ℕ) where
  link_same :
      (p q : Place) (d : ℕ) → link_due p d ≡ link_due q d → (link_due q d ≡ true → due_link b D p d ≡ due_link b D q d) → link_owing b D p d ≡ link_owing b D q d →
      (link_owing b D q d ≡ false → settled_link b D p d ≡ settled_link b D q d) → link b D p d ≡ link b D q d
  unfolding link
  link_same p q d e f g h =
      cond_same (link_due p d) (link_due q d) (due_link b D p d) (cond (link_owing b D p d) 0 (settled_link b D p d)) (due_link b D q d)
      (cond (link_owing b D q d) 0 (settled_link b D q d)) e f
      (λ undue. cond_same (link_owing b D p d) (link_owing b D q d) 0 (settled_link b D p d) 0 (settled_link b D q d) g (λ y. refl) h)

  -- after a node that owes nothing
  pub link_undue : (p : Place) (d : ℕ) → p.before.owes ≡ false → link b D p d ≡ cond (link_owing b D p d) 0 (settled_link b D p d)
  link_undue p d e = link_tested b D p d (ap (λ t. t && between p.before_dimension p.dimension d) e) refl

  -- of a node that owes nothing
  unowing : (p : Place) (d : ℕ) → p.node.owes ≡ false → link_owing b D p d ≡ false
  unowing p d e = ap (λ t. t && between (low p) (high b D p) d) e

  pub link_unowing : (p : Place) (d : ℕ) → p.node.owes ≡ false → link b D p d ≡ cond (link_due p d) (due_link b D p d) (settled_link b D p d)
  link_unowing p d e = link_tested b D p d refl (unowing p d e)

  -- where neither owes, every link is settled
  pub link_unowed : (p : Place) (d : ℕ) → p.before.owes ≡ false → p.node.owes ≡ false → link b D p d ≡ settled_link b D p d
  link_unowed p d e f = link_undue p d e ∙ ap (λ t. cond t 0 (settled_link b D p d)) (unowing p d f)

  -- from the dimension up, the links of a place that owes nothing are settled
  pub link_above : (p : Place) (d : ℕ) → p.node.owes ≡ false → p.dimension ≤ d → link b D p d ≡ first_sharing b D p.node.key d p.later
  link_above p d e h = link_settled b D p d h (unowing p d e) ∙ settled_above b D p d h

-- Two rows, place by place

-- Place p, in a row where cell n stands, has the words that q has where it does not, but for links that lead to n.
pub record Kept (b D n : ℕ) (p q : Place) : Type 0 where
  pub node : p.node ≡ q.node
  pub owed : owed p ≡ owed q
  pub low : low p ≡ low q
  pub high : high b D p ≡ high b D q
  pub links : (d : ℕ) → (settled_link b D p d ≡ n → ⊥) → link b D p d ≡ link b D q d

-- both are found, and R holds of them, or neither is
abbrev pub OnBoth : (Place → Place → Type 0) → Option Place → Option Place → Type 0
OnBoth R None None = Unit {0}
OnBoth R None (Some q) = ⊥
OnBoth R (Some p) None = ⊥
OnBoth R (Some p) (Some q) = R p q

module _ (b D n : ℕ) where
  kept_itself : (p : Place) → Kept b D n p p
  kept_itself p = record { node = refl; owed = refl; low = refl; high = refl; links = λ d h. refl }

  both_itself : (o : Option Place) → OnBoth (Kept b D n) o o
  both_itself None = tt
  both_itself (Some p) = kept_itself p

  both_step :
      (c : ℕ) (p q : Place) (ps qs : List Place) → Kept b D n p q → OnBoth (Kept b D n) (place_of c ps) (place_of c qs) →
      OnBoth (Kept b D n) (place_of c (p ∷ ps)) (place_of c (q ∷ qs))
  both_step c p q ps qs k more = at (ℕ_discrete q.node.cell c)
    where
      same : p.node.cell ≡ q.node.cell
      same = ap (λ y. y.cell) k.node

      at : Dec (q.node.cell ≡ c) → OnBoth (Kept b D n) (place_of c (p ∷ ps)) (place_of c (q ∷ qs))
      at (yes e) = subst₂ (OnBoth (Kept b D n)) (sym (place_here c p ps (same ∙ e))) (sym (place_here c q qs e)) k
      at (no ne) = subst₂ (OnBoth (Kept b D n)) (sym (place_past c p ps (λ e. ne (sym same ∙ e)))) (sym (place_past c q qs ne)) more

-- What is sought

module _ (b D : ℕ) where
  -- a link that does not lead to x leads where it would lead without x
  pub sharing_put :
      (key d : ℕ) (pre : List Node) (x : Node) (post : List Node) → (first_sharing b D key d (pre ++ x ∷ post) ≡ x.cell → ⊥) →
      first_sharing b D key d (pre ++ x ∷ post) ≡ first_sharing b D key d (pre ++ post)
  unfolding first_sharing
  sharing_put key d [] x post other = at (ℕ_discrete (shared b D key x.key) d)
    where
      at : Dec (shared b D key x.key ≡ d) → first_sharing b D key d (x ∷ post) ≡ first_sharing b D key d post
      at (yes e) = absurd (other (sharing_hits b D key d x post e))
      at (no ne) = rw (ne_eqb (shared b D key x.key) d ne) refl
  sharing_put key d (y ∷ pre) x post other = at (ℕ_discrete (shared b D key y.key) d) other (sharing_put key d pre x post)
    where
      at : Dec (shared b D key y.key ≡ d) → (cond (eqb (shared b D key y.key) d) y.cell (first_sharing b D key d (pre ++ x ∷ post)) ≡ x.cell → ⊥) →
          ((first_sharing b D key d (pre ++ x ∷ post) ≡ x.cell → ⊥) → first_sharing b D key d (pre ++ x ∷ post) ≡ first_sharing b D key d (pre ++ post)) →
          first_sharing b D key d (y ∷ (pre ++ x ∷ post)) ≡ first_sharing b D key d (y ∷ (pre ++ post))
      at (yes e) o ih = sharing_hits b D key d y (pre ++ x ∷ post) e ∙ sym (sharing_hits b D key d y (pre ++ post) e)
      at (no ne) o ih =
          let same = ih (rw (ne_eqb (shared b D key y.key) d ne) at o) in
          rw (ne_eqb (shared b D key y.key) d ne) same

  -- below what x shares with the next larger node, the links of the two lead to the same
  pub sharing_next : 0 < b → (key d : ℕ) (z : Node) (rest : List Node) → key < z.key → Asc z.key rest → d < shared b D key z.key →
      first_sharing b D key d (z ∷ rest) ≡ first_sharing b D z.key d rest
  sharing_next pos key d z rest h a l =
      sharing_skips b D key d (z ∷ []) rest (λ e. omega arith, tt)
      ∙ sharing_alike b D key z.key d rest (all_map (λ u k. let m = ultra b D key z.key u.key pos (omega arith) (omega arith) in
      (λ e. omega arith, λ e. omega arith)) rest (asc_above z.key rest a))

-- The new node and what comes behind it

-- whether a new node of dimension p owes, by what is above it: if p is below what it shares with the next larger node
abbrev pub new_owes : ℕ → ℕ → ℕ → ℕ → List Node → Bool
new_owes b D key p [] = false
new_owes b D key p (z ∷ rest) = ltb p (shared b D key z.key)

-- its link d: to the next larger node, if that has the slot, as the number of coordinates that they share, and no other
abbrev pub new_link : ℕ → ℕ → ℕ → ℕ → List Node → ℕ → ℕ
new_link b D key p [] d = 0
new_link b D key p (z ∷ rest) d = cond (leb p (shared b D key z.key) && eqb d (shared b D key z.key)) z.cell 0

-- the next larger node, if it has the slot, owes nothing
abbrev pub NextUnowing : ℕ → ℕ → ℕ → ℕ → List Node → Type 0
NextUnowing b D key p [] = Unit {0}
NextUnowing b D key p (z ∷ rest) = p ≤ shared b D key z.key → z.owes ≡ false

module _ (b D : ℕ) (pos : 0 < b) where
  -- the links of a place of dimension p, after a node that owes nothing, if it owes just the links p to q-1
  pub link_of_new :
      (p : Place) (d : ℕ) → p.before.owes ≡ false → Asc p.node.key p.later → p.node.owes ≡ new_owes b D p.node.key p.dimension p.later →
      link b D p d ≡ new_link b D p.node.key p.dimension p.later d
  link_of_new p d un a own = at p.later refl a own
    where
      key : ℕ
      key = p.node.key

      e : ℕ
      e = p.dimension

      unsettled : settled_link b D p d ≡ 0 → link b D p d ≡ 0
      unsettled f = link_undue b D p d un ∙ zero_either (link_owing b D p d) (settled_link b D p d) f

      at : (later : List Node) → p.later ≡ later → Asc key later → p.node.owes ≡ new_owes b D key e later → link b D p d ≡ new_link b D key e later d
      at [] is a own = unsettled (zero_or (leb e d) (first_sharing b D key d p.later) (ap (first_sharing b D key d) is ∙ sharing_none b D key d [] tt))
      at (z ∷ rest) is a own = split (dec_lt d e) (dec_lt d q) (ℕ_discrete d q)
        where
          q : ℕ
          q = shared b D key z.key

          sought : e ≤ d → settled_link b D p d ≡ first_sharing b D key d (z ∷ rest)
          sought h = settled_above b D p d h ∙ ap (first_sharing b D key d) is

          no_link : (e ≤ q → d ≡ q → ⊥) → cond (leb e q && eqb d q) z.cell 0 ≡ 0
          no_link f = ap (λ t. cond t z.cell 0) (and_test (dec_le e q))
            where
              and_test : Dec (e ≤ q) → (leb e q && eqb d q) ≡ false
              and_test (yes h) = rw (le-leb e q h) (ne_eqb d q (f h))
              and_test (no h) = rw (lt-leb e q (omega arith)) refl

          owned : e < q → d < q → e ≤ d → link_owing b D p d ≡ true
          owned h l g =
              let o : p.node.owes ≡ true = own ∙ lt-ltb e q h in
              let low_is = ap (λ t. cond t e 0) o in
              let high_is = ap (λ t. cond t (shared b D key (first_of p.later).key) 0) o ∙ ap (λ r. shared b D key (first_of r).key) is in
              and_both p.node.owes (between (low p) (high b D p) d) o (between_is (low p) (high b D p) d (omega arith) (omega arith))

          unowned : d ≡ q → link_owing b D p d ≡ false
          unowned g =
              and_same p.node.owes (between (low p) (high b D p) d) false
              (λ o.
              let high_is = ap (λ t. cond t (shared b D key (first_of p.later).key) 0) o ∙ ap (λ r. shared b D key (first_of r).key) is in
              between_not (low p) (high b D p) d (omega arith))
              ∙ and-false p.node.owes

          split : Dec (d < e) → Dec (d < q) → Dec (d ≡ q) → link b D p d ≡ cond (leb e q && eqb d q) z.cell 0
          split (yes h) l g =
              unsettled (ap (λ t. cond t (first_sharing b D key d p.later) 0) (lt-leb e d h)) ∙ sym (no_link (λ m n. omega (arith, h, m, n)))
          split (no h) (yes l) g =
              link_undue b D p d un ∙ ap (λ t. cond t 0 (settled_link b D p d)) (owned (omega arith) l (omega arith))
              ∙ sym (no_link (λ m n. omega (arith, l, n)))
          split (no h) (no l) (yes g) =
              let m : e ≤ q = omega arith in
              link_undue b D p d un
              ∙ ap (λ t. cond t 0 (settled_link b D p d)) (unowned g)
              ∙ sought (omega arith)
              ∙ sharing_hits b D key d z rest (sym g)
              ∙ sym (ap (λ t. cond t z.cell 0) (and_both (leb e q) (eqb d q) (le-leb e q m) (eq-eqb d q g)))
          split (no h) (no l) (no g) =
              unsettled (sought (omega arith) ∙ sharing_above b D pos key d z rest (let h = a.0 in omega arith) a.1 (omega arith))
              ∙ sym (no_link (λ m n. g n))

  -- The next larger node z: before x stood it came after a and had dimension min p q, now it comes after x and has dimension q.
  pub link_of_next :
      (a x z : Node) (e d : ℕ) (rest : List Node) → a.key < x.key → Asc x.key (z ∷ rest) → a.owes ≡ false →
      x.owes ≡ new_owes b D x.key (shared b D a.key x.key) (z ∷ rest) → NextUnowing b D x.key (shared b D a.key x.key) (z ∷ rest) →
      link b D (place_after x (shared b D a.key x.key) z (shared b D x.key z.key) rest) d
      ≡ link b D (place_after a e z (shared b D a.key z.key) rest) d
  link_of_next a x z e d rest h asc un own next = at (dec_le p q)
    where
      p : ℕ
      p = shared b D a.key x.key

      q : ℕ
      q = shared b D x.key z.key

      before : Place
      before = place_after a e z (shared b D a.key z.key) rest

      now : Place
      now = place_after x p z q rest

      least : before.dimension ≡ min p q
      least = ultra b D a.key x.key z.key pos (omega (arith, h)) (omega (arith, asc.0))

      at : Dec (p ≤ q) → link b D now d ≡ link b D before d
      at (yes g) = paid (next g) (dec_lt d p) (dec_lt d q)
        where
          settled : z.owes ≡ false → link b D before d ≡ settled_link b D before d
          settled o = link_unowed b D before d un o

          given : z.owes ≡ false → (t : Bool) → link_due now d ≡ t → link b D now d ≡ cond t (first_sharing b D x.key d (z ∷ rest)) (settled_link b D now d)
          given o t f = link_unowing b D now d o ∙ ap (λ r. cond r (due_link b D now d) (settled_link b D now d)) f

          undue : between p q d ≡ false → link_due now d ≡ false
          undue f = ap (λ t. x.owes && t) f ∙ and-false x.owes

          paid : z.owes ≡ false → Dec (d < p) → Dec (d < q) → link b D now d ≡ link b D before d
          paid o (yes l) m =
              given o false (undue (between_below p q d l))
              ∙ ap (λ t. cond t (first_sharing b D z.key d rest) 0) (lt-leb q d (omega (arith, g, l)))
              ∙ sym (settled o ∙ ap (λ t. cond t (first_sharing b D z.key d rest) 0) (lt-leb before.dimension d (omega (arith, g, l, least))))
          paid o (no l) (yes m) =
              let owes : x.owes ≡ true = own ∙ lt-ltb p q (omega arith) in
              given o true (and_both x.owes (between p q d) owes (between_is p q d (omega arith) m))
              ∙ sharing_next b D pos x.key d z rest asc.0 asc.1 m
              ∙ sym (settled o ∙ settled_above b D before d (omega (arith, g, l, least)))
          paid o (no l) (no m) =
              given o false (undue (between_not p q d (omega (arith, m))))
              ∙ settled_above b D now d (omega (arith, m))
              ∙ sym (settled o ∙ settled_above b D before d (omega (arith, g, m, least)))
      at (no g) =
          let f : x.owes ≡ false = own ∙ le-ltb p q (omega arith) in
          let same : q ≡ before.dimension = omega (arith, g, least) in
          link_undue b D now d f
          ∙ ap (λ m. cond (z.owes && between (cond z.owes m 0) (high b D before) d) 0 (cond (leb m d) (first_sharing b D z.key d rest) 0)) same
          ∙ sym (link_undue b D before d un)

  -- if it owes, it does not have the slot, and its dimension stays
  next_stays :
      (a x z : Node) (rest : List Node) → a.key < x.key → x.key < z.key → NextUnowing b D x.key (shared b D a.key x.key) (z ∷ rest) →
      z.owes ≡ true → shared b D x.key z.key ≡ shared b D a.key z.key
  next_stays a x z rest h l next o = at (dec_le (shared b D a.key x.key) (shared b D x.key z.key))
    where
      at : Dec (shared b D a.key x.key ≤ shared b D x.key z.key) → shared b D x.key z.key ≡ shared b D a.key z.key
      at (yes g) = absurd (let f = next g in let y : ◌≡◌ {A = ℕ} 0 1 = cc in omega arith)
      at (no g) = omega (arith, g, ultra b D a.key x.key z.key pos (omega arith) (omega arith))

  kept_next :
      (n : ℕ) (a x z : Node) (e : ℕ) (rest : List Node) → a.key < x.key → Asc x.key (z ∷ rest) → a.owes ≡ false →
      x.owes ≡ new_owes b D x.key (shared b D a.key x.key) (z ∷ rest) → NextUnowing b D x.key (shared b D a.key x.key) (z ∷ rest) →
      Kept b D n (place_after x (shared b D a.key x.key) z (shared b D x.key z.key) rest)
      (place_after a e z (shared b D a.key z.key) rest)
  kept_next n a x z e rest h asc un own next =
      record {
        node = refl;
        owed = refl;
        low = cond_same z.owes z.owes (shared b D x.key z.key) 0 (shared b D a.key z.key) 0 refl
            (next_stays a x z rest h asc.0 next) (λ f. refl);
        high = refl;
        links = λ d f. link_of_next a x z e d rest h asc un own next;
      }

  -- the dimension of the node before matters only if that one owes
  kept_behind : (n : ℕ) (z : Node) (e f : ℕ) (rest : List Node) → (z.owes ≡ true → e ≡ f) → (c : ℕ) →
      OnBoth (Kept b D n) (place_of c (places_after b D z e rest)) (place_of c (places_after b D z f rest))
  unfolding places_after place_of
  kept_behind n z e f [] same c = tt
  kept_behind n z e f (u ∷ rest) same c =
      both_step b D n c (place e) (place f) behind behind
      (record {
        node = refl;
        owed = refl;
        low = refl;
        high = refl;
        links = λ d h.
            link_same b D (place e) (place f) d
            (and_same z.owes (between e (shared b D z.key u.key) d) (between f (shared b D z.key u.key) d)
            (λ o. ap (λ m. between m (shared b D z.key u.key) d) (same o)))
            (λ y. refl) refl (λ y. refl);
      })
      (both_itself b D n (place_of c behind))
    where
      place : ℕ → Place
      place m = place_after z m u (shared b D z.key u.key) rest

      behind : List Place
      behind = places_after b D u (shared b D z.key u.key) rest

  kept_above :
      (n : ℕ) (a x : Node) (e : ℕ) (post : List Node) → a.key < x.key → Asc x.key post → a.owes ≡ false →
      x.owes ≡ new_owes b D x.key (shared b D a.key x.key) post → NextUnowing b D x.key (shared b D a.key x.key) post →
      (c : ℕ) → OnBoth (Kept b D n) (place_of c (places_after b D x (shared b D a.key x.key) post)) (place_of c (places_after b D a e post))
  unfolding places_after place_of
  kept_above n a x e [] h asc un own next c = tt
  kept_above n a x e (z ∷ rest) h asc un own next c =
      both_step b D n c
      (place_after x (shared b D a.key x.key) z (shared b D x.key z.key) rest)
      (place_after a e z (shared b D a.key z.key) rest)
      (places_after b D z (shared b D x.key z.key) rest) (places_after b D z (shared b D a.key z.key) rest)
      (kept_next n a x z e rest h asc un own next)
      (kept_behind n z (shared b D x.key z.key) (shared b D a.key z.key) rest (next_stays a x z rest h asc.0 next) c)

  -- The nodes before x

  -- A node y before x, after a node w of dimension f. If w owes, it has no link to x; if y owes, x is not the next after it.
  kept_front :
      (w : Node) (f : ℕ) (y : Node) (e : ℕ) (front : List Node) (x : Node) (post : List Node) →
      (w.owes ≡ true → (d : ℕ) → f ≤ d → first_sharing b D w.key d (y ∷ (front ++ x ∷ post)) ≡ x.cell → ⊥) →
      (y.owes ≡ true → first_of (front ++ x ∷ post) ≡ first_of (front ++ post)) →
      Kept b D x.cell (place_after w f y e (front ++ x ∷ post))
      (place_after w f y e (front ++ post))
  kept_front w f y e front x post clear first =
      record {
        node = refl;
        owed = cond_same y.owes y.owes (first_of (front ++ x ∷ post)).cell 0 (first_of (front ++ post)).cell 0 refl
            (λ o. ap (λ z. z.cell) (first o)) (λ n. refl);
        low = refl;
        high = high_same;
        links = λ d other.
            link_same b D now before d refl
            (λ t.
            let one = both w.owes (between f e d) t in
            let two = both (leb f d) (ltb d e) one.1 in
            sharing_put b D w.key d (y ∷ front) x post (clear one.0 d (leb-true f d two.0)))
            (and_same y.owes (between (low now) (high b D now) d) (between (low before) (high b D before) d)
            (λ o. ap (λ m. between (low now) m d) high_same))
            (λ t. cond_same (leb e d) (leb e d) (first_sharing b D y.key d (front ++ x ∷ post)) 0 (first_sharing b D y.key d (front ++ post)) 0 refl
            (λ h. sharing_put b D y.key d front x post (λ g. other (settled_above b D now d (leb-true e d h) ∙ g))) (λ h. refl));
      }
    where
      now : Place
      now = place_after w f y e (front ++ x ∷ post)

      before : Place
      before = place_after w f y e (front ++ post)

      high_same : high b D now ≡ high b D before
      high_same = cond_same y.owes y.owes (shared b D y.key (first_of (front ++ x ∷ post)).key) 0
          (shared b D y.key (first_of (front ++ post)).key) 0 refl (λ o. ap (λ z. shared b D y.key z.key) (first o)) (λ n. refl)

  kept_from :
      (w : Node) (f : ℕ) (y : Node) (e : ℕ) (pre : List Node) (x : Node) (post : List Node) → Asc y.key (pre ++ x ∷ post) → (last_from y pre).owes ≡ false →
      (w.owes ≡ true → (d : ℕ) → f ≤ d → first_sharing b D w.key d (y ∷ (pre ++ x ∷ post)) ≡ x.cell → ⊥) →
      All (λ p. p.node.owes ≡ true → (d : ℕ) → settled_link b D p d ≡ x.cell → ⊥) (places_from b D w f y e (pre ++ x ∷ post)) →
      x.owes ≡ new_owes b D x.key (dimension_after b D y pre x.key) post → NextUnowing b D x.key (dimension_after b D y pre x.key) post →
      (c : ℕ) → (x.cell ≡ c → ⊥) → OnBoth (Kept b D x.cell) (place_of c (places_from b D w f y e (pre ++ x ∷ post)))
      (place_of c (places_from b D w f y e (pre ++ post)))
  unfolding places_after last_from
  kept_from w f y e [] x post asc un clear led own next c other =
      both_step b D x.cell c (place_after w f y e (x ∷ post)) (place_after w f y e post)
      (places_after b D y e (x ∷ post)) (places_after b D y e post)
      (kept_front w f y e [] x post clear (λ o. absurd (let z : ◌≡◌ {A = ℕ} 0 1 = cc in omega arith)))
      (subst (λ o. OnBoth (Kept b D x.cell) o (place_of c (places_after b D y e post)))
      (sym (place_past c (place_after y e x (shared b D y.key x.key) post) (places_after b D x (shared b D y.key x.key) post) other))
      (kept_above x.cell y x e post asc.0 asc.1 un own next c))
  kept_from w f y e (z ∷ pre) x post asc un clear led own next c other =
      let now : Place = place_after w f y e (z ∷ (pre ++ x ∷ post)) in
      both_step b D x.cell c now (place_after w f y e (z ∷ (pre ++ post)))
      (places_after b D y e (z ∷ (pre ++ x ∷ post))) (places_after b D y e (z ∷ (pre ++ post)))
      (kept_front w f y e (z ∷ pre) x post clear (λ o. refl))
      (kept_from y e z (shared b D y.key z.key) pre x post asc.1 un (λ o d h g. led.0 o d (settled_above b D now d h ∙ g)) led.1 own next c other)

-- In a row

-- Nothing is owed that the new node x touches: the node before it, its parent, and the next larger node if that has the slot, owe
-- nothing; and x itself owes exactly if that one has the slot and shares more with x than p coordinates.
pub record Cleared (b D : ℕ) (pre : List Node) (x : Node) (post : List Node) : Type 0 where
  pub last : (last_from head_node pre).owes ≡ false
  pub parent : All (λ y. y.cell ≡ parent_after b D head_node pre x.key → y.owes ≡ false) (head_node ∷ (pre ++ x ∷ post))
  pub next : NextUnowing b D x.key (dimension_after b D head_node pre x.key) post
  pub own : x.owes ≡ new_owes b D x.key (dimension_after b D head_node pre x.key) post

module _ (s : State) (pre : List Node) (x : Node) (post : List Node) (pos : 0 < s.settings.base) (deep : 0 < s.settings.dimensions)
    (a : Asc 0 (pre ++ x ∷ post)) (o : Apart (head_node ∷ (pre ++ x ∷ post)))
    (clear : Cleared s.settings.base s.settings.dimensions pre x post) where
  -- a place that owes has no link to x
  owing_leads_elsewhere :
      All (λ p. p.node.owes ≡ true → (d : ℕ) → settled_link s.settings.base s.settings.dimensions p d ≡ x.cell → ⊥)
      (places s.settings.base s.settings.dimensions (pre ++ x ∷ post))
  owing_leads_elsewhere =
      let b = s.settings.base in
      let D = s.settings.dimensions in
      all_zip (λ p unique paid owes d leads. let f = paid (unique d leads).0 in let z : ◌≡◌ {A = ℕ} 0 1 = cc in omega arith)
      (places b D (pre ++ x ∷ post)) (parent_unique s pre x post pos deep a o)
      (all_places (λ y. y.cell ≡ parent_after b D head_node pre x.key → y.owes ≡ false) b D (pre ++ x ∷ post) clear.parent.0 clear.parent.1)

  -- every other cell that stands stood, and keeps its words but for links that lead to x
  pub kept_places :
      (c : ℕ) → (x.cell ≡ c → ⊥) →
      OnBoth (Kept s.settings.base s.settings.dimensions x.cell)
      (place_of c (places s.settings.base s.settings.dimensions (pre ++ x ∷ post)))
      (place_of c (places s.settings.base s.settings.dimensions (pre ++ post)))
  unfolding places
  kept_places c other =
      kept_from s.settings.base s.settings.dimensions pos head_node 0 head_node 0 pre x post a clear.last
      (λ owes. absurd (let z : ◌≡◌ {A = ℕ} 0 1 = cc in omega arith)) owing_leads_elsewhere clear.own clear.next c other

  -- link p of the parent leads to x
  pub link_of_parent :
      (p : Place) → place_of (parent_after s.settings.base s.settings.dimensions head_node pre x.key)
      (places s.settings.base s.settings.dimensions (pre ++ x ∷ post)) ≡ Some p →
      link s.settings.base s.settings.dimensions p (dimension_after s.settings.base s.settings.dimensions head_node pre x.key) ≡ x.cell
  unfolding places
  link_of_parent p found =
      subst (λ q. link b D q d ≡ x.cell) same
      (link_above b D t d unowing h.low
      ∙ ap (first_sharing b D t.node.key d) h.later_is
      ∙ subst (λ m. shared b D m.key x.key < shared b D t.node.key m.key →
      first_sharing b D t.node.key (shared b D m.key x.key) (h.between ++ x ∷ post) ≡ x.cell) h.last_is
      (link_leads b D pos deep t.node h.between x post (subst (Asc t.node.key) h.later_is ascends)) h.shares)
    where
      b : ℕ
      b = s.settings.base

      D : ℕ
      D = s.settings.dimensions

      A : Node
      A = last_from head_node pre

      d : ℕ
      d = shared b D A.key x.key

      row : List Node
      row = pre ++ x ∷ post

      low : A.key < x.key
      low = (asc_last head_node pre (x ∷ post) a).0

      at : (t : Place) × (place_of (parent_after b D head_node pre x.key) (places b D row) ≡ Some t) × ParentPlace b D d A (x ∷ post) t
      at =
          first_place b D pos deep d head_node 0 head_node 0 pre (x ∷ post) (asc_left 0 pre (x ∷ post) a) (apart_left (head_node ∷ pre) (x ∷ post) o)
          (shared_less b D A.key x.key deep (omega (arith, low))) (λ q. omega arith)

      t : Place
      t = at.0

      h : ParentPlace b D d A (x ∷ post) t
      h = at.2

      same : t ≡ p
      same = let e = at.1 in let f : Some t ≡ Some p = sym e ∙ found in cc

      fact : (t.node.cell ≡ parent_after b D head_node pre x.key)
          × ((t.node.cell ≡ parent_after b D head_node pre x.key → t.node.owes ≡ false) × Asc t.node.key t.later)
      fact =
          subst (Told (λ q. (q.node.cell ≡ parent_after b D head_node pre x.key → q.node.owes ≡ false) × Asc q.node.key q.later)
          (parent_after b D head_node pre x.key)) at.1
          (told (λ q. (q.node.cell ≡ parent_after b D head_node pre x.key → q.node.owes ≡ false) × Asc q.node.key q.later)
          (parent_after b D head_node pre x.key) (places b D row)
          (all_zip (λ q f g. (f, g)) (places b D row)
          (all_places (λ y. y.cell ≡ parent_after b D head_node pre x.key → y.owes ≡ false) b D row clear.parent.0 clear.parent.1)
          (places_ascend b D row a)))

      unowing : t.node.owes ≡ false
      unowing = fact.1.0 fact.0

      ascends : Asc t.node.key t.later
      ascends = fact.1.1

  -- every other link of a cell other than x is as it was
  pub link_of_other :
      (c d : ℕ) (p q : Place) → place_of c (places s.settings.base s.settings.dimensions (pre ++ x ∷ post)) ≡ Some p →
      place_of c (places s.settings.base s.settings.dimensions (pre ++ post)) ≡ Some q → (x.cell ≡ c → ⊥) →
      (c ≡ parent_after s.settings.base s.settings.dimensions head_node pre x.key →
      d ≡ dimension_after s.settings.base s.settings.dimensions head_node pre x.key → ⊥) →
      link s.settings.base s.settings.dimensions p d ≡ link s.settings.base s.settings.dimensions q d
  link_of_other c d p q now before other elsewhere =
      let b = s.settings.base in
      let D = s.settings.dimensions in
      let kept = subst₂ (OnBoth (Kept b D x.cell)) now before (kept_places c other) in
      let unique =
      subst (Told (λ r. (m : ℕ) → settled_link b D r m ≡ x.cell → (r.node.cell ≡ parent_after b D head_node pre x.key)
      × (m ≡ dimension_after b D head_node pre x.key)) c) now
      (told (λ r. (m : ℕ) → settled_link b D r m ≡ x.cell → (r.node.cell ≡ parent_after b D head_node pre x.key)
      × (m ≡ dimension_after b D head_node pre x.key)) c (places b D (pre ++ x ∷ post)) (parent_unique s pre x post pos deep a o)) in
      kept.links d (λ leads. let u = unique.1 d leads in elsewhere (sym unique.0 ∙ u.0) u.1)
