-- The rule for looked, put by the key before: a key is met exactly if the one before it is below k and shares as many coordinates with k as
-- with it. Up to k the rule counts just the keys met; above k at most the least key is counted, by either half of the rule, exactly if met.
use mathlib.Core.Path.{◌≡◌, refl, ◌∙◌, ap}
use mathlib.Core.Bool.{Bool, true, false, cond, ◌&&◌, not, and-true}
use mathlib.Core.List.{List, [], ◌∷◌, ◌++◌, map}
use Prim.Native.Nat.{ℕ, ◌^◌, ◌≤◌, ◌<◌, min}
use native.Mathlib.Decide.{dec_le, ℕ_discrete}
use native.Mathlib.Omega.{arith}
use lib.Dec.{eqb, leb, ltb}
use borrow.Author.Tests.{ltb-true, leb-true, eqb-true, lt-ltb, le-ltb, le-leb, lt-leb, eq-eqb, ne_eqb}
use Rattle.lists.specs.Lists.{every}
use Rattle.lists.proofs.All.{All, all_every}
use Rattle.lists.proofs.Tests.{both, and_both, tests_same}
use Rattle.meaning.specs.Keys.{coordinate, shared}
use Rattle.meaning.specs.Row.{Node}
use Rattle.meaning.specs.Rule.{counted, least_above, plus_one, rule}
use Rattle.meaning.proofs.Rows.AscendingRow.{Asc, asc_above}
use Rattle.meaning.proofs.Rows.Keys.{shared_same, shared_sym, shared_less, ultra, triangle, coordinate_same, coordinate_less}

-- the keys of a row
abbrev pub keys : List Node → List ℕ
keys row = map (λ x. x.key) row

-- the rule's test of a key and the one before it, for the keys counted
abbrev pub counts : ℕ → ℕ → ℕ → ℕ → ℕ → Bool
counts b D k before x =
    leb (shared b D before x) (shared b D x k) && leb (coordinate b D x (shared b D before x)) (coordinate b D k (shared b D before x))

-- the key before is below k and shares as many coordinates with k as with x
abbrev pub meets : ℕ → ℕ → ℕ → ℕ → ℕ → Bool
meets b D k before x = ltb before k && eqb (shared b D before k) (shared b D before x)

-- the nodes met for k, of a row in ascending order, where `before` is the key before it
unfoldable pub met : ℕ → ℕ → ℕ → ℕ → List Node → List Node
met b D k before [] = []
met b D k before (x ∷ row) = cond (meets b D k before x.key) (x ∷ met b D k x.key row) (met b D k x.key row)

-- from k on no key is met
pub none_met : (b D k a : ℕ) (row : List Node) → k ≤ a → Asc a row → met b D k a row ≡ []
unfolding met
none_met b D k a [] h asc = refl
none_met b D k a (x ∷ row) h asc = rw (le-ltb a k h) (none_met b D k x.key row (let l = asc.0 in omega arith) asc.1)

-- both tests of a key, as facts
counts_facts : (b D k a x : ℕ) → counts b D k a x ≡ true →
    (shared b D a x ≤ shared b D x k) × (coordinate b D x (shared b D a x) ≤ coordinate b D k (shared b D a x))
counts_facts b D k a x c =
    let t = both (leb (shared b D a x) (shared b D x k)) (leb (coordinate b D x (shared b D a x)) (coordinate b D k (shared b D a x))) c in
    (leb-true _ _ t.0, leb-true _ _ t.1)

meets_facts : (b D k a x : ℕ) → meets b D k a x ≡ true → (a < k) × (shared b D a k ≡ shared b D a x)
meets_facts b D k a x m =
    let t = both (ltb a k) (eqb (shared b D a k) (shared b D a x)) m in
    (ltb-true _ _ t.0, eqb-true _ _ t.1)

absorbed : (s t u : Bool) → (t ≡ true → s ≡ true) → (s && (t && u)) ≡ (t && u)
absorbed true t u f = refl
absorbed false true u f = absurd (let e = f refl in let z : ◌≡◌ {A = ℕ} 0 1 = cc in omega arith)
absorbed false false u f = refl

-- one key counted by the first half of the rule or else by the second
halves : (c m : Bool) (x : Node) → (c ≡ true → m ≡ true) →
    cond c (x.key ∷ []) [] ++ cond (m && not c) (x.key ∷ []) [] ≡ keys (cond m (x ∷ []) [])
halves true m x f = rw (f refl) refl
halves false true x f = refl
halves false false x f = refl

-- The rule from a key a on, and that what its second half asks of all keys is what it asks of a and the later ones.
abbrev RuleFrom : ℕ → ℕ → ℕ → List Node → ℕ → List Node → Type 0
RuleFrom b D k all a row = counted b D k a (keys row) ++ plus_one b D k (keys all) (least_above k (keys row)) ≡ keys (met b D k a row)

abbrev Most : ℕ → ℕ → ℕ → List Node → ℕ → List Node → Type 0
Most b D k all a row = (s : ℕ) → every (λ z. leb (shared b D z k) s) (0 ∷ keys all) ≡ every (λ z. leb (shared b D z k) s) (a ∷ keys row)

abbrev Fresh : ℕ → ℕ → ℕ → List Node → ℕ → List Node → Type 0
Fresh b D k all a row = (y : ℕ) → k < y → every (λ z. not (eqb z y)) (counted b D k 0 (keys all)) ≡ every (λ z. not (eqb z y)) (counted b D k a (keys row))

module _ (b D k : ℕ) (pos : 0 < b) (some : 0 < D) (kfits : k < b ^ D) where
  -- every key counted is met: k agrees with it where the key before first differs, and that one is smaller there
  counted_met : (a x : ℕ) → a < x → x < b ^ D → counts b D k a x ≡ true → meets b D k a x ≡ true
  counted_met a x h xfits c =
      go (counts_facts b D k a x c) (coordinate_less b D a x pos (omega arith) xfits h) (dec_le (shared b D a k) (shared b D a x)) (dec_le k a) (ℕ_discrete k a)
    where
      go : (shared b D a x ≤ shared b D x k) × (coordinate b D x (shared b D a x) ≤ coordinate b D k (shared b D a x)) →
          coordinate b D a (shared b D a x) < coordinate b D x (shared b D a x) →
          Dec (shared b D a k ≤ shared b D a x) → Dec (k ≤ a) → Dec (k ≡ a) → meets b D k a x ≡ true
      go f less (no m) l q = absurd (let same = coordinate_same b D a k (shared b D a x) (omega arith) in omega arith)
      go f less (yes m) (yes l) (yes q) = absurd (let same = ap (λ z. coordinate b D z (shared b D a x)) q in omega arith)
      go f less (yes m) (yes l) (no n) =
          absurd
          (let equal : shared b D k a ≡ shared b D a x = omega (arith, triangle b D a x k pos, shared_sym b D k a) in
          let more = rw equal at (coordinate_less b D k a pos kfits (omega arith) (omega arith)) in
          omega arith)
      go f less (yes m) (no l) q = and_both _ _ (lt-ltb a k (omega arith)) (eq-eqb (shared b D a k) (shared b D a x) (omega (arith, triangle b D a x k pos)))

  -- up to k every key met is counted
  met_counted : (a x : ℕ) → a < x → x < b ^ D → x ≤ k → meets b D k a x ≡ true → counts b D k a x ≡ true
  met_counted a x h xfits l m = go (meets_facts b D k a x m) (ultra b D a x k pos (omega arith) l) (ℕ_discrete x k) (dec_le (shared b D x k) (shared b D a x))
    where
      counts_from : shared b D a x ≤ shared b D x k → coordinate b D x (shared b D a x) ≤ coordinate b D k (shared b D a x) → counts b D k a x ≡ true
      counts_from s c = and_both _ _ (le-leb _ _ s) (le-leb _ _ c)

      go : (a < k) × (shared b D a k ≡ shared b D a x) → shared b D a k ≡ min (shared b D a x) (shared b D x k) →
          Dec (x ≡ k) → Dec (shared b D x k ≤ shared b D a x) → counts b D k a x ≡ true
      go f u (yes q) s = counts_from (omega arith) (omega (arith, ap (λ z. coordinate b D z (shared b D a x)) q))
      go f u (no n) (yes s) =
          let equal : shared b D x k ≡ shared b D a x = omega arith in
          counts_from (omega arith) (omega (arith, rw equal at (coordinate_less b D x k pos xfits kfits (omega arith))))
      go f u (no n) (no s) = counts_from (omega arith) (omega (arith, coordinate_same b D x k (shared b D a x) (omega arith)))

  counted_just_met : (a x : ℕ) → a < x → x < b ^ D → x ≤ k → counts b D k a x ≡ meets b D k a x
  counted_just_met a x h xfits l = tests_same (counts b D k a x) (meets b D k a x) (counted_met a x h xfits) (met_counted a x h xfits l)

  -- from k on no key is counted
  none_counted : (a : ℕ) (row : List Node) → k ≤ a → Asc a row → All (λ x. x.key < b ^ D) row → counted b D k a (keys row) ≡ []
  unfolding counted
  none_counted a [] h asc fits = refl
  none_counted a (x ∷ row) h asc fits = go (counts b D k a x.key) refl (none_counted x.key row (let l = asc.0 in omega arith) asc.1 fits.1)
    where
      go : (t : Bool) → counts b D k a x.key ≡ t → counted b D k x.key (keys row) ≡ [] → counted b D k a (keys (x ∷ row)) ≡ []
      go true e ih = absurd (let l = meets_facts b D k a x.key (counted_met a x.key asc.0 fits.0 e) in omega arith)
      go false e ih = rw e ih

  -- the least key above k is met exactly if it shares as many coordinates with k as the key before does
  above_met : (a x : ℕ) → a ≤ k → k < x → meets b D k a x ≡ leb (shared b D a k) (shared b D x k)
  above_met a x h l = go (ℕ_discrete a k) (dec_le (shared b D a k) (shared b D x k))
    where
      go : Dec (a ≡ k) → Dec (shared b D a k ≤ shared b D x k) → meets b D k a x ≡ leb (shared b D a k) (shared b D x k)
      go (yes q) s =
          let all : shared b D a k ≡ D = ap (λ z. shared b D z k) q ∙ shared_same b D k in
          let less = shared_less b D x k some (omega arith) in
          rw (le-ltb a k (omega arith), lt-leb (shared b D a k) (shared b D x k) (omega arith)) refl
      go (no n) (yes s) =
          let u = ultra b D a k x pos h (omega arith) in
          let turned = shared_sym b D k x in
          rw (lt-ltb a k (omega arith), eq-eqb (shared b D a k) (shared b D a x) (omega arith), le-leb (shared b D a k) (shared b D x k) s) refl
      go (no n) (no s) =
          let u = ultra b D a k x pos h (omega arith) in
          let turned = shared_sym b D k x in
          rw (
            lt-ltb a k (omega arith),
            ne_eqb (shared b D a k) (shared b D a x) (λ e. omega arith),
            lt-leb (shared b D a k) (shared b D x k)
                (omega arith),
          ) refl

  -- no later key shares more with k than the least key above k does
  later_share_less : (x : ℕ) (row : List Node) → k < x → Asc x row → every (λ z. leb (shared b D z k) (shared b D x k)) (keys row) ≡ true
  later_share_less x row h asc = all_every (λ z. leb (shared b D z k) (shared b D x k)) (keys row) (all_keys row (asc_above x row asc))
    where
      all_keys : (later : List Node) → All (λ y. x < y.key) later → All (λ z. leb (shared b D z k) (shared b D x k) ≡ true) (keys later)
      all_keys [] l = tt
      all_keys (y ∷ later) l =
          let m = l.0 in
          let u = ultra b D k x y.key pos (omega arith) (omega arith) in
          (le-leb (shared b D y.key k) (shared b D x k) (omega (arith, shared_sym b D x k, shared_sym b D y.key k)), all_keys later l.1)

  -- What the rule's second half asks of all keys, from a key a on: up to k each key shares with k at least what the one before does.
  most_before : (s a : ℕ) (x : Node) (row : List Node) → a < x.key → x.key ≤ k →
      every (λ z. leb (shared b D z k) s) (a ∷ keys (x ∷ row)) ≡ every (λ z. leb (shared b D z k) s) (keys (x ∷ row))
  unfolding every
  most_before s a x row h l = absorbed (leb (shared b D a k) s) (leb (shared b D x.key k) s) (every (λ z. leb (shared b D z k) s) (keys row))
      (λ e. le-leb (shared b D a k) s (let m = leb-true (shared b D x.key k) s e in omega (arith, ultra b D a x.key k pos (omega arith) l)))

  most_above : (a : ℕ) (x : Node) (row : List Node) → k < x.key → Asc x.key row →
      every (λ z. leb (shared b D z k) (shared b D x.key k)) (a ∷ keys (x ∷ row)) ≡ leb (shared b D a k) (shared b D x.key k)
  unfolding every
  most_above a x row h asc =
      rw (le-leb (shared b D x.key k) (shared b D x.key k) (omega arith), later_share_less x.key row h asc)
      (and-true (leb (shared b D a k) (shared b D x.key k)))

  -- not counted yet, from a key a on: a key up to k is not one above k
  fresh_before : (y a : ℕ) (x : Node) (row : List Node) → x.key ≤ k → k < y →
      every (λ z. not (eqb z y)) (counted b D k a (keys (x ∷ row))) ≡ every (λ z. not (eqb z y)) (counted b D k x.key (keys row))
  unfolding every counted
  fresh_before y a x row h l = go (counts b D k a x.key) refl
    where
      go : (t : Bool) → counts b D k a x.key ≡ t →
          every (λ z. not (eqb z y)) (counted b D k a (keys (x ∷ row))) ≡ every (λ z. not (eqb z y)) (counted b D k x.key (keys row))
      go true e = rw (e, ne_eqb x.key y (λ q. omega arith)) refl
      go false e = rw e refl

  counted_above : (a : ℕ) (x : Node) (row : List Node) → k < x.key → Asc x.key row → All (λ y. y.key < b ^ D) row →
      counted b D k a (keys (x ∷ row)) ≡ cond (counts b D k a x.key) (x.key ∷ []) []
  unfolding counted
  counted_above a x row h asc fits = rw (none_counted x.key row (omega arith) asc fits) refl

  fresh_above : (x : ℕ) (t : Bool) → every (λ z. not (eqb z x)) (cond t (x ∷ []) []) ≡ not t
  unfolding every
  fresh_above x true = rw (eq-eqb x x refl) refl
  fresh_above x false = refl

  met_above : (a : ℕ) (x : Node) (row : List Node) → k < x.key → Asc x.key row → met b D k a (x ∷ row) ≡ cond (meets b D k a x.key) (x ∷ []) []
  unfolding met
  met_above a x row h asc = rw (none_met b D k x.key row (omega arith) asc) refl

  rule_up_to : (all row : List Node) (x : Node) (a : ℕ) → a < x.key → x.key < b ^ D → x.key ≤ k →
      RuleFrom b D k all x.key row → RuleFrom b D k all a (x ∷ row)
  unfolding counted least_above met
  rule_up_to all row x a h fits l rest = go (meets b D k a x.key) refl
    where
      go : (t : Bool) → meets b D k a x.key ≡ t → RuleFrom b D k all a (x ∷ row)
      go true e = rw (counted_just_met a x.key h fits l, e, le-ltb k x.key l) (ap (λ l. x.key ∷ l) rest)
      go false e = rw (counted_just_met a x.key h fits l, e, le-ltb k x.key l) rest

  plus_above : (all row : List Node) (x : Node) (a : ℕ) → k < x.key → Asc x.key row → All (λ y. y.key < b ^ D) row →
      Most b D k all a (x ∷ row) → Fresh b D k all a (x ∷ row) →
      plus_one b D k (keys all) (least_above k (keys (x ∷ row)))
      ≡ cond (leb (shared b D a k) (shared b D x.key k) && not (counts b D k a x.key)) (x.key ∷ []) []
  unfolding least_above plus_one
  plus_above all row x a l asc fits most fresh =
      let shares-most = most (shared b D x.key k) ∙ most_above a x row l asc in
      rw (lt-ltb k x.key l, shares-most, fresh x.key l, counted_above a x row l asc fits, fresh_above x.key (counts b D k a x.key)) refl

  rule_above : (all row : List Node) (x : Node) (a : ℕ) → a ≤ k → k < x.key → x.key < b ^ D → Asc x.key row → All (λ y. y.key < b ^ D) row →
      Most b D k all a (x ∷ row) → Fresh b D k all a (x ∷ row) → RuleFrom b D k all a (x ∷ row)
  rule_above all row x a h l xfits asc fits most fresh =
      rw (plus_above all row x a l asc fits most fresh, counted_above a x row l asc fits, met_above a x row l asc, ← above_met a x.key h l)
      (halves (counts b D k a x.key) (meets b D k a x.key) x (counted_met a x.key (omega arith) xfits))

  rule_met_from : (all row : List Node) (a : ℕ) → a ≤ k → Asc a row → All (λ x. x.key < b ^ D) row →
      Most b D k all a row → Fresh b D k all a row → RuleFrom b D k all a row
  unfolding counted least_above plus_one met
  rule_met_from all [] a h asc fits most fresh = refl
  rule_met_from all (x ∷ row) a h asc fits most fresh = go (dec_le x.key k) (rule_met_from all row x.key)
    where
      go : Dec (x.key ≤ k) →
          (x.key ≤ k → Asc x.key row → All (λ y. y.key < b ^ D) row → Most b D k all x.key row →
          Fresh b D k all x.key row → RuleFrom b D k all x.key row) →
          RuleFrom b D k all a (x ∷ row)
      go (yes l) rest =
          rule_up_to all row x a asc.0 fits.0 l
          (rest l asc.1 fits.1 (λ s. most s ∙ most_before s a x row asc.0 l) (λ y m. fresh y m ∙ fresh_before y a x row l m))
      go (no n) rest = rule_above all row x a h (omega arith) fits.0 asc.1 fits.1 most fresh

  -- the rule is the list of the keys met
  pub rule_is_met : (row : List Node) → Asc 0 row → All (λ x. x.key < b ^ D) row → rule b D (keys row) k ≡ keys (met b D k 0 row)
  unfolding rule
  rule_is_met row asc fits = rule_met_from row row 0 (omega arith) asc fits (λ s. refl) (λ y l. refl)
