-- The check's one loop, step by step: what is left to read when a cell has been met comes to the same as the rest of what the account reads.
-- A cell's links may be put once they and its debt are right; where it owes, its one link is followed at once, and the links that it is due
-- are put with those of the cell that it owes from.
use mathlib.Core.Path.{◌≡◌, refl, sym, ap, ap₂, ◌∙◌}
use mathlib.Core.Bool.{Bool, true, false, cond, ◌&&◌, ◌||◌, not, and-true, and-false, or-true, or-false, false≢true}
use mathlib.Core.List.{List, ◌∷◌}
use Prim.Native.Nat.{ℕ, zero, suc, ◌+◌, ◌-◌, ◌≤◌, ◌<◌}
use native.Mathlib.Omega.{arith}
use lib.Dec.{eqb, ltb}
use borrow.Author.Tests.{eqb-true, eq-eqb, ne_eqb, ltb-true}
use Rattle.lists.proofs.Tests.{both}
use Rattle.meaning.specs.Row.{between}
use Rattle.meaning.specs.Words.{owed_at, low_at, high_at, link_at, dimensions_at, cells_at}
use Rattle.meaning.specs.Walk.{link_read}
use Rattle.meaning.proofs.Cells.WalkRead.{between_is, between_below, read_unowing, read_above, read_through}
use Rattle.account.specs.declared.Seen.{Seen}
use Rattle.account.specs.Tree.{all_from, follows, node_right, due_to, links_below, debt_right, path_right, cell_right, wrong, entered}
use Rattle.account.specs.Pending.{Link, put, put_from, put_links, followed, followed_all}
use Rattle.account.specs.Loop.{alone_right, met_right, met, hangs_right, links_none, owes_nothing, owes_right, Hung, plain, owed, verdict, no_list, left_over}
use Rattle.account.proofs.AcceptedTests.{all_from_lem, all_true}
use Rattle.account.proofs.Following.{followed_enough, followed_once}

-- Tests at each of some numbers

all_same : (test other : ℕ → Bool) (i n : ℕ) → ((d : ℕ) → i ≤ d → d < i + n → test d ≡ other d) → all_from test i n ≡ all_from other i n
unfolding all_from
all_same test other i zero same = refl
all_same test other i (suc n) same =
    ap₂ ◌&&◌ (same i (omega arith) (omega arith)) (all_same test other (suc i) n (λ d h l. same d (omega arith) (omega arith)))

all_append : (test : ℕ → Bool) (i m n : ℕ) → all_from test i (m + n) ≡ all_from test i m && all_from test (i + m) n
unfolding all_from
all_append test i zero n =
    let a : 0 + n ≡ n = omega arith in
    let b : i + 0 ≡ i = omega arith in
    rw (a, b) refl
all_append test i (suc m) n =
    let a : suc m + n ≡ suc (m + n) = omega arith in
    let b : i + suc m ≡ suc i + m = omega arith in
    rw (a, b) (ap (λ t. test i && t) (all_append test (suc i) m n) ∙ assoc (test i) (all_from test (suc i) m) (all_from test (suc i + m) n))
  where
    assoc : (s t u : Bool) → s && (t && u) ≡ (s && t) && u
    assoc true t u = refl
    assoc false t u = refl

-- Links that are put

pub put_zero : (link : ℕ → ℕ) (d : ℕ) (pending : List Link) → put_from link d 0 pending ≡ pending
unfolding put_from
put_zero link d pending = refl

put_append : (link : ℕ → ℕ) (d m n : ℕ) (pending : List Link) → put_from link d (m + n) pending ≡ put_from link (d + m) n (put_from link d m pending)
unfolding put_from
put_append link d zero n pending =
    let a : 0 + n ≡ n = omega arith in
    let b : d + 0 ≡ d = omega arith in
    rw (a, b) refl
put_append link d (suc m) n pending =
    let a : suc m + n ≡ suc (m + n) = omega arith in
    let b : d + suc m ≡ suc d + m = omega arith in
    rw (a, b) (put_append link (suc d) m n (put (link d) d pending))

put_same : (link other : ℕ → ℕ) (d n : ℕ) (pending : List Link) → ((i : ℕ) → d ≤ i → i < d + n → link i ≡ other i) →
    put_from link d n pending ≡ put_from other d n pending
unfolding put_from
put_same link other d zero pending same = refl
put_same link other d (suc n) pending same =
    put_same link other (suc d) n (put (link d) d pending) (λ i h l. same i (omega arith) (omega arith))
    ∙ ap (λ y. put_from other (suc d) n (put y d pending)) (same d (omega arith) (omega arith))

put_none : (link : ℕ → ℕ) (d n : ℕ) (pending : List Link) → ((i : ℕ) → d ≤ i → i < d + n → link i ≡ 0) → put_from link d n pending ≡ pending
unfolding put_from
put_none link d zero pending none = refl
put_none link d (suc n) pending none =
    put_none link (suc d) n (put (link d) d pending) (λ i h l. none i (omega arith) (omega arith))
    ∙ ap (λ y. put y d pending) (none d (omega arith) (omega arith))

put_one : (link : ℕ → ℕ) (d : ℕ) (pending : List Link) → (link d ≡ 0 → ⊥) → put_from link d 1 pending ≡ record { cell = link d; number = d } ∷ pending
unfolding put_from
put_one link d pending some = rw (ne_eqb (link d) 0 some) refl

-- How a cell was met

pub hung_least : {ws : List ℕ} {x e from : ℕ} → Hung ws x e from → from ≤ e
hung_least (plain none same) = omega arith
hung_least (owed some low less high) = omega arith

-- The links of y below e are none but those that x is due exactly if those below `from` are none.
links_tested : {ws : List ℕ} {x e from : ℕ} → Hung ws x e from → (y : ℕ) → links_below ws x y e ≡ links_none ws y from
unfolding links_below links_none
links_tested {ws} {x} {e} {from} (plain none same) y =
    all_same (λ d. eqb (link_at ws y d) 0 || due_to ws x d) (λ d. eqb (link_at ws y d) 0) 0 e
    (λ d h l.
    ap (λ t. eqb (link_at ws y d) 0 || (not t && between (low_at ws x) (high_at ws x) d)) (eq-eqb (owed_at ws x) 0 none) ∙ or-false (eqb (link_at ws y d) 0))
    ∙ ap (all_from (λ d. eqb (link_at ws y d) 0) 0) (sym same)
links_tested {ws} {x} {e} {from} (owed some low less high) y =
    let parts : e ≡ from + (e - from) = omega arith in
    let least : 0 + from ≡ from = omega arith in
    ap (all_from below 0) parts
    ∙ all_append below 0 from (e - from)
    ∙ ap₂ ◌&&◌
    (all_same below (λ d. eqb (link_at ws y d) 0) 0 from
    (λ d h l. ap (λ t. eqb (link_at ws y d) 0 || (not (eqb (owed_at ws x) 0) && t)) (between_below (low_at ws x) (high_at ws x) d (omega arith))
    ∙ ap (λ t. eqb (link_at ws y d) 0 || t) (and-false (not (eqb (owed_at ws x) 0))) ∙ or-false (eqb (link_at ws y d) 0)))
    (all_true below (0 + from) (e - from)
    (λ d h l.
    ap₂ (λ t u. eqb (link_at ws y d) 0 || (not t && u)) (ne_eqb (owed_at ws x) 0 some) (between_is (low_at ws x) (high_at ws x) d (omega arith) (omega arith))
    ∙ or-true (eqb (link_at ws y d) 0)))
    ∙ and-true (all_from (λ d. eqb (link_at ws y d) 0) 0 from)
  where
    below : ℕ → Bool
    below d = eqb (link_at ws y d) 0 || due_to ws x d

-- What y owes is right where it is nothing, ..
debt_none : (ws : List ℕ) (x y e : ℕ) → owes_nothing ws y ≡ true → debt_right ws x y e ≡ true
unfolding debt_right owes_nothing
debt_none ws x y e none = let (o, lh) = both (eqb (owed_at ws y) 0) (eqb (low_at ws y) 0 && eqb (high_at ws y) 0) none in rw o lh

-- .. and else where it was met by a link of its own number and owes as a cell may.
debt_tested : {ws : List ℕ} {x e from : ℕ} → Hung ws x e from → (y : ℕ) → owes_nothing ws y ≡ false → debt_right ws x y e ≡ (eqb from e && owes_right ws y e)
unfolding debt_right owes_nothing owes_right
debt_tested {ws} {x} {e} {from} h y some = at (eqb (owed_at ws y) 0) (eqb (low_at ws y) 0 && eqb (high_at ws y) 0) some
  where
    more : Bool
    more =
        eqb (low_at ws y) e
        && (ltb e (high_at ws y)
        && (ltb (high_at ws y) (dimensions_at ws)
        && (ltb (owed_at ws y) (cells_at ws)
        && all_from (λ d. eqb (link_at ws y d) (cond (eqb d (high_at ws y)) (owed_at ws y) 0)) 0 (dimensions_at ws))))

    before : {ws : List ℕ} {x e from : ℕ} → Hung ws x e from → eqb (owed_at ws x) 0 ≡ eqb from e
    before {ws} {x} {e} {from} (plain none same) = eq-eqb (owed_at ws x) 0 none ∙ sym (eq-eqb from e same)
    before {ws} {x} {e} {from} (owed owes low less high) = ne_eqb (owed_at ws x) 0 owes ∙ sym (ne_eqb from e (λ q. omega arith))

    at : (o z : Bool) → o && z ≡ false → cond o z (eqb (owed_at ws x) 0 && more) ≡ (eqb from e && (not o && more))
    at true z f = f ∙ sym (and-false (eqb from e))
    at false z f = ap (λ t. t && more) (before h)

pub owes_none : (ws : List ℕ) (y : ℕ) → owes_nothing ws y ≡ true → owed_at ws y ≡ 0
unfolding owes_nothing
owes_none ws y t = eqb-true (owed_at ws y) 0 (both (eqb (owed_at ws y) 0) (eqb (low_at ws y) 0 && eqb (high_at ws y) 0) t).0

-- Which links are put

-- of a cell that owes nothing: its own, from `from` on
put_free : (ws : List ℕ) (y e from : ℕ) (pending : List Link) → owed_at ws y ≡ 0 → from ≤ e → e ≤ dimensions_at ws →
    put_links ws y e (put_from (link_at ws y) from (e - from) pending) ≡ put_from (link_at ws y) from (dimensions_at ws - from) pending
put_free ws y e from pending none h l =
    let D = dimensions_at ws in
    let split : D - from ≡ (e - from) + (D - e) = omega arith in
    let next : from + (e - from) ≡ e = omega arith in
    put_same (link_read ws y) (link_at ws y) e (D - e) (put_from (link_at ws y) from (e - from) pending) (λ d i m. read_unowing ws y d none)
    ∙ sym (ap (λ n. put_from (link_at ws y) from n pending) split ∙ put_append (link_at ws y) from (e - from) (D - e) pending
    ∙ ap (λ d. put_from (link_at ws y) d (D - e) (put_from (link_at ws y) from (e - from) pending)) next)

-- what a cell that owes as it may says
pub record Owes (ws : List ℕ) (y e : ℕ) : Type 0 where
  pub some : owed_at ws y ≡ 0 → ⊥
  pub low : low_at ws y ≡ e
  pub high : e < high_at ws y
  pub inside : high_at ws y < dimensions_at ws
  pub cell : owed_at ws y < cells_at ws
  pub links : (d : ℕ) → d < dimensions_at ws → link_at ws y d ≡ cond (eqb d (high_at ws y)) (owed_at ws y) 0

pub owes_told : (ws : List ℕ) (y e : ℕ) → owes_right ws y e ≡ true → Owes ws y e
unfolding owes_right
owes_told ws y e t =
    let link : ℕ → Bool = λ d. eqb (link_at ws y d) (cond (eqb d (high_at ws y)) (owed_at ws y) 0) in
    let D = dimensions_at ws in
    let (o, t1) = both (not (eqb (owed_at ws y) 0)) _ t in
    let (l, t2) = both (eqb (low_at ws y) e) _ t1 in
    let (h, t3) = both (ltb e (high_at ws y)) _ t2 in
    let (i, t4) = both (ltb (high_at ws y) D) _ t3 in
    let (c, all) = both (ltb (owed_at ws y) (cells_at ws)) (all_from link 0 D) t4 in
    record {
      some = λ z. false≢true (sym (ap not (eq-eqb (owed_at ws y) 0 z)) ∙ o);
      low = eqb-true (low_at ws y) e l;
      high = ltb-true e (high_at ws y) h;
      inside = ltb-true (high_at ws y) D i;
      cell = ltb-true (owed_at ws y) (cells_at ws) c;
      links = λ d m. eqb-true (link_at ws y d) _ (all_from_lem link 0 D d all (omega arith) (omega arith));
    }

-- .. of such a cell: its one link, after those that it is due, which stand in the cell that it owes from
put_owing : (ws : List ℕ) (y e : ℕ) (pending : List Link) → Owes ws y e →
    put_links ws y e pending
    ≡ record { cell = owed_at ws y; number = high_at ws y } ∷ put_from (link_at ws (owed_at ws y)) e (high_at ws y - e) pending
put_owing ws y e pending o =
    let D = dimensions_at ws in
    let high = high_at ws y in
    let above = o.high in
    let inside = o.inside in
    let low = o.low in
    let some : 0 < owed_at ws y = (let ne = o.some in positive (owed_at ws y) ne) in
    let split : D - e ≡ (high - e) + (1 + (D - suc high)) = omega arith in
    let first : e + (high - e) ≡ high = omega arith in
    let due = put_from (link_at ws (owed_at ws y)) e (high - e) pending in
    let link : link_read ws y high ≡ owed_at ws y =
    read_above ws y high (omega arith) ∙ o.links high inside ∙ ap (λ t. cond t (owed_at ws y) 0) (eq-eqb high high refl) in
    ap (λ n. put_from (link_read ws y) e n pending) split
    ∙ put_append (link_read ws y) e (high - e) (1 + (D - suc high)) pending
    ∙ ap₂ (λ d p. put_from (link_read ws y) d (1 + (D - suc high)) p) first
    (put_same (link_read ws y) (link_at ws (owed_at ws y)) e (high - e) pending (λ d h l. read_through ws y d some (omega arith) (omega arith)))
    ∙ put_append (link_read ws y) high 1 (D - suc high) due
    ∙ put_none (link_read ws y) (high + 1) (D - suc high) (put_from (link_read ws y) high 1 due)
    (λ d h l. read_above ws y d (omega arith) ∙ o.links d (omega arith) ∙ ap (λ t. cond t (owed_at ws y) 0) (ne_eqb d high (λ q. omega arith)))
    ∙ put_one (link_read ws y) high due (λ z. o.some (sym link ∙ z))
    ∙ ap (λ c. record { cell = c; number = high } ∷ due) link
  where
    positive : (n : ℕ) → (n ≡ 0 → ⊥) → 0 < n
    positive zero ne = absurd (ne refl)
    positive (suc n) ne = omega arith

module _ (ws : List ℕ) {x e from : ℕ} (h : Hung ws x e from) (y : ℕ) (inside : e ≤ dimensions_at ws) (pending : List Link) (s : Seen) where
  -- its links are wrong
  pub links_wrong : links_none ws y from ≡ false → verdict (left_over ws x y e from pending s) ≡ no_list
  links_wrong f =
      ap (λ t. verdict (cond (t && debt_right ws x y e) (followed_all ws (put_links ws y e (put_from (link_at ws y) from (e - from) pending)) s) (wrong s)))
      (links_tested h y ∙ f)

  module _ (links : links_none ws y from ≡ true) where
    hangs_is : hangs_right ws x y e ≡ debt_right ws x y e
    hangs_is = ap (λ t. t && debt_right ws x y e) (links_tested h y ∙ links)

    -- it owes nothing: its links are put
    pub goes_free : owes_nothing ws y ≡ true →
        left_over ws x y e from pending s ≡ followed_all ws (put_from (link_at ws y) from (dimensions_at ws - from) pending) s
    goes_free none =
        ap (λ t. cond t (followed_all ws (put_links ws y e (put_from (link_at ws y) from (e - from) pending)) s) (wrong s)) (hangs_is ∙ debt_none ws x y e none)
        ∙ ap (λ p. followed_all ws p s) (put_free ws y e from pending (owes_none ws y none) (hung_least h) inside)

    module _ (some : owes_nothing ws y ≡ false) where
      -- it owes otherwise than a cell may
      pub debt_wrong : eqb from e && owes_right ws y e ≡ false → verdict (left_over ws x y e from pending s) ≡ no_list
      debt_wrong f =
          ap (λ t. verdict (cond t (followed_all ws (put_links ws y e (put_from (link_at ws y) from (e - from) pending)) s) (wrong s)))
          (hangs_is ∙ debt_tested h y some ∙ f)

      -- it owes: its one link is followed
      pub goes_owing : from ≡ e → owes_right ws y e ≡ true →
          left_over ws x y e from pending s
          ≡ followed_all ws (record { cell = owed_at ws y; number = high_at ws y } ∷ put_from (link_at ws (owed_at ws y)) e (high_at ws y - e) pending) s
      goes_owing same owes =
          let none : e - from ≡ 0 = omega arith in
          ap (λ t. cond t (followed_all ws (put_links ws y e (put_from (link_at ws y) from (e - from) pending)) s) (wrong s))
          (hangs_is ∙ debt_tested h y some ∙ ap₂ ◌&&◌ (eq-eqb from e same) owes)
          ∙ ap (λ n. followed_all ws (put_links ws y e (put_from (link_at ws y) from n pending)) s) none
          ∙ ap (λ p. followed_all ws (put_links ws y e p) s) (put_zero (link_at ws y) from pending)
          ∙ ap (λ p. followed_all ws p s) (put_owing ws y e pending (owes_told ws y e owes))

-- A cell is met

-- the tests of a cell, those of its links and its debt last
regroup : (a b c d e f p : Bool) → (a && (b && (c && (d && (e && f))))) && p ≡ ((a && (b && (c && d))) && p) && (e && f)
regroup true true true true e f p = and_comm (e && f) p
  where
    and_comm : (s t : Bool) → s && t ≡ t && s
    and_comm true true = refl
    and_comm true false = refl
    and_comm false true = refl
    and_comm false false = refl
regroup true true true false e f p = refl
regroup true true false d e f p = refl
regroup true false c d e f p = refl
regroup false b c d e f p = refl

cell_parts : (ws : List ℕ) (y e : ℕ) (s : Seen) → cell_right ws y e s ≡ met_right ws y e s && hangs_right ws s.last y e
unfolding cell_right met_right
cell_parts ws y e s =
    regroup (ltb 0 s.left) (ltb y (cells_at ws)) (follows ws s.last y e) (node_right ws y s.reached)
    (links_below ws s.last y e) (debt_right ws s.last y e) (path_right ws y e s)

entered_is : (ws : List ℕ) (y e : ℕ) (s : Seen) → entered ws y e s ≡ cond (met_right ws y e s && hangs_right ws s.last y e) (met ws y e s) (wrong s)
unfolding entered
entered_is ws y e s = ap (λ t. cond t (met ws y e s) (wrong s)) (cell_parts ws y e s)

met_left : (ws : List ℕ) (y e : ℕ) (s : Seen) → met_right ws y e s ≡ true → 0 < s.left
unfolding met_right
met_left ws y e s t = ltb-true 0 s.left (both (ltb 0 s.left) _ (both (alone_right ws y e s) _ t).0).0

module _ (ws : List ℕ) (y e : ℕ) (pending : List Link) (s : Seen) where
  -- it is wrong
  pub met_wrong : met_right ws y e s ≡ false → verdict (followed_all ws (record { cell = y; number = e } ∷ pending) s) ≡ no_list
  met_wrong f =
      ap verdict (followed_once ws (record { cell = y; number = e }) pending s)
      ∙ ap (λ u. verdict (cond u.right (followed s.left ws (put_links ws y e pending) u) u))
      (entered_is ws y e s ∙ ap (λ t. cond (t && hangs_right ws s.last y e) (met ws y e s) (wrong s)) f)

  -- it is right, and what is left is to be done
  pub met_goes : met_right ws y e s ≡ true → (other : List Link) (from : ℕ) → pending ≡ put_from (link_at ws y) from (e - from) other →
      verdict (followed_all ws (record { cell = y; number = e } ∷ pending) s) ≡ verdict (left_over ws s.last y e from other (met ws y e s))
  met_goes t other from is =
      ap verdict (followed_once ws (record { cell = y; number = e }) pending s)
      ∙ ap (λ u. verdict (cond u.right (followed s.left ws (put_links ws y e pending) u) u))
      (entered_is ws y e s ∙ ap (λ b. cond (b && hangs_right ws s.last y e) (met ws y e s) (wrong s)) t)
      ∙ at (hangs_right ws s.last y e)
    where
      some : 0 < s.left
      some = met_left ws y e s t

      at : (b : Bool) →
          verdict (cond (cond b (met ws y e s) (wrong s)).right (followed s.left ws (put_links ws y e pending) (cond b (met ws y e s) (wrong s)))
          (cond b (met ws y e s) (wrong s)))
          ≡ verdict (cond b (followed_all ws (put_links ws y e (put_from (link_at ws y) from (e - from) other)) (met ws y e s)) (wrong (met ws y e s)))
      at false = refl
      at true =
          ap verdict
          (followed_enough s.left (suc (met ws y e s).left) ws (put_links ws y e pending) (met ws y e s) (omega (arith, some)) (omega arith)
          ∙ ap (λ p. followed_all ws (put_links ws y e p) (met ws y e s)) is)
