-- Following what is pending reads the same cells as reading each child's own children in turn: once the links of x of the n highest numbers are
-- put, what is read until only the others are pending is what the children of x by these links come to.
use mathlib.Core.Path.{◌≡◌, refl, sym, ap, ap₂, ◌∙◌}
use mathlib.Core.Bool.{Bool, true, false, cond, false≢true}
use mathlib.Core.List.{List, [], ◌∷◌}
use Prim.Native.Nat.{ℕ, zero, suc, ◌-◌, ◌≤◌, ◌<◌}
use native.Mathlib.Omega.{arith}
use lib.Dec.{eqb}
use Rattle.lists.proofs.Tests.{cond_has}
use Rattle.meaning.specs.Words.{dimensions_at, cells_at}
use Rattle.meaning.specs.Walk.{link_read}
use Rattle.account.specs.declared.Seen.{Seen}
use Rattle.account.specs.Tree.{cell_right, entered, along, children, at_head, seen_all}
use Rattle.account.specs.Pending.{Link, put, put_from, put_links, followed, followed_all}
use Rattle.account.proofs.AcceptedTests.{cell_right_lem}

-- The cells left

pub entered_left : (ws : List ℕ) (y e : ℕ) (s : Seen) → (entered ws y e s).left ≤ s.left
unfolding entered
entered_left ws y e s = cond_has (λ (t : Seen). t.left ≤ s.left) (cell_right ws y e s) _ _ (omega arith) (omega arith)

-- a cell that is right is one less
pub entered_falls : (ws : List ℕ) (y e : ℕ) (s : Seen) → (entered ws y e s).right ≡ true → (entered ws y e s).left < s.left
unfolding entered
entered_falls ws y e s right = at (cell_right ws y e s) refl right
  where
    at : (t : Bool) → cell_right ws y e s ≡ t → (entered ws y e s).right ≡ true → (entered ws y e s).left < s.left
    at true c r = let some = (cell_right_lem ws y e s c).left in rw c (omega arith)
    at false c r = absurd (false≢true (rw c at r))

along_left : (higher : ℕ → Seen → Seen) (ws : List ℕ) (e : ℕ) → ((x : ℕ) (s : Seen) → (higher x s).left ≤ s.left) → (fuel x : ℕ) (s : Seen) →
    (along higher ws e fuel x s).left ≤ s.left
unfolding along
along_left higher ws e less zero x s = omega arith
along_left higher ws e less (suc fuel) x s =
    let t = higher x s in
    let y = link_read ws x e in
    let u = entered ws y e t in
    let of-t = less x s in
    let of-u = entered_left ws y e t in
    let more = along_left higher ws e less fuel y u in
    cond_has Less t.right _ _ (cond_has Less (eqb y 0) _ _ of-t (cond_has Less u.right _ _ (omega arith) (omega arith))) of-t
  where
    Less : Seen → Type 0
    Less r = r.left ≤ s.left

children_left : (fuel : ℕ) (ws : List ℕ) (n x : ℕ) (s : Seen) → (children fuel ws n x s).left ≤ s.left
unfolding children
children_left fuel ws zero x s = omega arith
children_left fuel ws (suc n) x s = along_left (children fuel ws n) ws (dimensions_at ws - suc n) (children_left fuel ws n) fuel x s

-- How many cells may be read says nothing, if it is more than are left.
pub followed_enough : (fuel more : ℕ) (ws : List ℕ) (pending : List Link) (s : Seen) → s.left < fuel → s.left < more →
    followed fuel ws pending s ≡ followed more ws pending s
unfolding followed
followed_enough zero more ws pending s h l = absurd (omega arith)
followed_enough (suc fuel) zero ws pending s h l = absurd (omega arith)
followed_enough (suc fuel) (suc more) ws [] s h l = refl
followed_enough (suc fuel) (suc more) ws (m ∷ pending) s h l =
    at (entered ws m.cell m.number s).right refl (followed_enough fuel more ws (put_links ws m.cell m.number pending))
  where
    t : Seen
    t = entered ws m.cell m.number s

    at : (r : Bool) → t.right ≡ r →
        ((u : Seen) → u.left < fuel → u.left < more →
        followed fuel ws (put_links ws m.cell m.number pending) u ≡ followed more ws (put_links ws m.cell m.number pending) u) →
        cond r (followed fuel ws (put_links ws m.cell m.number pending) t) t ≡ cond r (followed more ws (put_links ws m.cell m.number pending) t) t
    at true e on = let falls = entered_falls ws m.cell m.number s e in on t (omega arith) (omega arith)
    at false e on = refl

-- What is pending followed after something has been seen, if that is right
abbrev pub followed_after : List ℕ → List Link → Seen → Seen
followed_after ws pending t = cond t.right (followed_all ws pending t) t

-- one step of each
pub put_once : (link : ℕ → ℕ) (d n : ℕ) (pending : List Link) → put_from link d (suc n) pending ≡ put_from link (suc d) n (put (link d) d pending)
unfolding put_from
put_once link d n pending = refl

along_once : (higher : ℕ → Seen → Seen) (ws : List ℕ) (e rest x : ℕ) (s : Seen) →
    along higher ws e (suc rest) x s
    ≡ (let t = higher x s in
    let y = link_read ws x e in
    let u = entered ws y e t in
    cond t.right (cond (eqb y 0) t (cond u.right (along higher ws e rest y u) u)) t)
unfolding along
along_once higher ws e rest x s = refl

pub followed_once : (ws : List ℕ) (l : Link) (pending : List Link) (t : Seen) →
    followed_all ws (l ∷ pending) t
    ≡ (let u = entered ws l.cell l.number t in cond u.right (followed t.left ws (put_links ws l.cell l.number pending) u) u)
unfolding followed
followed_once ws l pending t = refl

module _ (ws : List ℕ) (fuel : ℕ) where
  -- the links of x of number e, and those of higher numbers, which are read as the children by them are
  along_followed : (n e : ℕ) → dimensions_at ws - e ≡ suc n →
      ((x : ℕ) (pending : List Link) (s : Seen) → s.right ≡ true → s.left < fuel →
      followed_all ws (put_from (link_read ws x) (suc e) n pending) s ≡ followed_after ws pending (children fuel ws n x s)) →
      (rest x : ℕ) (pending : List Link) (s : Seen) → s.right ≡ true → s.left < fuel → s.left < rest →
      followed_all ws (put_from (link_read ws x) e (suc n) pending) s ≡ followed_after ws pending (along (children fuel ws n) ws e rest x s)
  along_followed n e up higher zero x pending s right h l = absurd (omega arith)
  along_followed n e up higher (suc rest) x pending s right h l =
      ap (λ p. followed_all ws p s) (put_once (link_read ws x) e n pending)
      ∙ higher x (put y e pending) s right h
      ∙ at t.right refl (eqb y 0) refl u.right refl (along_followed n e up higher rest y pending)
      ∙ ap (followed_after ws pending) (sym (along_once (children fuel ws n) ws e rest x s))
    where
      t : Seen
      t = children fuel ws n x s

      y : ℕ
      y = link_read ws x e

      u : Seen
      u = entered ws y e t

      link : Link
      link = record { cell = y; number = e }

      way : Bool → Bool → Bool → Seen
      way r none goes = cond r (cond none t (cond goes (along (children fuel ws n) ws e rest y u) u)) t

      way_is : {r none goes : Bool} → t.right ≡ r → eqb y 0 ≡ none → u.right ≡ goes → way t.right (eqb y 0) u.right ≡ way r none goes
      way_is {r} {none} q z w = ap (λ b. way b (eqb y 0) u.right) q ∙ ap (λ b. way r b u.right) z ∙ ap (way r none) w

      at : (r : Bool) → t.right ≡ r → (none : Bool) → eqb y 0 ≡ none → (goes : Bool) → u.right ≡ goes →
          ((w : Seen) → w.right ≡ true → w.left < fuel → w.left < rest →
          followed_all ws (put_from (link_read ws y) e (suc n) pending) w ≡ followed_after ws pending (along (children fuel ws n) ws e rest y w)) →
          followed_after ws (put y e pending) t ≡ followed_after ws pending (way t.right (eqb y 0) u.right)
      at false q none z goes w more =
          ap (λ r. cond r (followed_all ws (put y e pending) t) t) q
          ∙ sym (ap (followed_after ws pending) (way_is q z w) ∙ ap (λ r. cond r (followed_all ws pending t) t) q)
      at true q true z goes w more =
          ap (λ none. followed_after ws (cond none pending (link ∷ pending)) t) z ∙ sym (ap (followed_after ws pending) (way_is q z w))
      at true q false z false w more =
          ap (λ none. followed_after ws (cond none pending (link ∷ pending)) t) z
          ∙ ap (λ r. cond r (followed_all ws (link ∷ pending) t) t) q
          ∙ followed_once ws link pending t
          ∙ ap (λ r. cond r (followed t.left ws (put_links ws y e pending) u) u) w
          ∙ sym (ap (followed_after ws pending) (way_is q z w) ∙ ap (λ r. cond r (followed_all ws pending u) u) w)
      at true q false z true w more =
          let falls = entered_falls ws y e t w in
          let less = children_left fuel ws n x s in
          ap (λ none. followed_after ws (cond none pending (link ∷ pending)) t) z
          ∙ ap (λ r. cond r (followed_all ws (link ∷ pending) t) t) q
          ∙ followed_once ws link pending t
          ∙ ap (λ r. cond r (followed t.left ws (put_links ws y e pending) u) u) w
          ∙ followed_enough t.left (suc u.left) ws (put_links ws y e pending) u falls (omega arith)
          ∙ ap (λ m. followed_all ws (put_from (link_read ws y) e m pending) u) up
          ∙ more u w (omega arith) (omega arith)
          ∙ sym (ap (followed_after ws pending) (way_is q z w))

  -- the links of x of the n highest numbers
  children_followed : (n : ℕ) → n ≤ dimensions_at ws → (x : ℕ) (pending : List Link) (s : Seen) → s.right ≡ true → s.left < fuel →
      followed_all ws (put_from (link_read ws x) (dimensions_at ws - n) n pending) s ≡ followed_after ws pending (children fuel ws n x s)
  unfolding children put_from
  children_followed zero h x pending s right l = sym (ap (λ r. cond r (followed_all ws pending s) s) right)
  children_followed (suc n) h x pending s right l =
      let e = dimensions_at ws - suc n in
      let up : dimensions_at ws - e ≡ suc n = omega arith in
      let next : dimensions_at ws - n ≡ suc e = omega arith in
      along_followed n e up
      (λ z p w r m. ap (λ d. followed_all ws (put_from (link_read ws z) d n p) w) (sym next) ∙ children_followed n (omega arith) z p w r m) fuel x pending s
      right l l

-- all links of the head followed
pub head_followed : (ws : List ℕ) → (at_head ws).right ≡ true → (at_head ws).left < cells_at ws → followed_all ws (put_links ws 0 0 []) (at_head ws) ≡ seen_all ws
unfolding followed
head_followed ws right less =
    let D = dimensions_at ws in
    let all : D - 0 ≡ D = omega arith in
    let none : D - D ≡ 0 = omega arith in
    ap₂ (λ d n. followed_all ws (put_from (link_read ws 0) d n []) (at_head ws)) (sym none) all
    ∙ children_followed ws (cells_at ws) D (omega arith) 0 [] (at_head ws) right less
    ∙ same (seen_all ws).right (seen_all ws)
  where
    same : (r : Bool) (t : Seen) → cond r t t ≡ t
    same true t = refl
    same false t = refl
