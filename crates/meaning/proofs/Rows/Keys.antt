-- Laws of coordinates and of shared coordinates, for every D at once, by induction on D: the last coordinate is the remainder by b, the
-- others are those of the quotient. All that is proved of rows rests on `ultra`.
use mathlib.Core.Path.{◌≡◌, refl, sym, ◌∙◌, ap}
use mathlib.Core.Bool.{true, false}
use mathlib.Core.Logic.{◌↔◌}
use mathlib.Core.List.{List, [], ◌∷◌}
use Prim.Native.Nat.{ℕ, zero, suc, ◌*◌, ◌/◌, ◌%◌, ◌^◌, ◌≤◌, ◌<◌, min}
use native.Mathlib.Nat.{pow-zero, pow-suc, mod-lt, div-add-mod', div-mul-le_self, le-div_iff_mul-le, div-lt_iff_lt-mul}
use native.Mathlib.Decide.{ℕ_discrete, dec_lt}
use native.Mathlib.Omega.{arith}
use lib.ListN.{length, get_or, length-append, get_or-append, get_or-eq_default}
use lib.Seq.{get_or_at}
use borrow.Author.Tests.{eq-eqb, ne_eqb, lt-ltb, le-ltb}
use Rattle.lists.specs.Compared.{agreed, precedes}
use Rattle.meaning.specs.Keys.{coordinates, coordinate, shared}

-- Quotients by the base, and remainders

pub quotient_rises : (b x y : ℕ) → 0 < b → x ≤ y → x / b ≤ y / b
quotient_rises b x y pos h = (le-div_iff_mul-le pos).1 (omega (arith, div-mul-le_self x b))

pub quotient_below : (b D x : ℕ) → 0 < b → x < b ^ suc D → x / b < b ^ D
quotient_below b D x pos h = (div-lt_iff_lt-mul pos).1 (omega (arith, pow-suc b D))

-- keys below 1 are 0
pub below_power_zero : (b x : ℕ) → x < b ^ 0 → x ≡ 0
below_power_zero b x h = omega (arith, pow-zero b)

-- Shared coordinates

pub shared_same : (b D x : ℕ) → shared b D x x ≡ D
unfolding shared
shared_same b zero x = refl
shared_same b (suc D) x = rw (eq-eqb x x refl) refl

-- different keys share what they share without their last coordinates
pub shared_other : (b D x y : ℕ) → (x ≡ y → ⊥) → shared b (suc D) x y ≡ shared b D (x / b) (y / b)
unfolding shared
shared_other b D x y ne = rw (ne_eqb x y ne) refl

pub shared_le : (b D x y : ℕ) → shared b D x y ≤ D
unfolding shared
shared_le b zero x y = omega arith
shared_le b (suc D) x y = go (ℕ_discrete x y) (shared_le b D (x / b) (y / b))
  where
    go : Dec (x ≡ y) → shared b D (x / b) (y / b) ≤ D → shared b (suc D) x y ≤ suc D
    go (yes e) h = rw (eq-eqb x y e) (omega arith)
    go (no ne) h = rw (ne_eqb x y ne) (omega arith)

pub shared_sym : (b D x y : ℕ) → shared b D x y ≡ shared b D y x
unfolding shared
shared_sym b zero x y = refl
shared_sym b (suc D) x y = go (ℕ_discrete x y) (shared_sym b D (x / b) (y / b))
  where
    go : Dec (x ≡ y) → shared b D (x / b) (y / b) ≡ shared b D (y / b) (x / b) → shared b (suc D) x y ≡ shared b (suc D) y x
    go (yes e) h = cc
    go (no ne) h = shared_other b D x y ne ∙ h ∙ sym (shared_other b D y x (λ e. ne (sym e)))

pub shared_less : (b D x y : ℕ) → 0 < D → (x ≡ y → ⊥) → shared b D x y < D
shared_less b zero x y pos ne = omega arith
shared_less b (suc D) x y pos ne = omega (arith, shared_other b D x y ne, shared_le b D (x / b) (y / b))

-- the law that carries the theory of the shape: of three keys in order, the outer two share what both neighbours share
pub ultra : (b D x y z : ℕ) → 0 < b → x ≤ y → y ≤ z → shared b D x z ≡ min (shared b D x y) (shared b D y z)
ultra b zero x y z pos h k = omega (arith, shared_le b 0 x z, shared_le b 0 x y)
ultra b (suc D) x y z pos h k =
    go (ℕ_discrete x y) (ℕ_discrete y z) (ultra b D (x / b) (y / b) (z / b) pos (quotient_rises b x y pos h) (quotient_rises b y z pos k))
  where
    go : Dec (x ≡ y) → Dec (y ≡ z) → shared b D (x / b) (z / b) ≡ min (shared b D (x / b) (y / b)) (shared b D (y / b) (z / b)) →
        shared b (suc D) x z ≡ min (shared b (suc D) x y) (shared b (suc D) y z)
    go (yes e) d i = rw e (omega (arith, shared_same b (suc D) y, shared_le b (suc D) y z))
    go (no ne) (yes e) i = rw (← e) (omega (arith, shared_same b (suc D) y, shared_le b (suc D) x y))
    go (no ne) (no nf) i = rw (shared_other b D x y ne, shared_other b D y z nf, shared_other b D x z (λ e. omega (arith, ne, nf, e))) i

pub triangle : (b D x y z : ℕ) → 0 < b → min (shared b D x y) (shared b D y z) ≤ shared b D x z
triangle b zero x y z pos = omega (arith, shared_le b 0 x y)
triangle b (suc D) x y z pos = go (ℕ_discrete x y) (ℕ_discrete y z) (ℕ_discrete x z) (triangle b D (x / b) (y / b) (z / b) pos)
  where
    go : Dec (x ≡ y) → Dec (y ≡ z) → Dec (x ≡ z) → min (shared b D (x / b) (y / b)) (shared b D (y / b) (z / b)) ≤ shared b D (x / b) (z / b) →
        min (shared b (suc D) x y) (shared b (suc D) y z) ≤ shared b (suc D) x z
    go (yes e) d f i = rw e (omega arith)
    go (no ne) (yes e) f i = rw (← e) (omega arith)
    go (no ne) (no nf) (yes e) i = rw (← e) (omega (arith, shared_same b (suc D) x, shared_le b (suc D) x y))
    go (no ne) (no nf) (no ng) i = rw (shared_other b D x y ne, shared_other b D y z nf, shared_other b D x z ng) i

-- Coordinates

pub coordinates_length : (b D key : ℕ) → length (coordinates b D key) ≡ D
unfolding coordinates
coordinates_length b zero key = refl
coordinates_length b (suc D) key = omega (arith, length-append (coordinates b D (key / b)) (key % b ∷ []), coordinates_length b D (key / b))

pub coordinate_last : (b D key : ℕ) → coordinate b (suc D) key D ≡ key % b
unfolding coordinates
coordinate_last b D key = get_or_at (coordinates b D (key / b)) (key % b) [] 0 D (coordinates_length b D (key / b))

-- the coordinates before the last are those of the quotient
pub coordinate_front : (b D key d : ℕ) → d < D → coordinate b (suc D) key d ≡ coordinate b D (key / b) d
unfolding coordinates
coordinate_front b D key d h = get_or-append (coordinates b D (key / b)) (key % b ∷ []) 0 d (omega (arith, coordinates_length b D (key / b)))

-- a key has D coordinates; what is read behind them is 0
pub coordinate_behind : (b D key d : ℕ) → D ≤ d → coordinate b D key d ≡ 0
coordinate_behind b D key d h = get_or-eq_default (coordinates b D key) 0 (omega (arith, coordinates_length b D key))

pub coordinate_inside : (b D key d : ℕ) → 0 < coordinate b D key d → d < D
coordinate_inside b D key d h = go (dec_lt d D)
  where
    go : Dec (d < D) → d < D
    go (yes less) = less
    go (no more) = omega (arith, h, coordinate_behind b D key d (omega (arith, more)))

-- what holds of 0, of the last coordinate and of the coordinates of the quotient holds of every coordinate
pub coordinate_cases : (P : ℕ → Type 0) (b D key d : ℕ) → P 0 → P (key % b) → P (coordinate b D (key / b) d) → P (coordinate b (suc D) key d)
coordinate_cases P b D key d none last front = go (dec_lt d D) (ℕ_discrete d D)
  where
    go : Dec (d < D) → Dec (d ≡ D) → P (coordinate b (suc D) key d)
    go (yes h) e = rw (coordinate_front b D key d h) front
    go (no h) (yes e) = rw (e, coordinate_last b D key) last
    go (no h) (no ne) = rw (coordinate_behind b (suc D) key d (omega (arith, h, ne))) none

pub coordinate_below : (b D key d : ℕ) → 0 < b → coordinate b D key d < b
coordinate_below b zero key d pos = omega (arith, coordinate_behind b 0 key d (omega arith))
coordinate_below b (suc D) key d pos = coordinate_cases (λ c. c < b) b D key d pos (mod-lt key pos) (coordinate_below b D (key / b) d pos)

-- Coordinates of two keys

-- below what they share, two keys have the same coordinates
pub coordinate_same : (b D x y d : ℕ) → d < shared b D x y → coordinate b D x d ≡ coordinate b D y d
coordinate_same b zero x y d h = omega (arith, shared_le b 0 x y)
coordinate_same b (suc D) x y d h = go (ℕ_discrete x y) (coordinate_same b D (x / b) (y / b) d)
  where
    go : Dec (x ≡ y) → (d < shared b D (x / b) (y / b) → coordinate b D (x / b) d ≡ coordinate b D (y / b) d) →
        coordinate b (suc D) x d ≡ coordinate b (suc D) y d
    go (yes e) i = rw e refl
    go (no ne) i =
        let less : d < shared b D (x / b) (y / b) = omega (arith, shared_other b D x y ne) in
        let front : d < D = omega (arith, shared_le b D (x / b) (y / b)) in
        coordinate_front b D x d front ∙ i less ∙ sym (coordinate_front b D y d front)

-- at the first coordinate that they do not share, the larger key has the larger one
pub coordinate_less : (b D x y : ℕ) → 0 < b → x < b ^ D → y < b ^ D → x < y → coordinate b D x (shared b D x y) < coordinate b D y (shared b D x y)
coordinate_less b zero x y pos hx hy h = absurd (omega (arith, below_power_zero b y hy))
coordinate_less b (suc D) x y pos hx hy h =
    go (ℕ_discrete (x / b) (y / b)) (coordinate_less b D (x / b) (y / b) pos (quotient_below b D x pos hx) (quotient_below b D y pos hy))
  where
    s : ℕ
    s = shared b D (x / b) (y / b)

    at : shared b (suc D) x y ≡ s
    at = shared_other b D x y (λ e. omega (arith, h, e))

    go : Dec (x / b ≡ y / b) → (x / b < y / b → coordinate b D (x / b) s < coordinate b D (y / b) s) →
        coordinate b (suc D) x (shared b (suc D) x y) < coordinate b (suc D) y (shared b (suc D) x y)
    go (yes e) i =
        let last : shared b (suc D) x y ≡ D = at ∙ ap (λ z. shared b D (x / b) z) (sym e) ∙ shared_same b D (x / b) in
        let m = ap (λ z. z * b) e in
        rw (last, coordinate_last b D x, coordinate_last b D y) (omega (arith, div-add-mod' x b, div-add-mod' y b))
    go (no ne) i =
        let less = i (omega (arith, quotient_rises b x y pos (omega arith), ne)) in
        let front = coordinate_inside b D (y / b) s (omega arith) in
        rw (at, coordinate_front b D x s front, coordinate_front b D y s front) less

-- up to the first coordinate that they do not share, the larger key has no smaller one
pub coordinate_rises : (b D x y d : ℕ) → 0 < b → x < b ^ D → y < b ^ D → d ≤ shared b D x y → x ≤ y → coordinate b D x d ≤ coordinate b D y d
coordinate_rises b D x y d pos hx hy h k = go (ℕ_discrete d (shared b D x y)) (ℕ_discrete x y)
  where
    go : Dec (d ≡ shared b D x y) → Dec (x ≡ y) → coordinate b D x d ≤ coordinate b D y d
    go (no ne) e = omega (arith, coordinate_same b D x y d (omega (arith, h, ne)))
    go (yes e) (no ne) = rw e (omega (arith, coordinate_less b D x y pos hx hy (omega (arith, k, ne))))
    go (yes e) (yes f) = omega (arith, ap (λ z. coordinate b D z d) f)

-- at the first coordinate that they do not share, different keys differ
pub coordinate_other : (b D x y : ℕ) → 0 < b → x < b ^ D → y < b ^ D → (x ≡ y → ⊥) → coordinate b D x (shared b D x y) ≡ coordinate b D y (shared b D x y) → ⊥
coordinate_other b D x y pos hx hy ne e = go (dec_lt x y)
  where
    go : Dec (x < y) → ⊥
    go (yes h) = omega (arith, e, coordinate_less b D x y pos hx hy h)
    go (no h) = let less = coordinate_less b D y x pos hy hx (omega (arith, h, ne)) in omega (arith, e, rw (shared_sym b D y x) at less)

-- so of keys that share d coordinates, the one that is larger at d is larger
pub coordinate_larger : (b D x y d : ℕ) → 0 < b → x < b ^ D → y < b ^ D → d ≤ shared b D x y → coordinate b D x d < coordinate b D y d → x < y
coordinate_larger b D x y d pos hx hy h less = go (dec_lt x y)
  where
    go : Dec (x < y) → x < y
    go (yes l) = l
    go (no l) = absurd (omega (arith, less, coordinate_rises b D y x d pos hy hx (omega (arith, h, shared_sym b D x y)) (omega (arith, l))))

-- keys with the same coordinates are the same
pub coordinates_determine : (b D x y : ℕ) → 0 < b → x < b ^ D → y < b ^ D → coordinates b D x ≡ coordinates b D y → x ≡ y
coordinates_determine b D x y pos hx hy e = go (ℕ_discrete x y)
  where
    go : Dec (x ≡ y) → x ≡ y
    go (yes q) = q
    go (no ne) = absurd (coordinate_other b D x y pos hx hy ne (ap (λ xs. get_or xs (shared b D x y) 0) e))

-- Two lists that are equal up to a place, and there they differ or end

-- that place is how many leading members agree
pub agreed_is : (s : ℕ) (xs ys : List ℕ) → length xs ≡ length ys → s ≤ length xs → ((i : ℕ) → i < s → get_or xs i 0 ≡ get_or ys i 0) →
    (s < length xs → get_or xs s 0 ≡ get_or ys s 0 → ⊥) → s ≡ agreed xs ys
unfolding agreed
agreed_is s [] ys e h same other = omega arith
agreed_is s (x ∷ xs) [] e h same other = omega arith
agreed_is zero (x ∷ xs) (y ∷ ys) e h same other = rw (ne_eqb x y (other (omega arith))) refl
agreed_is (suc s) (x ∷ xs) (y ∷ ys) e h same other =
    rw (eq-eqb x y (same 0 (omega arith)))
    (ap suc (agreed_is s xs ys (omega arith) (omega arith) (λ i k. same (suc i) (omega arith)) (λ k. other (omega arith))))

-- Numbers 6: the number of leading coordinates that two keys share
pub shared_agreed : (b D x y : ℕ) → 0 < b → x < b ^ D → y < b ^ D → shared b D x y ≡ agreed (coordinates b D x) (coordinates b D y)
shared_agreed b D x y pos hx hy =
    agreed_is (shared b D x y) (coordinates b D x) (coordinates b D y)
    (omega (arith, coordinates_length b D x, coordinates_length b D y))
    (omega (arith, coordinates_length b D x, shared_le b D x y))
    (λ i h. coordinate_same b D x y i h)
    (λ h. coordinate_other b D x y pos hx hy
    (λ e. omega (arith, h, coordinates_length b D x, ap (λ z. shared b D x z) e, shared_same b D x)))

-- the list that has the smaller member there precedes
pub precedes_at : (s : ℕ) (xs ys : List ℕ) → length xs ≡ length ys → s < length xs → ((i : ℕ) → i < s → get_or xs i 0 ≡ get_or ys i 0) →
    get_or xs s 0 < get_or ys s 0 → precedes xs ys ≡ true
unfolding precedes
precedes_at s [] ys e h same less = absurd (omega arith)
precedes_at s (x ∷ xs) [] e h same less = absurd (omega arith)
precedes_at zero (x ∷ xs) (y ∷ ys) e h same less = rw (lt-ltb x y less) refl
precedes_at (suc s) (x ∷ xs) (y ∷ ys) e h same less =
    let q : x ≡ y = same 0 (omega arith) in
    rw (le-ltb x y (omega arith), eq-eqb x y q) (precedes_at s xs ys (omega arith) (omega arith) (λ i k. same (suc i) (omega arith)) less)

false_true : {A : Type 0} → false ≡ true → A
false_true e = absurd (let z : ◌≡◌ {A = ℕ} 0 1 = cc in omega arith)

-- of a list that precedes, the first member is the smaller, or the rest precedes
pub precedes_first : (x : ℕ) (xs : List ℕ) (y : ℕ) (ys : List ℕ) → precedes (x ∷ xs) (y ∷ ys) ≡ true → (x ≤ y) × (x ≡ y → precedes xs ys ≡ true)
unfolding precedes
precedes_first x xs y ys p = go (dec_lt x y) (ℕ_discrete x y)
  where
    go : Dec (x < y) → Dec (x ≡ y) → (x ≤ y) × (x ≡ y → precedes xs ys ≡ true)
    go (yes h) d = (omega (arith, h), λ e. absurd (omega (arith, h, e)))
    go (no h) (yes e) = (omega (arith, e), λ f. rw (le-ltb x y (omega (arith, h)), eq-eqb x y e) at p)
    go (no h) (no ne) = false_true (rw (le-ltb x y (omega (arith, h)), ne_eqb x y ne) at p)

-- of two lists at most one precedes the other
pub precedes_once : (xs ys : List ℕ) → precedes xs ys ≡ true → precedes ys xs ≡ true → ⊥
precedes_once [] ys p q = false_true (unfold precedes in p)
precedes_once (x ∷ xs) [] p q = false_true (unfold precedes in p)
precedes_once (x ∷ xs) (y ∷ ys) p q =
    let h = precedes_first x xs y ys p in
    let k = precedes_first y ys x xs q in
    let e : x ≡ y = omega arith in
    precedes_once xs ys (h.1 e) (k.1 (sym e))

-- Numbers 5: key order is the order of the coordinates
pub lexicographic : (b D x y : ℕ) → 0 < b → x < b ^ D → y < b ^ D → x < y ↔ (precedes (coordinates b D x) (coordinates b D y) ≡ true)
lexicographic b D x y pos hx hy = (λ h. precede x y hx hy h, λ p. go p (dec_lt x y) (dec_lt y x))
  where
    precede : (x y : ℕ) → x < b ^ D → y < b ^ D → x < y → precedes (coordinates b D x) (coordinates b D y) ≡ true
    precede x y hx hy h =
        let less = coordinate_less b D x y pos hx hy h in
        let inside = coordinate_inside b D y (shared b D x y) (omega arith) in
        precedes_at (shared b D x y) (coordinates b D x) (coordinates b D y)
        (omega (arith, coordinates_length b D x, coordinates_length b D y))
        (omega (arith, coordinates_length b D x))
        (λ i k. coordinate_same b D x y i k)
        less

    go : precedes (coordinates b D x) (coordinates b D y) ≡ true → Dec (x < y) → Dec (y < x) → x < y
    go p (yes h) d = h
    go p (no h) (yes k) = absurd (precedes_once (coordinates b D x) (coordinates b D y) p (precede y x hy hx k))
    go p (no h) (no k) =
        let e : x ≡ y = omega (arith, h, k) in
        let q : precedes (coordinates b D y) (coordinates b D y) ≡ true = rw e at p in
        absurd (precedes_once (coordinates b D y) (coordinates b D y) q q)
