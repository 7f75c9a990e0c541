-- Keys by blocks: where the block of a key starts, level by level, and what the starts tell of a smaller key: how many leading coordinates
-- the two share. So what keys share is read off by comparing keys alone. Then the walk's question: of a key that shares d coordinates with
-- the one sought, whether it is below, the same or above at coordinate d.
use mathlib.Core.Path.{◌≡◌, sym, ◌∙◌, ap}
use Prim.Native.Nat.{ℕ, zero, suc, ◌+◌, ◌-◌, ◌*◌, ◌/◌, ◌^◌, ◌≤◌, ◌<◌}
use native.Mathlib.Nat.{mul_comm, mul_assoc, suc-mul, mul-le-mul_right, one-le-pow, pow-zero, pow-suc, mod-one, mod-lt, mod-le, mod-eq_of_lt, div-add-mod', div-div-eq-div-mul, le-div_iff_mul-le}
use native.Mathlib.Decide.{ℕ_discrete, dec_lt}
use native.Mathlib.Omega.{arith}
use Rattle.meaning.specs.Keys.{coordinate, shared, block_start}
use Rattle.meaning.proofs.Rows.Keys.{quotient_rises, quotient_below, below_power_zero, shared_same, shared_other, shared_le, shared_sym}
use Rattle.meaning.proofs.Rows.Keys.{coordinate_same, coordinate_less}

-- a block starts at or below its key
pub block_below : (b D key d : ℕ) → block_start b D key d ≤ key
unfolding block_start
block_below b D key d = omega arith

-- the block of level D is the key alone
pub block_own : (b D key : ℕ) → block_start b D key D ≡ key
unfolding block_start
block_own b D key =
    let none : D - D ≡ 0 = omega arith in
    let one : b ^ (D - D) ≡ 1 = ap (λ n. b ^ n) none ∙ pow-zero b in
    rw one (omega (arith, mod-one key))

-- a block starts at a multiple of its size
block_multiple : (b D key d : ℕ) → block_start b D key d ≡ key / b ^ (D - d) * b ^ (D - d)
unfolding block_start
block_multiple b D key d = omega (arith, div-add-mod' key (b ^ (D - d)))

-- a block of a level up to D without the last coordinate: that of the quotient
pub block_front : (b D key d : ℕ) → 0 < b → d ≤ D → block_start b (suc D) key d ≡ block_start b D (key / b) d * b
block_front b D key d pos h =
    let n = D - d in
    let up : suc D - d ≡ suc n = omega arith in
    let size : b ^ (suc D - d) ≡ b ^ n * b = ap (λ m. b ^ m) up ∙ pow-suc b n in
    let same : key / b / b ^ n ≡ key / (b ^ n * b) = div-div-eq-div-mul key b (b ^ n) ∙ ap (λ m. key / m) (mul_comm b (b ^ n)) in
    block_multiple b (suc D) key d
    ∙ ap (λ m. key / m * m) size
    ∙ sym (mul_assoc (key / (b ^ n * b)) (b ^ n) b)
    ∙ ap (λ m. m * b ^ n * b) (sym same)
    ∙ ap (λ m. m * b) (sym (block_multiple b D (key / b) d))

-- a key before y shares d coordinates with it exactly if it is not below the start of y's block of level d
pub shared_block : (b D x y d : ℕ) → 0 < b → y < b ^ D → x ≤ y → d ≤ D →
    (d ≤ shared b D x y → block_start b D y d ≤ x) × (block_start b D y d ≤ x → d ≤ shared b D x y)
shared_block b zero x y d pos hy h k =
    let none : d ≡ 0 = omega arith in
    (λ s. omega (arith, block_below b 0 y d, below_power_zero b y hy), λ s. omega (arith, none))
shared_block b (suc D) x y d pos hy h k =
    go (ℕ_discrete x y) (dec_lt D d) (shared_block b D (x / b) (y / b) d pos (quotient_below b D y pos hy) (quotient_rises b x y pos h))
  where
    go : Dec (x ≡ y) → Dec (D < d) →
        (d ≤ D → (d ≤ shared b D (x / b) (y / b) → block_start b D (y / b) d ≤ x / b)
        × (block_start b D (y / b) d ≤ x / b → d ≤ shared b D (x / b) (y / b))) →
        (d ≤ shared b (suc D) x y → block_start b (suc D) y d ≤ x) × (block_start b (suc D) y d ≤ x → d ≤ shared b (suc D) x y)
    go (yes e) c i =
        let all : shared b (suc D) x y ≡ suc D = ap (λ z. shared b (suc D) x z) (sym e) ∙ shared_same b (suc D) x in
        (λ s. omega (arith, e, block_below b (suc D) y d), λ s. omega (arith, k, all))
    go (no ne) (yes c) i =
        let own : block_start b (suc D) y d ≡ y = ap (λ m. block_start b (suc D) y m) (omega (arith, k, c)) ∙ block_own b (suc D) y in
        (λ s. absurd (omega (arith, c, s, shared_other b D x y ne, shared_le b D (x / b) (y / b))), λ s. absurd (omega (arith, h, ne, own, s)))
    go (no ne) (no c) i =
        let inside : d ≤ D = omega (arith, c) in
        let front = block_front b D y d pos inside in
        let other = shared_other b D x y ne in (
          λ s. omega (arith, front, (le-div_iff_mul-le pos).0 ((i inside).0 (omega (arith, s, other)))),
          λ s. omega (arith, other, (i inside).1 ((le-div_iff_mul-le pos).1 (omega (arith, s, front)))),
        )

-- y comes after x and shares exactly e coordinates with it exactly if x lies before y's block of level e + 1 and not before that of level e
pub shared_by_blocks : (b D x y e : ℕ) → 0 < b → y < b ^ D → e < D →
    ((x < y) × (shared b D x y ≡ e) → (block_start b D y e ≤ x) × (x < block_start b D y (suc e)))
    × ((block_start b D y e ≤ x) × (x < block_start b D y (suc e)) → (x < y) × (shared b D x y ≡ e))
shared_by_blocks b D x y e pos hy h = (λ p. there p.0 p.1, λ p. back p.0 p.1)
  where
    there : x < y → shared b D x y ≡ e → (block_start b D y e ≤ x) × (x < block_start b D y (suc e))
    there less same =
        let from = (shared_block b D x y e pos hy (omega (arith, less)) (omega (arith, h))).0 (omega (arith, same)) in
        (from, go (dec_lt x (block_start b D y (suc e))))
      where
        go : Dec (x < block_start b D y (suc e)) → x < block_start b D y (suc e)
        go (yes c) = c
        go (no c) = absurd (omega (arith, same, (shared_block b D x y (suc e) pos hy (omega (arith, less)) h).1 (omega (arith, c))))

    back : block_start b D y e ≤ x → x < block_start b D y (suc e) → (x < y) × (shared b D x y ≡ e)
    back from to = (less, go (dec_lt e (shared b D x y)))
      where
        less : x < y
        less = omega (arith, to, block_below b D y (suc e))

        go : Dec (e < shared b D x y) → shared b D x y ≡ e
        go (yes c) = absurd (omega (arith, to, (shared_block b D x y (suc e) pos hy (omega (arith, less)) h).0 c))
        go (no c) = omega (arith, c, (shared_block b D x y e pos hy (omega (arith, less)) (omega (arith, h))).1 from)

-- A key c beside k's block of level d, which has b to the power D - d keys

module _ (b D c k d : ℕ) (pos : 0 < b) where
  -- before its end, c's own block starts no later; ..
  block_same : c < block_start b D k d + b ^ (D - d) → block_start b D c d ≤ block_start b D k d
  block_same less =
      let P = b ^ (D - d) in
      let some : 0 < P = one-le-pow (D - d) b pos in
      go P some (block_multiple b D c d) (block_multiple b D k d) less (dec_lt (k / P) (c / P))
    where
      go : (P : ℕ) → 0 < P → {mine its : ℕ} → mine ≡ c / P * P → its ≡ k / P * P → c < its + P → Dec (k / P < c / P) → mine ≤ its
      go P some m i below (yes h) = absurd (omega (arith, below, i, suc-mul (k / P) P, (le-div_iff_mul-le {x = suc (k / P)} some).0 h))
      go P some m i below (no h) =
          let most : c / P ≤ k / P = omega (arith, h) in
          omega (arith, m, i, mul-le-mul_right P most)

  -- .. from its end on, it starts there or later
  block_after : block_start b D k d + b ^ (D - d) ≤ c → block_start b D k d + b ^ (D - d) ≤ block_start b D c d
  block_after more =
      let P = b ^ (D - d) in
      let some : 0 < P = one-le-pow (D - d) b pos in
      let its = block_multiple b D k d in
      let size = suc-mul (k / P) P in
      let next : suc (k / P) ≤ c / P = (le-div_iff_mul-le some).1 (omega (arith, more, its, size)) in
      omega (arith, block_multiple b D c d, its, size, mul-le-mul_right P next)

  -- a key is inside its own block
  block_own_end : k < block_start b D k d + b ^ (D - d)
  unfolding block_start
  block_own_end = omega (arith, mod-lt k (one-le-pow (D - d) b pos), mod-le k (b ^ (D - d)))

-- A key c that shares d coordinates with k

module _ (b D c k d : ℕ) (pos : 0 < b) (cfits : c < b ^ D) (kfits : k < b ^ D) (inside : d < D) (upto : d ≤ shared b D c k) where
  -- before k's block of level d + 1 it is below k at coordinate d, ..
  pub block_before : c < block_start b D k (suc d) → coordinate b D c d < coordinate b D k d
  block_before less = go (dec_lt d (shared b D c k))
    where
      before : c < k
      before = omega (arith, less, block_below b D k (suc d))

      go : Dec (d < shared b D c k) → coordinate b D c d < coordinate b D k d
      go (yes h) = absurd (omega (arith, less, (shared_block b D c k (suc d) pos kfits (omega (arith, before)) inside).0 h))
      go (no h) =
          let here : shared b D c k ≡ d = omega (arith, upto, h) in
          rw here at (coordinate_less b D c k pos cfits kfits before)

  -- .. inside it the same, ..
  pub block_inside : block_start b D k (suc d) ≤ c → c < block_start b D k (suc d) + b ^ (D - suc d) → coordinate b D c d ≡ coordinate b D k d
  block_inside from to = go (dec_lt k c)
    where
      go : Dec (k < c) → coordinate b D c d ≡ coordinate b D k d
      go (yes h) =
          let start = block_same b D c k (suc d) pos to in
          let far = (shared_block b D k c (suc d) pos cfits (omega (arith, h)) inside).1 (omega (arith, start, block_below b D k (suc d))) in
          sym (coordinate_same b D k c d far)
      go (no h) = coordinate_same b D c k d ((shared_block b D c k (suc d) pos kfits (omega (arith, h)) inside).1 from)

  -- .. and past it above
  pub block_past : block_start b D k (suc d) + b ^ (D - suc d) ≤ c → coordinate b D k d < coordinate b D c d
  block_past past = go (dec_lt d (shared b D k c))
    where
      end : k < block_start b D k (suc d) + b ^ (D - suc d)
      end = block_own_end b D c k (suc d) pos

      go : Dec (d < shared b D k c) → coordinate b D k d < coordinate b D c d
      go (yes h) =
          let start = block_after b D c k (suc d) pos past in
          absurd (omega (arith, end, start, (shared_block b D k c (suc d) pos cfits (omega (arith, end, past)) inside).0 h))
      go (no h) =
          let here : shared b D k c ≡ d = omega (arith, upto, h, shared_sym b D c k) in
          rw here at (coordinate_less b D k c pos kfits cfits (omega (arith, end, past)))

-- the coordinates that a key shares with 0: as many as the levels below whose power it lies
pub shared_zeros : (b D key d : ℕ) → 0 < b → key < b ^ D → d ≤ D → (key < b ^ (D - d) → d ≤ shared b D 0 key) × (b ^ (D - d) ≤ key → shared b D 0 key < d)
unfolding block_start
shared_zeros b D key d pos fits h =
    let P = b ^ (D - d) in
    let block = shared_block b D 0 key d pos fits (omega arith) h in (
      λ less. block.1 (omega (arith, mod-eq_of_lt less)),
      λ more. go (dec_lt (shared b D 0 key) d) (λ s. omega (arith, more, mod-lt key (one-le-pow (D - d) b pos), block.0 s)),
    )
  where
    go : Dec (shared b D 0 key < d) → (d ≤ shared b D 0 key → ⊥) → shared b D 0 key < d
    go (yes l) f = l
    go (no l) f = absurd (f (omega (arith, l)))
