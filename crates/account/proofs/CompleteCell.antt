-- Each standing cell of a picture is right when it is read after the one before it: each test of it, from what its words are by its
-- place and by the place before.
use mathlib.Core.Path.{◌≡◌, refl, sym, ◌∙◌, ap, ap₂, subst}
use mathlib.Core.Bool.{Bool, true, false, cond, ◌&&◌, ◌||◌, not}
use mathlib.Core.List.{List, [], ◌∷◌}
use mathlib.Core.Logic.{◌⊎◌, inl, inr}
use Prim.Native.Nat.{ℕ, suc, ◌+◌, ◌-◌, ◌^◌, ◌≤◌, ◌<◌}
use native.Mathlib.Decide.{dec_lt, dec_le, ℕ_discrete}
use native.Mathlib.Omega.{arith}
use lib.Dec.{eqb, leb, ltb}
use lib.ListN.{length}
use borrow.Author.Tests.{lt-ltb, le-leb, lt-leb, eq-eqb, ne_eqb}
use Rattle.lists.proofs.All.{All}
use Rattle.lists.proofs.Tests.{and_both}
use Rattle.meaning.specs.Keys.{block_start, shared}
use Rattle.meaning.specs.Row.{Node, first_of, first_sharing, Place, settled_link, between, link}
use Rattle.meaning.specs.Picture.{mark}
use Rattle.meaning.specs.Words.{key_at, value_at, mark_at, owed_at, low_at, high_at, link_at, dimensions_at, largest_at, cells_at, base_at, position_at}
use Rattle.meaning.proofs.Rows.AscendingRow.{Asc}
use Rattle.meaning.proofs.Rows.Keys.{shared_same, shared_le, shared_less}
use Rattle.meaning.proofs.Rows.Blocks.{shared_by_blocks}
use Rattle.meaning.proofs.Pictures.State.{Debt}
use Rattle.meaning.proofs.Cells.WalkRead.{Held, between_is, between_not, link_owing, link_tested}
use Rattle.meaning.proofs.Rows.Parent.{sharing_hits, sharing_above}
use Rattle.account.specs.Tree.{follows, node_right, due_to, links_below, debt_right, agreed_at, agreed_after, path_right, cell_right, entered}
use Rattle.account.proofs.AcceptedTests.{all_true}
use Rattle.account.proofs.CompleteOrder.{place_after, agreed_with, agreed_up_to, seen_at, seen_before}
use Rattle.account.proofs.CompletePath.{PlaceOnPath, agreed_is, position_here, position_apart}

-- Tests that hold

pub and_then : {s t : Bool} → s ≡ true → t ≡ true → (s && t) ≡ true
and_then {s} {t} p q = and_both s t p q

pub or_left : (s t : Bool) → s ≡ true → (s || t) ≡ true
or_left s t e = rw e refl

pub or_right : (s t : Bool) → t ≡ true → (s || t) ≡ true
or_right true t e = refl
or_right false t e = e

-- What the words and the row say of a standing cell, with the position's key.
pub record Shown (ws : List ℕ) (key : ℕ) (p : Place) : Type 0 where
  pub held : Held ws (base_at ws) (dimensions_at ws) p
  pub cell : p.node.cell < cells_at ws
  pub most : p.node.key ≤ largest_at ws
  pub below : p.node.key < base_at ws ^ dimensions_at ws
  pub worthless : p.node.live ≡ false → p.node.value ≡ 0
  pub dead : p.node.key ≤ key → p.node.live ≡ false
  pub debt : p.node.owes ≡ true → Debt (base_at ws) (dimensions_at ws) p
  pub ascends : Asc p.node.key p.later
  pub later : All (λ z. (0 < z.cell) × (z.cell < cells_at ws)) p.later
  pub path : PlaceOnPath ws (base_at ws) key p

-- key at most K, and live only where the position is before
node_right_lem : (ws : List ℕ) (key : ℕ) (p : Place) → Shown ws key p → (key ≤ p.before.key) ⊎ (p.node.key ≤ key) →
    node_right ws p.node.cell (leb key p.before.key) ≡ true
unfolding node_right
node_right_lem ws key p shown gap =
    and_then
    (le-leb (key_at ws c) (largest_at ws) (let k = shown.held.key in let m = shown.most in omega arith))
    (at p.node.live shown.held.mark shown.worthless shown.dead gap)
  where
    c : ℕ
    c = p.node.cell

    at : (live : Bool) → mark_at ws c ≡ mark live → (live ≡ false → p.node.value ≡ 0) → (p.node.key ≤ key → live ≡ false) →
        (key ≤ p.before.key) ⊎ (p.node.key ≤ key) →
        ((eqb (mark_at ws c) 2 && eqb (value_at ws c) 0) || (eqb (mark_at ws c) 1 && leb key p.before.key)) ≡ true
    at false m worthless dead any =
        or_left (eqb (mark_at ws c) 2 && eqb (value_at ws c) 0) (eqb (mark_at ws c) 1 && leb key p.before.key)
        (and_then (eq-eqb (mark_at ws c) 2 m) (eq-eqb (value_at ws c) 0 (shown.held.value ∙ worthless refl)))
    at true m worthless dead (inl h) =
        or_right (eqb (mark_at ws c) 2 && eqb (value_at ws c) 0) (eqb (mark_at ws c) 1 && leb key p.before.key)
        (and_then (eq-eqb (mark_at ws c) 1 m) (le-leb key p.before.key h))
    at true m worthless dead (inr h) = absurd (let e = dead h in let z : ◌≡◌ {A = ℕ} 0 1 = cc in omega arith)

-- A cell y after a cell x, which has dimension e and stands after a, of dimension f.
module _ (ws : List ℕ) (key : ℕ) (x : Node) (e : ℕ) (a : Node) (f : ℕ) (y : Node) (later : List Node) where
  -- x's place
  abbrev first : Place
  first = record { node = x; dimension = e; before = a; before_dimension = f; later = y ∷ later }

  -- y's place
  abbrev second : Place
  second = place_after (base_at ws) (dimensions_at ws) first y later

  cell_follows : 0 < base_at ws → 0 < dimensions_at ws → Shown ws key first → Shown ws key second →
      follows ws x.cell y.cell second.dimension ≡ true
  unfolding follows
  cell_follows pos some s t =
      let b = base_at ws in
      let D = dimensions_at ws in
      let n = shared b D x.key y.key in
      let rise = s.ascends.0 in
      let inside : n < D = shared_less b D x.key y.key some (λ z. omega arith) in
      let blocks = (shared_by_blocks b D x.key y.key n pos t.below inside).0 (rise, refl) in
      rw (s.held.key, t.held.key)
      (and_then
      (le-leb (block_start b D y.key n) x.key blocks.0)
      (lt-ltb x.key (block_start b D y.key (suc n)) blocks.1))

  -- a link below the dimension is 0 if x does not owe it
  link_below : (d : ℕ) → d < second.dimension → (x.owes && between e second.dimension d) ≡ false →
      link (base_at ws) (dimensions_at ws) second d ≡ 0
  link_below d h free =
      let b = base_at ws in
      let D = dimensions_at ws in
      link_tested b D second d free refl
      ∙ ap (λ l. cond (link_owing b D second d) 0 (cond l (first_sharing b D y.key d later) 0)) (lt-leb second.dimension d h)
      ∙ same (link_owing b D second d)
    where
      same : (t : Bool) → ◌≡◌ {A = ℕ} (cond t 0 0) 0
      same true = refl
      same false = refl

  -- the links of y that x owes
  due : Shown ws key first → (d : ℕ) → x.owes ≡ true → e ≤ d → d < second.dimension → due_to ws x.cell d ≡ true
  due s d o h l =
      let n = second.dimension in
      let is-owed : owed_at ws x.cell ≡ y.cell = s.held.owed ∙ ap (λ t. cond t y.cell 0) o in
      let is-low : low_at ws x.cell ≡ e = s.held.low ∙ ap (λ t. cond t e 0) o in
      let is-high : high_at ws x.cell ≡ n = s.held.high ∙ ap (λ t. cond t n 0) o in
      let positive = s.later.0.0 in
      and_then
      (ap not (ne_eqb (owed_at ws x.cell) 0 (λ z. omega arith)))
      (between_is (low_at ws x.cell) (high_at ws x.cell) d (omega arith) (omega arith))

  links_below_lem : Shown ws key first → Shown ws key second → links_below ws x.cell y.cell second.dimension ≡ true
  unfolding links_below
  links_below_lem s t =
      all_true (λ d. eqb (link_at ws y.cell d) 0 || due_to ws x.cell d) 0 n (λ d h l. at d (omega arith) x.owes refl (dec_le e d))
    where
      b : ℕ
      b = base_at ws

      D : ℕ
      D = dimensions_at ws

      n : ℕ
      n = shared b D x.key y.key

      inside : n ≤ D
      inside = shared_le b D x.key y.key

      unowed : (d : ℕ) → d < n → (x.owes && between e n d) ≡ false → (eqb (link_at ws y.cell d) 0 || due_to ws x.cell d) ≡ true
      unowed d l free =
          or_left (eqb (link_at ws y.cell d) 0) (due_to ws x.cell d)
          (eq-eqb (link_at ws y.cell d) 0 (t.held.link d (omega (arith, inside)) ∙ link_below d l free))

      at : (d : ℕ) → d < n → (owes : Bool) → x.owes ≡ owes → Dec (e ≤ d) → (eqb (link_at ws y.cell d) 0 || due_to ws x.cell d) ≡ true
      at d l false o any = unowed d l (ap (λ t. t && between e n d) o)
      at d l true o (no h) = unowed d l (ap (λ t. t && between e n d) o ∙ ap (λ t. t && ltb d n) (lt-leb e d (omega (arith, h))))
      at d l true o (yes h) = or_right (eqb (link_at ws y.cell d) 0) (due_to ws x.cell d) (due s d o h l)

  -- y owes nothing
  debt_none : Shown ws key second → y.owes ≡ false → debt_right ws x.cell y.cell second.dimension ≡ true
  unfolding debt_right
  debt_none t o =
      let b = base_at ws in
      let D = dimensions_at ws in
      let is-owed : owed_at ws y.cell ≡ 0 = t.held.owed ∙ ap (λ u. cond u (first_of later).cell 0) o in
      rw (eq-eqb (owed_at ws y.cell) 0 is-owed)
      (and_then
      (eq-eqb (low_at ws y.cell) 0 (t.held.low ∙ ap (λ u. cond u second.dimension 0) o))
      (eq-eqb (high_at ws y.cell) 0 (t.held.high ∙ ap (λ u. cond u (shared b D y.key (first_of later).key) 0) o)))

  -- if y owes, x does not
  before_unowing : Shown ws key first → y.owes ≡ true → x.owes ≡ false
  before_unowing s o = at x.owes refl
    where
      at : (t : Bool) → x.owes ≡ t → x.owes ≡ false
      at false q = q
      at true q = absurd (let u = (s.debt q).unowing in let z : ◌≡◌ {A = ℕ} 0 1 = cc in omega arith)

  -- the only link of a y that owes is link high, to the owed cell
  link_owing_lem : 0 < base_at ws → Shown ws key second → x.owes ≡ false → y.owes ≡ true →
      (c : Node) (rest : List Node) → later ≡ c ∷ rest → (d : ℕ) →
      link (base_at ws) (dimensions_at ws) second d ≡ cond (eqb d (shared (base_at ws) (dimensions_at ws) y.key c.key)) c.cell 0
  link_owing_lem pos t unowing owing c rest is d =
      link_tested b D second d (ap (λ u. u && between e m d) unowing) refl
      ∙ ap (λ u. cond (u && between (cond u m 0) (cond u (shared b D y.key (first_of later).key) 0) d) 0 (settled_link b D second d)) owing
      ∙ ap (λ r. cond (between m (shared b D y.key (first_of r).key) d) 0 (cond (leb m d) (first_sharing b D y.key d r) 0)) is
      ∙ at (dec_lt d m) (dec_lt d n) (ℕ_discrete d n)
    where
      b : ℕ
      b = base_at ws

      D : ℕ
      D = dimensions_at ws

      m : ℕ
      m = second.dimension

      n : ℕ
      n = shared b D y.key c.key

      lower : m < n
      lower = let l = (t.debt owing).lower in let q = ap (λ r. shared b D y.key (first_of r).key) is in omega arith

      asc : Asc y.key (c ∷ rest)
      asc = subst (Asc y.key) is t.ascends

      at : Dec (d < m) → Dec (d < n) → Dec (d ≡ n) →
          cond (between m n d) 0 (cond (leb m d) (first_sharing b D y.key d (c ∷ rest)) 0) ≡ cond (eqb d n) c.cell 0
      at (yes l) any other = rw (lt-leb m d l, ne_eqb d n (λ z. omega (arith, lower, l))) refl
      at (no k) (yes l) other = rw (between_is m n d (omega (arith, k)) l, ne_eqb d n (λ z. omega (arith, l))) refl
      at (no k) (no l) (yes z) =
          rw (between_not m n d (omega (arith, l)), le-leb m d (omega (arith, k)), eq-eqb d n z)
          (sharing_hits b D y.key d c rest (sym z))
      at (no k) (no l) (no z) =
          rw (between_not m n d (omega (arith, l)), le-leb m d (omega (arith, k)), ne_eqb d n z)
          (sharing_above b D pos y.key d c rest (let h = asc.0 in omega arith) asc.1 (omega (arith, l, z)))

  -- y owes
  debt_some : 0 < base_at ws → 0 < dimensions_at ws → Shown ws key first → Shown ws key second → y.owes ≡ true →
      debt_right ws x.cell y.cell second.dimension ≡ true
  unfolding debt_right
  debt_some pos some s t o = at later refl t.ascends t.later
    where
      at : (l : List Node) → later ≡ l → Asc y.key l → All (λ z. (0 < z.cell) × (z.cell < cells_at ws)) l →
          debt_right ws x.cell y.cell second.dimension ≡ true
      at [] is asc range = absurd (let n = ap length is in let m = (t.debt o).later in omega arith)
      at (c ∷ rest) is asc range =
          let b = base_at ws in
          let D = dimensions_at ws in
          let n = shared b D y.key c.key in
          let rise = asc.0 in
          let positive = range.0.0 in
          let inside = range.0.1 in
          let lower = (t.debt o).lower in
          let unowing = before_unowing s o in
          let is-n : shared b D y.key (first_of later).key ≡ n = ap (λ r. shared b D y.key (first_of r).key) is in
          let is-owed : owed_at ws y.cell ≡ c.cell =
          t.held.owed ∙ ap (λ u. cond u (first_of later).cell 0) o ∙ ap (λ r. (first_of r).cell) is in
          let is-low : low_at ws y.cell ≡ second.dimension = t.held.low ∙ ap (λ u. cond u second.dimension 0) o in
          let is-high : high_at ws y.cell ≡ n = t.held.high ∙ ap (λ u. cond u (shared b D y.key (first_of later).key) 0) o ∙ is-n in
          rw (ne_eqb (owed_at ws y.cell) 0 (λ z. omega arith))
          (and_then (eq-eqb (owed_at ws x.cell) 0 (s.held.owed ∙ ap (λ u. cond u y.cell 0) unowing))
          (and_then (eq-eqb (low_at ws y.cell) second.dimension is-low)
          (and_then (lt-ltb second.dimension (high_at ws y.cell) (omega arith))
          (and_then (lt-ltb (high_at ws y.cell) D (omega (arith, shared_less b D y.key c.key some (λ z. omega arith))))
          (and_then (lt-ltb (owed_at ws y.cell) (cells_at ws) (omega arith))
          (all_true (λ d. eqb (link_at ws y.cell d) (cond (eqb d (high_at ws y.cell)) (owed_at ws y.cell) 0)) 0 D (λ d h l.
          eq-eqb (link_at ws y.cell d) (cond (eqb d (high_at ws y.cell)) (owed_at ws y.cell) 0)
          (t.held.link d (omega arith) ∙ link_owing_lem pos t unowing o c rest is d
          ∙ sym (ap₂ (λ h z. cond (eqb d h) z 0) is-high is-owed)))))))))

  debt_right_lem : 0 < base_at ws → 0 < dimensions_at ws → Shown ws key first → Shown ws key second →
      debt_right ws x.cell y.cell second.dimension ≡ true
  debt_right_lem pos some s t = at y.owes refl
    where
      at : (owes : Bool) → y.owes ≡ owes → debt_right ws x.cell y.cell second.dimension ≡ true
      at false o = debt_none t o
      at true o = debt_some pos some s t o

  -- where y is the position, all path words agree
  path_right_lem : (free : ℕ) → 0 < base_at ws → 0 < dimensions_at ws → Shown ws key second →
      path_right ws y.cell second.dimension (seen_before (base_at ws) (dimensions_at ws) key free second) ≡ true
  path_right_lem free pos some t = before (leb key x.key)
    where
      b : ℕ
      b = base_at ws

      D : ℕ
      D = dimensions_at ws

      agreed : ℕ
      agreed = agreed_at ws y.cell second.dimension (shared b D x.key key)

      at : Dec (y.key ≡ key) → (not (eqb y.cell (position_at ws)) || eqb agreed D) ≡ true
      at (yes e) =
          or_right (not (eqb y.cell (position_at ws))) (eqb agreed D)
          (eq-eqb agreed D (agreed_is ws b key second t.path pos x.key refl
          ∙ ap (λ k. shared b D y.key k) (sym e) ∙ shared_same b D y.key))
      at (no ne) =
          or_left (not (eqb y.cell (position_at ws))) (eqb agreed D)
          (ap not (ne_eqb y.cell (position_at ws) (position_apart ws b key second t.path some ne)))

      -- whether or not it has been read before y
      before : (u : Bool) →
          (u || (not (eqb y.cell (position_at ws))
          || eqb (agreed_at ws y.cell second.dimension (cond u D (shared b D x.key key))) D)) ≡ true
      before true = refl
      before false = at (ℕ_discrete y.key key)

  -- how many path words agree, up to y
  agreed_next : (free : ℕ) → 0 < base_at ws → Shown ws key first → Shown ws key second → (key ≤ x.key) ⊎ (y.key ≤ key) →
      agreed_after ws y.cell second.dimension (seen_before (base_at ws) (dimensions_at ws) key free second)
      ≡ agreed_with (base_at ws) (dimensions_at ws) key y.key
  agreed_next free pos s t (inl h) =
      let rise = s.ascends.0 in
      rw (le-leb key x.key h, le-leb key y.key (omega arith)) refl
  agreed_next free pos s t (inr h) =
      let rise = s.ascends.0 in
      rw (lt-leb key x.key (omega arith))
      (agreed_is ws (base_at ws) key second t.path pos x.key refl ∙ agreed_up_to (base_at ws) (dimensions_at ws) key y.key h)

  -- the position has been read, up to y
  passed_next : 0 < dimensions_at ws → Shown ws key first → Shown ws key second → (key ≤ x.key) ⊎ (y.key ≤ key) →
      (leb key x.key || eqb y.cell (position_at ws)) ≡ leb key y.key
  passed_next some s t (inl h) =
      let rise = s.ascends.0 in
      or_left (leb key x.key) (eqb y.cell (position_at ws)) (le-leb key x.key h) ∙ sym (le-leb key y.key (omega arith))
  passed_next some s t (inr h) = at (ℕ_discrete y.key key)
    where
      b : ℕ
      b = base_at ws

      D : ℕ
      D = dimensions_at ws

      rise : x.key < y.key
      rise = s.ascends.0

      at : Dec (y.key ≡ key) → (leb key x.key || eqb y.cell (position_at ws)) ≡ leb key y.key
      at (yes e) =
          or_right (leb key x.key) (eqb y.cell (position_at ws))
          (eq-eqb y.cell (position_at ws)
          (position_here ws b key second t.path some (shared_less b D x.key y.key some (λ z. omega (arith, rise))) e))
          ∙ sym (le-leb key y.key (omega (arith, e)))
      at (no ne) =
          rw (
            lt-leb key x.key (omega (arith, rise, h)),
            lt-leb key y.key (omega (arith, ne, h)),
            ne_eqb y.cell (position_at ws) (position_apart ws b key second t.path some ne),
          ) refl

  cell_right_lem : (free : ℕ) → 0 < base_at ws → 0 < dimensions_at ws → Shown ws key first → Shown ws key second →
      (key ≤ x.key) ⊎ (y.key ≤ key) →
      cell_right ws y.cell second.dimension (seen_before (base_at ws) (dimensions_at ws) key free second) ≡ true
  unfolding cell_right
  cell_right_lem free pos some s t gap =
      and_then
      (and_then (lt-ltb 0 (suc (length later) + free) (omega arith))
      (and_then (lt-ltb y.cell (cells_at ws) t.cell)
      (and_then (cell_follows pos some s t)
      (and_then (node_right_lem ws key second t gap)
      (and_then (links_below_lem s t) (debt_right_lem pos some s t))))))
      (path_right_lem free pos some t)

  pub enters_after : (free : ℕ) → 0 < base_at ws → 0 < dimensions_at ws → Shown ws key first → Shown ws key second →
      (key ≤ x.key) ⊎ (y.key ≤ key) →
      entered ws y.cell second.dimension (seen_before (base_at ws) (dimensions_at ws) key free second)
      ≡ seen_at (base_at ws) (dimensions_at ws) key free second
  unfolding entered
  enters_after free pos some s t gap =
      let fewer : suc (length later) + free - 1 ≡ length later + free = omega arith in
      let agreed = agreed_next free pos s t gap in
      let reached = passed_next some s t gap in
      rw (cell_right_lem free pos some s t gap)
      (λ i. record { right = true; left = fewer i; last = y.cell; agreed = agreed i; reached = reached i })
