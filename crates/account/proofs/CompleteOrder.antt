-- The children of a cell are read in the order of keys: by links D-1 down to m, just the later standing cells that share at least m
-- coordinates with it, which stand next to one another in the row. By induction on the links, and for one link on the siblings.
use mathlib.Core.Path.{◌≡◌, refl, sym, ◌∙◌, ap, ap₂, subst}
use mathlib.Core.Bool.{Bool, true, false, cond}
use mathlib.Core.List.{List, [], ◌∷◌}
use Prim.Native.Nat.{ℕ, zero, suc, ◌+◌, ◌-◌, ◌≤◌, ◌<◌, min}
use native.Mathlib.Decide.{dec_lt, ℕ_discrete}
use native.Mathlib.Omega.{arith}
use lib.Dec.{eqb, leb, ltb}
use lib.ListN.{length}
use borrow.Author.Tests.{lt-ltb, le-ltb, le-leb, lt-leb, ne_eqb}
use Rattle.lists.proofs.All.{All, all_map}
use Rattle.meaning.specs.Keys.{shared}
use Rattle.meaning.specs.Row.{Node, Place, places_after, first_sharing, settled_link}
use Rattle.meaning.specs.Walk.{link_read}
use Rattle.meaning.specs.Words.{dimensions_at}
use Rattle.meaning.proofs.Rows.AscendingRow.{Asc, asc_above}
use Rattle.meaning.proofs.Rows.Keys.{shared_same, shared_less, ultra}
use Rattle.meaning.proofs.Cells.WalkRead.{settled_above}
use Rattle.meaning.proofs.Rows.Parent.{sharing_skips, sharing_hits, sharing_above}
use Rattle.account.specs.declared.Seen.{Seen}
use Rattle.account.specs.Tree.{entered, along, children}

-- The last place from x's on such that all nodes up to it share at least m coordinates with a key. (x has dimension e and stands
-- after a, which has dimension f.)
unfoldable pub last_sharing : ℕ → ℕ → ℕ → ℕ → Node → ℕ → Node → ℕ → List Node → Place
last_sharing b D key m x e a f [] = record { node = x; dimension = e; before = a; before_dimension = f; later = [] }
last_sharing b D key m x e a f (y ∷ later) =
    cond (ltb (shared b D key y.key) m)
    (record { node = x; dimension = e; before = a; before_dimension = f; later = y ∷ later })
    (last_sharing b D key m y (shared b D x.key y.key) x e later)

-- the place after a place
abbrev pub place_after : ℕ → ℕ → Place → Node → List Node → Place
place_after b D p y later =
    record { node = y; dimension = shared b D p.node.key y.key; before = p.node; before_dimension = p.dimension; later = later }

-- the last place from p on such that all nodes up to it share at least m coordinates with p
abbrev pub last_below : ℕ → ℕ → ℕ → Place → Place
last_below b D m p = last_sharing b D p.node.key m p.node p.dimension p.before p.before_dimension p.later

-- Where the last place is

module _ (b D : ℕ) where
  last_stops : (key m : ℕ) (x : Node) (e : ℕ) (a : Node) (f : ℕ) (y : Node) (later : List Node) → shared b D key y.key < m →
      last_sharing b D key m x e a f (y ∷ later) ≡ record { node = x; dimension = e; before = a; before_dimension = f; later = y ∷ later }
  unfolding last_sharing
  last_stops key m x e a f y later h = rw (lt-ltb (shared b D key y.key) m h) refl

  last_goes : (key m : ℕ) (x : Node) (e : ℕ) (a : Node) (f : ℕ) (y : Node) (later : List Node) → m ≤ shared b D key y.key →
      last_sharing b D key m x e a f (y ∷ later) ≡ last_sharing b D key m y (shared b D x.key y.key) x e later
  unfolding last_sharing
  last_goes key m x e a f y later h = rw (le-ltb (shared b D key y.key) m h) refl

  -- the same for two keys, where each later node shares m with both or with neither
  last_same : (key other m : ℕ) (x : Node) (e : ℕ) (a : Node) (f : ℕ) (later : List Node) →
      All (λ y. ltb (shared b D key y.key) m ≡ ltb (shared b D other y.key) m) later →
      last_sharing b D key m x e a f later ≡ last_sharing b D other m x e a f later
  unfolding last_sharing
  last_same key other m x e a f [] h = refl
  last_same key other m x e a f (y ∷ later) h =
      rw (h.0, last_same key other m y (shared b D x.key y.key) x e later h.1) refl

  -- what goes on from each place to the place after it goes on to the last one
  last_keeps : (P : Place → Type 0) →
      ((p : Place) (y : Node) (later : List Node) → p.later ≡ y ∷ later → P p → P (place_after b D p y later)) →
      (key m : ℕ) (x : Node) (e : ℕ) (a : Node) (f : ℕ) (later : List Node) →
      P (record { node = x; dimension = e; before = a; before_dimension = f; later = later }) → P (last_sharing b D key m x e a f later)
  unfolding last_sharing
  last_keeps P step key m x e a f [] h = h
  last_keeps P step key m x e a f (y ∷ later) h =
      at (ltb (shared b D key y.key) m) (last_keeps P step key m y (shared b D x.key y.key) x e later (step here y later refl h))
    where
      here : Place
      here = record { node = x; dimension = e; before = a; before_dimension = f; later = y ∷ later }

      at : (t : Bool) → P (last_sharing b D key m y (shared b D x.key y.key) x e later) →
          P (cond t here (last_sharing b D key m y (shared b D x.key y.key) x e later))
      at true more = h
      at false more = more

  pub below_keeps : (P : Place → Type 0) →
      ((p : Place) (y : Node) (later : List Node) → p.later ≡ y ∷ later → P p → P (place_after b D p y later)) →
      (m : ℕ) (p : Place) → P p → P (last_below b D m p)
  below_keeps P step m p h = last_keeps P step p.node.key m p.node p.dimension p.before p.before_dimension p.later h

  -- no later node shares D coordinates
  last_none : 0 < D → (x : Node) (e : ℕ) (a : Node) (f : ℕ) (later : List Node) → Asc x.key later →
      last_sharing b D x.key D x e a f later ≡ record { node = x; dimension = e; before = a; before_dimension = f; later = later }
  last_none pos x e a f [] h = unfold last_sharing in refl
  last_none pos x e a f (y ∷ later) h =
      last_stops x.key D x e a f y later (shared_less b D x.key y.key pos (λ e. let k = h.0 in omega arith))

  -- all nodes share 0 coordinates
  pub last_any : (key : ℕ) (x : Node) (e : ℕ) (a : Node) (f : ℕ) (later : List Node) →
      (last_sharing b D key 0 x e a f later).later ≡ []
  last_any key x e a f [] = unfold last_sharing in refl
  last_any key x e a f (y ∷ later) =
      ap (λ q. q.later) (last_goes key 0 x e a f y later (omega arith)) ∙ last_any key y (shared b D x.key y.key) x e later

-- The next sibling

-- What follows q by link e of a cell whose children by higher links end at q: the sibling y, with all that is below it, up to `end`;
-- or nothing.
data Next (b D e : ℕ) (q : Place) (to : ℕ) (end : Place) : Type 0 where
  sibling : (y : Node) (later : List Node) → q.later ≡ y ∷ later → shared b D q.node.key y.key ≡ e → to ≡ y.cell →
      end ≡ last_below b D e (place_after b D q y later) → Next b D e q to end
  none : to ≡ 0 → end ≡ q → Next b D e q to end

module _ (b D : ℕ) (pos : 0 < b) where
  -- later than a y that shares e with a key, a node shares e with both or with neither
  sharing_alike : (key e : ℕ) (y : Node) (later : List Node) → key ≤ y.key → shared b D key y.key ≡ e → Asc y.key later →
      All (λ z. ltb (shared b D key z.key) e ≡ ltb (shared b D y.key z.key) e) later
  sharing_alike key e y later h is asc =
      all_map (λ z k. at z (dec_lt (shared b D y.key z.key) e) (ultra b D key y.key z.key pos h (let l = k in omega arith)))
      later (asc_above y.key later asc)
    where
      at : (z : Node) → Dec (shared b D y.key z.key < e) →
          shared b D key z.key ≡ min (shared b D key y.key) (shared b D y.key z.key) →
          ltb (shared b D key z.key) e ≡ ltb (shared b D y.key z.key) e
      at z (yes l) u = lt-ltb (shared b D key z.key) e (omega (arith, is)) ∙ sym (lt-ltb (shared b D y.key z.key) e l)
      at z (no l) u = le-ltb (shared b D key z.key) e (omega (arith, is)) ∙ sym (le-ltb (shared b D y.key z.key) e (omega arith))

  -- of x, among those that share more than e with the key
  next : (key e : ℕ) (x : Node) (dim : ℕ) (a : Node) (f : ℕ) (later : List Node) → key ≤ x.key → e < shared b D key x.key →
      Asc x.key later →
      Next b D e (last_sharing b D key (suc e) x dim a f later) (first_sharing b D key e later) (last_sharing b D key e x dim a f later)
  next key e x dim a f [] h more asc = unfold last_sharing first_sharing in none refl refl
  next key e x dim a f (y ∷ later) h more asc =
      at (dec_lt (shared b D key y.key) e) (dec_lt e (shared b D key y.key))
      (λ more. next key e y (shared b D x.key y.key) x dim later (let k = asc.0 in omega arith) more asc.1)
    where
      rise : key ≤ y.key
      rise = let k = asc.0 in omega arith

      near : shared b D key y.key ≡ min (shared b D key x.key) (shared b D x.key y.key)
      near = ultra b D key x.key y.key pos h (let k = asc.0 in omega arith)

      at : Dec (shared b D key y.key < e) → Dec (e < shared b D key y.key) →
          (e < shared b D key y.key →
          Next b D e (last_sharing b D key (suc e) y (shared b D x.key y.key) x dim later) (first_sharing b D key e later)
          (last_sharing b D key e y (shared b D x.key y.key) x dim later)) →
          Next b D e (last_sharing b D key (suc e) x dim a f (y ∷ later)) (first_sharing b D key e (y ∷ later))
          (last_sharing b D key e x dim a f (y ∷ later))
      at (yes l) q on =
          rw (last_stops b D key (suc e) x dim a f y later (omega (arith, l)), last_stops b D key e x dim a f y later l)
          (none (sharing_above b D pos key e y later rise asc.1 l) refl)
      at (no l) (yes g) on =
          rw (
            last_goes b D key (suc e) x dim a f y later g,
            last_goes b D key e x dim a f y later (omega (arith, g)),
            sharing_skips b D key e (y ∷ []) later ((λ q. omega (arith, g)), tt),
          ) (on g)
      at (no l) (no g) on =
          let is : shared b D key y.key ≡ e = omega (arith, l, g) in
          rw (
            last_stops b D key (suc e) x dim a f y later (omega arith),
            last_goes b D key e x dim a f y later (omega arith),
            sharing_hits b D key e y later is,
          )
          (sibling y later refl (omega (arith, near)) refl
          (last_same b D key y.key e y (shared b D x.key y.key) x dim later (sharing_alike key e y later rise is asc.1)))

-- Reading along the siblings

-- how many path words agree when the row has been read up to a key k, with the position's key: the coordinates that the two share, and
-- from the position on all
abbrev pub agreed_with : ℕ → ℕ → ℕ → ℕ → ℕ
agreed_with b D key k = cond (leb key k) D (shared b D k key)

-- up to the position it is what they share, for the position shares all its coordinates with itself
pub agreed_up_to : (b D key k : ℕ) → k ≤ key → shared b D k key ≡ agreed_with b D key k
agreed_up_to b D key k h = at (ℕ_discrete k key)
  where
    at : Dec (k ≡ key) → shared b D k key ≡ agreed_with b D key k
    at (yes e) = rw (le-leb key k (omega arith)) (ap (shared b D k) (sym e) ∙ shared_same b D k)
    at (no ne) = rw (lt-leb key k (omega arith)) refl

-- what has been seen when the row has been read up to x and `left` cells are left
abbrev pub seen_with : ℕ → ℕ → ℕ → Node → ℕ → Seen
seen_with b D key x left = record { right = true; left = left; last = x.cell; agreed = agreed_with b D key x.key; reached = leb key x.key }

-- the same at a place, and before it; `free` cells are free
abbrev pub seen_at : ℕ → ℕ → ℕ → ℕ → Place → Seen
seen_at b D key free p = seen_with b D key p.node (length p.later + free)

abbrev pub seen_before : ℕ → ℕ → ℕ → ℕ → Place → Seen
seen_before b D key free p = seen_with b D key p.before (suc (length p.later) + free)

-- Links, from a place's dimension up, are read as the settled ones.
abbrev pub LinksRead : List ℕ → ℕ → Place → Type 0
LinksRead ws b p = (d : ℕ) → p.dimension ≤ d → d < dimensions_at ws → link_read ws p.node.cell d ≡ settled_link b (dimensions_at ws) p d

-- A standing cell that is right when it is read.
pub record Entered (ws : List ℕ) (b key free : ℕ) (p : Place) : Type 0 where
  pub positive : 0 < p.node.cell
  pub links : LinksRead ws b p
  pub enters : entered ws p.node.cell p.dimension (seen_before b (dimensions_at ws) key free p) ≡ seen_at b (dimensions_at ws) key free p

-- All standing cells after a place are, and are fewer than the fuel.
pub record Ready (ws : List ℕ) (b key free fuel : ℕ) (p : Place) : Type 0 where
  pub ascends : Asc p.node.key p.later
  pub links : LinksRead ws b p
  pub later : All (Entered ws b key free) (places_after b (dimensions_at ws) p.node p.dimension p.later)
  pub enough : length p.later < fuel

-- one step of `along`, from what has been seen after the children by higher links and from the link read
abbrev way_on : (ℕ → Seen → Seen) → List ℕ → ℕ → ℕ → Seen → ℕ → Seen
way_on higher ws e fuel t y =
    let u = entered ws y e t in
    cond t.right (cond (eqb y 0) t (cond u.right (along higher ws e fuel y u) u)) t

along_step : (higher : ℕ → Seen → Seen) (ws : List ℕ) (e fuel x : ℕ) (s : Seen) →
    along higher ws e (suc fuel) x s ≡ way_on higher ws e fuel (higher x s) (link_read ws x e)
unfolding along
along_step higher ws e fuel x s = refl

module _ (ws : List ℕ) (b key free full : ℕ) (pos : 0 < b) where
  -- a sibling, which is right when it is read
  onward_goes : (higher : ℕ → Seen → Seen) (e fuel : ℕ) (t : Seen) (p : Place) → t.right ≡ true → 0 < p.node.cell →
      entered ws p.node.cell e t ≡ seen_at b (dimensions_at ws) key free p →
      way_on higher ws e fuel t p.node.cell ≡ along higher ws e fuel p.node.cell (seen_at b (dimensions_at ws) key free p)
  onward_goes higher e fuel t p right positive is =
      let y = p.node.cell in
      let u = entered ws y e t in
      ap (λ r. cond r (cond (eqb y 0) t (cond u.right (along higher ws e fuel y u) u)) t) right
      ∙ ap (λ r. cond r t (cond u.right (along higher ws e fuel y u) u)) (ne_eqb y 0 (λ z. omega arith))
      ∙ ap (λ v. cond v.right (along higher ws e fuel y v) v) is

  -- the next place is right when it is read, and ready
  ready_next : (p : Place) (y : Node) (later : List Node) → p.later ≡ y ∷ later → Ready ws b key free full p →
      Entered ws b key free (place_after b (dimensions_at ws) p y later) × Ready ws b key free full (place_after b (dimensions_at ws) p y later)
  unfolding places_after
  ready_next p y later is r =
      let D = dimensions_at ws in
      let asc : Asc p.node.key (y ∷ later) = subst (Asc p.node.key) is r.ascends in
      let all : All (Entered ws b key free) (places_after b D p.node p.dimension (y ∷ later)) =
      subst (λ l. All (Entered ws b key free) (places_after b D p.node p.dimension l)) is r.later in
      let n = r.enough in
      let m = ap length is in
      (all.0, record { ascends = asc.1; links = all.0.links; later = all.1; enough = omega arith })

  ready_last : (m : ℕ) (p : Place) → Ready ws b key free full p → Ready ws b key free full (last_below b (dimensions_at ws) m p)
  ready_last m p r = below_keeps b (dimensions_at ws) (Ready ws b key free full) (λ q y later is h. (ready_next q y later is h).1) m p r

  last_shorter : (m : ℕ) (p : Place) → length (last_below b (dimensions_at ws) m p).later ≤ length p.later
  last_shorter m p =
      below_keeps b (dimensions_at ws) (λ q. length q.later ≤ length p.later) (λ q y later is h. let n = ap length is in omega arith)
      m p (omega arith)

  -- the children by link e, where those by higher links are read as stated
  along_read : (higher : ℕ → Seen → Seen) (e : ℕ) → e < dimensions_at ws →
      ((p : Place) → p.dimension ≤ suc e → Ready ws b key free full p →
      higher p.node.cell (seen_at b (dimensions_at ws) key free p)
      ≡ seen_at b (dimensions_at ws) key free (last_below b (dimensions_at ws) (suc e) p)) →
      (fuel : ℕ) (p : Place) → p.dimension ≤ e → Ready ws b key free full p → length p.later < fuel →
      along higher ws e fuel p.node.cell (seen_at b (dimensions_at ws) key free p)
      ≡ seen_at b (dimensions_at ws) key free (last_below b (dimensions_at ws) e p)
  along_read higher e inside above zero p dim r enough = absurd (omega arith)
  along_read higher e inside above (suc fuel) p dim r enough =
      along_step higher ws e fuel p.node.cell (seen_at b D key free p)
      ∙ ap₂ (way_on higher ws e fuel) (above p (omega arith) r) (r.links e dim inside ∙ settled_above b D p e dim)
      ∙ at (next b D pos p.node.key e p.node p.dimension p.before p.before_dimension p.later
      (omega arith) (omega (arith, shared_same b D p.node.key)) r.ascends)
      (λ n d s l. along_read higher e inside above fuel n d s l)
    where
      D : ℕ
      D = dimensions_at ws

      q : Place
      q = last_below b D (suc e) p

      at : Next b D e q (first_sharing b D p.node.key e p.later) (last_below b D e p) →
          ((n : Place) → n.dimension ≤ e → Ready ws b key free full n → length n.later < fuel →
          along higher ws e fuel n.node.cell (seen_at b D key free n) ≡ seen_at b D key free (last_below b D e n)) →
          way_on higher ws e fuel (seen_at b D key free q) (first_sharing b D p.node.key e p.later)
          ≡ seen_at b D key free (last_below b D e p)
      at (none to end) more = ap (way_on higher ws e fuel (seen_at b D key free q)) to ∙ ap (seen_at b D key free) (sym end)
      at (sibling y later is dimension to end) more =
          let next = ready_next q y later is (ready_last (suc e) p r) in
          let n = last_shorter (suc e) p in
          let m = ap length is in
          ap (way_on higher ws e fuel (seen_at b D key free q)) to
          ∙ onward_goes higher e fuel (seen_at b D key free q) (place_after b D q y later) refl next.0.positive
          (ap₂ (entered ws y.cell) (sym dimension) (ap (λ l. seen_with b D key q.node (length l + free)) is) ∙ next.0.enters)
          ∙ more (place_after b D q y later) (omega arith) next.1 (omega arith)
          ∙ ap (seen_at b D key free) (sym end)

  -- the children by links D-1 down to D-n
  pub children_read : 0 < dimensions_at ws → (n : ℕ) → n ≤ dimensions_at ws → (p : Place) → p.dimension ≤ dimensions_at ws - n →
      Ready ws b key free full p →
      children full ws n p.node.cell (seen_at b (dimensions_at ws) key free p)
      ≡ seen_at b (dimensions_at ws) key free (last_below b (dimensions_at ws) (dimensions_at ws - n) p)
  unfolding children
  children_read some zero h p dim r =
      let D = dimensions_at ws in
      let highest : D - 0 ≡ D = omega arith in
      ap (seen_at b D key free)
      (sym (ap (λ m. last_below b D m p) highest
      ∙ last_none b D some p.node p.dimension p.before p.before_dimension p.later r.ascends))
  children_read some (suc n) h p dim r =
      let D = dimensions_at ws in
      let lower : D - n ≡ suc (D - suc n) = omega arith in
      along_read (children full ws n) (D - suc n) (omega arith)
      (λ q d s. children_read some n (omega arith) q (omega arith) s ∙ ap (λ m. seen_at b D key free (last_below b D m q)) lower)
      full p dim r r.enough
