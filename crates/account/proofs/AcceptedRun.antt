-- A run of the check that ends right, as the list of the cells met, in the order read, each with the number of the link that led to
-- it. Each is right after what had been seen. The cells that hang from x by links of number e and more are met by numbers of at least
-- e, and those by higher numbers first; so link d of a cell leads to the first cell met later by a number of at most d, if that number
-- is d.
use mathlib.Core.Path.{◌≡◌, refl, sym, ◌∙◌, ap, subst}
use mathlib.Core.Bool.{Bool, true, false, cond, ◌||◌, false≢true}
use mathlib.Core.List.{List, [], ◌∷◌, ◌++◌}
use Prim.Native.Nat.{ℕ, zero, suc, ◌-◌, ◌≤◌, ◌<◌}
use native.Mathlib.Decide.{ℕ_discrete}
use native.Mathlib.Omega.{arith}
use lib.Dec.{eqb, leb}
use borrow.Author.Tests.{eqb-true, eqb-false, eq-eqb, ne_eqb, le-leb, lt-leb}
use Rattle.lists.proofs.All.{All, all_map, all_append}
use Rattle.meaning.specs.Walk.{link_read}
use Rattle.meaning.specs.Words.{dimensions_at, cells_at, position_at}
use Rattle.account.specs.declared.Seen.{Seen}
use Rattle.account.specs.Tree.{agreed_after, cell_right, wrong, entered, along, children, at_head, seen_all}
use Rattle.account.proofs.AcceptedTests.{Right, cell_right_lem}

-- A cell that has been read, and the number of the link that led to it.
pub record Met : Type 0 where
  pub cell : ℕ
  pub link_number : ℕ

-- What the lists of cells met say

-- of the cells met, the first by a number of at most d: that cell if the number is d, else 0
unfoldable pub next : ℕ → List Met → ℕ
next d [] = 0
next d (m ∷ later) = cond (leb m.link_number d) (cond (eqb m.link_number d) m.cell 0) (next d later)

pub next_past : (d : ℕ) (m : Met) (later : List Met) → d < m.link_number → next d (m ∷ later) ≡ next d later
unfolding next
next_past d m later h = rw (lt-leb m.link_number d h) refl

pub next_here : (d : ℕ) (m : Met) (later : List Met) → m.link_number ≡ d → next d (m ∷ later) ≡ m.cell
unfolding next
next_here d m later e = rw (le-leb m.link_number d (omega arith), eq-eqb m.link_number d e) refl

pub next_none : (d : ℕ) (m : Met) (later : List Met) → m.link_number < d → next d (m ∷ later) ≡ 0
unfolding next
next_none d m later h = rw (le-leb m.link_number d (omega arith), ne_eqb m.link_number d (λ e. omega arith)) refl

-- cells met by higher numbers are passed over
next_behind : (d : ℕ) (front later : List Met) → All (λ m. d < m.link_number) front → next d (front ++ later) ≡ next d later
next_behind d [] later a = refl
next_behind d (m ∷ front) later a = next_past d m (front ++ later) a.0 ∙ next_behind d front later a.1

next_of_higher : (d : ℕ) (met : List Met) → All (λ m. d < m.link_number) met → next d met ≡ 0
unfolding next
next_of_higher d [] a = refl
next_of_higher d (m ∷ met) a = next_past d m met a.0 ∙ next_of_higher d met a.1

-- a cell met by a lower number ends the search
next_before : (d : ℕ) (front : List Met) (m : Met) (later : List Met) → m.link_number < d → next d (front ++ (m ∷ later)) ≡ next d front
unfolding next
next_before d [] m later h = next_none d m later h
next_before d (n ∷ front) m later h = ap (λ r. cond (leb n.link_number d) (cond (eqb n.link_number d) n.cell 0) r) (next_before d front m later h)

-- the links of x of number e and more, read through what is owed, lead to the cells met after x
abbrev pub Linked : List ℕ → ℕ → ℕ → List Met → Type 0
Linked ws x e met = (d : ℕ) → e ≤ d → d < dimensions_at ws → link_read ws x d ≡ next d met

-- and so for each cell met, from the number on that it was met by
abbrev pub Links : List ℕ → List Met → Type 0
Links ws [] = Unit {0}
Links ws (m ∷ met) = Linked ws m.cell m.link_number met × Links ws met

links_append : (ws : List ℕ) (front : List Met) (m : Met) (later : List Met) → All (λ n. m.link_number < n.link_number) front → Links ws front →
    Links ws (m ∷ later) →
    Links ws (front ++ (m ∷ later))
links_append ws [] m later a front-links links = links
links_append ws (n ∷ front) m later a front-links links = (
  (λ d h l. front-links.0 d h l ∙ sym (next_before d front m later (let k = a.0 in omega arith))),
  links_append ws front m later a.1 front-links.1 links,
)

-- what has been seen once a cell is read
abbrev pub seen : List ℕ → Met → Seen → Seen
seen ws m s = record {
  right = true;
  left = s.left - 1;
  last = m.cell;
  agreed = agreed_after ws m.cell m.link_number s;
  reached = s.reached || eqb m.cell (position_at ws);
}

unfoldable pub seen_after : List ℕ → Seen → List Met → Seen
seen_after ws s [] = s
seen_after ws s (m ∷ met) = seen_after ws (seen ws m s) met

-- each cell met is right after what had been seen
abbrev pub Trace : List ℕ → Seen → List Met → Type 0
Trace ws s [] = Unit {0}
Trace ws s (m ∷ met) = Right ws s m.cell m.link_number × Trace ws (seen ws m s) met

seen_append : (ws : List ℕ) (s : Seen) (front later : List Met) → seen_after ws s (front ++ later) ≡ seen_after ws (seen_after ws s front) later
unfolding seen_after
seen_append ws s [] later = refl
seen_append ws s (m ∷ front) later = seen_append ws (seen ws m s) front later

trace_append : (ws : List ℕ) (s : Seen) (front later : List Met) → Trace ws s front → Trace ws (seen_after ws s front) later → Trace ws s (front ++ later)
unfolding seen_after
trace_append ws s [] later t u = u
trace_append ws s (m ∷ front) later t u = (t.0, trace_append ws (seen ws m s) front later t.1 u)

-- The run over the cells that hang from x by links of number e and more, from what had been seen to what is seen then.
pub record Run (ws : List ℕ) (e x : ℕ) (s t : Seen) : Type 0 where
  pub met : List Met
  pub trace : Trace ws s met
  pub ends : t ≡ seen_after ws s met
  pub levels : All (λ m. (e ≤ m.link_number) × (m.link_number < dimensions_at ws)) met
  pub cells : All (λ m. 0 < m.cell) met
  pub linked : Linked ws x e met
  pub links : Links ws met

-- x has no link e
run_none : (ws : List ℕ) (e x : ℕ) (s t : Seen) → link_read ws x e ≡ 0 → Run ws (suc e) x s t → Run ws e x s t
run_none ws e x s t none r =
    record {
      met = r.met;
      trace = r.trace;
      ends = r.ends;
      levels = all_map (λ m h. (let k = h.0 in omega arith, h.1)) r.met r.levels;
      cells = r.cells;
      linked = λ d h l. at d l (ℕ_discrete e d) h;
      links = r.links;
    }
  where
    at : (d : ℕ) → d < dimensions_at ws → Dec (e ≡ d) → e ≤ d → link_read ws x d ≡ next d r.met
    at d l (yes q) h =
        ap (link_read ws x) (sym q) ∙ none ∙ sym (next_of_higher d r.met (all_map (λ m k. let k₀ = k.0 in omega arith) r.met r.levels))
    at d l (no ne) h = r.linked d (omega arith) l

-- x has a link e, to y
run_more : (ws : List ℕ) (e x y : ℕ) (s t u : Seen) → e < dimensions_at ws → link_read ws x e ≡ y → 0 < y → Run ws (suc e) x s t →
    Right ws t y e → Run ws e y (seen ws (record { cell = y; link_number = e }) t) u → Run ws e x s u
unfolding seen_after
run_more ws e x y s t u inside leads pos r right more =
    record {
      met = r.met ++ (m ∷ more.met);
      trace = trace_append ws s r.met (m ∷ more.met) r.trace (subst (λ z. Trace ws z (m ∷ more.met)) r.ends (right, more.trace));
      ends = more.ends ∙ ap (λ z. seen_after ws z (m ∷ more.met)) r.ends ∙ sym (seen_append ws s r.met (m ∷ more.met));
      levels = all_append (λ n. (e ≤ n.link_number) × (n.link_number < dimensions_at ws)) r.met (m ∷ more.met)
          (all_map (λ n h. (let k = h.0 in omega arith, h.1)) r.met r.levels) ((omega arith, inside), more.levels);
      cells = all_append (λ n. 0 < n.cell) r.met (m ∷ more.met) r.cells (pos, more.cells);
      linked = λ d h l. at d l (ℕ_discrete e d) h;
      links = links_append ws r.met m more.met higher r.links (more.linked, more.links);
    }
  where
    m : Met
    m = record { cell = y; link_number = e }

    higher : All (λ n. e < n.link_number) r.met
    higher = all_map (λ n h. h.0) r.met r.levels

    at : (d : ℕ) → d < dimensions_at ws → Dec (e ≡ d) → e ≤ d → link_read ws x d ≡ next d (r.met ++ (m ∷ more.met))
    at d l (yes q) h =
        ap (link_read ws x) (sym q) ∙ leads ∙ sym (next_here d m more.met q)
        ∙ sym (next_behind d r.met (m ∷ more.met) (all_map (λ n k. omega arith) r.met higher))
    at d l (no ne) h = r.linked d (omega arith) l ∙ sym (next_before d r.met m more.met (omega arith))

-- the cells at one number, one from the other, each after the children by higher links of the one before
along_run : (higher : ℕ → Seen → Seen) (ws : List ℕ) (e : ℕ) → e < dimensions_at ws →
    ((x : ℕ) (s : Seen) → (higher x s).right ≡ true → Run ws (suc e) x s (higher x s)) →
    (fuel x : ℕ) (s : Seen) → (along higher ws e fuel x s).right ≡ true → Run ws e x s (along higher ws e fuel x s)
unfolding along entered
along_run higher ws e inside runs zero x s right = absurd (false≢true right)
along_run higher ws e inside runs (suc fuel) x s right = at-higher t.right refl (along_run higher ws e inside runs fuel) right
  where
    t : Seen
    t = higher x s

    y : ℕ
    y = link_read ws x e

    way_on : Seen → Seen
    way_on u = cond u.right (along higher ws e fuel y u) u

    at-cell : (0 < y) → t.right ≡ true → (q : Bool) → cell_right ws y e t ≡ q →
        ((z : ℕ) (u : Seen) → (along higher ws e fuel z u).right ≡ true → Run ws e z u (along higher ws e fuel z u)) →
        (way_on (cond q (seen ws (record { cell = y; link_number = e }) t) (wrong t))).right ≡ true →
        Run ws e x s (way_on (cond q (seen ws (record { cell = y; link_number = e }) t) (wrong t)))
    at-cell pos rt true c more h =
        let u = seen ws (record { cell = y; link_number = e }) t in
        run_more ws e x y s t (along higher ws e fuel y u) inside refl pos (runs x s rt) (cell_right_lem ws y e t c) (more y u h)
    at-cell pos rt false c more h = absurd (false≢true h)

    at-link : t.right ≡ true → (q : Bool) → eqb y 0 ≡ q →
        ((z : ℕ) (u : Seen) → (along higher ws e fuel z u).right ≡ true → Run ws e z u (along higher ws e fuel z u)) →
        (cond q t (way_on (entered ws y e t))).right ≡ true → Run ws e x s (cond q t (way_on (entered ws y e t)))
    at-link rt true c more h = run_none ws e x s t (eqb-true y 0 c) (runs x s rt)
    at-link rt false c more h = at-cell (let ne = eqb-false y 0 c in omega arith) rt (cell_right ws y e t) refl more h

    at-higher : (q : Bool) → t.right ≡ q →
        ((z : ℕ) (u : Seen) → (along higher ws e fuel z u).right ≡ true → Run ws e z u (along higher ws e fuel z u)) →
        (cond q (cond (eqb y 0) t (way_on (entered ws y e t))) t).right ≡ true → Run ws e x s (cond q (cond (eqb y 0) t (way_on (entered ws y e t))) t)
    at-higher true c more h = at-link c (eqb y 0) refl more h
    at-higher false c more h = absurd (false≢true (sym c ∙ h))

-- the children of x by links D-1 down to D-n
children_run : (fuel : ℕ) (ws : List ℕ) (n x : ℕ) (s : Seen) → n ≤ dimensions_at ws → (children fuel ws n x s).right ≡ true →
    Run ws (dimensions_at ws - n) x s (children fuel ws n x s)
unfolding children seen_after
children_run fuel ws zero x s h right =
    record { met = []; trace = tt; ends = refl; levels = tt; cells = tt; linked = λ d k l. absurd (omega arith); links = tt }
children_run fuel ws (suc n) x s h right =
    let up : dimensions_at ws - n ≡ suc (dimensions_at ws - suc n) = omega arith in
    along_run (children fuel ws n) ws (dimensions_at ws - suc n) (omega arith)
    (λ z u r. subst (λ e. Run ws e z u (children fuel ws n z u)) up (children_run fuel ws n z u (omega arith) r)) fuel x s right

-- all children of the head
pub head_run : (ws : List ℕ) → (seen_all ws).right ≡ true → Run ws 0 0 (at_head ws) (seen_all ws)
head_run ws right =
    let D = dimensions_at ws in
    let least : D - D ≡ 0 = omega arith in
    subst (λ e. Run ws e 0 (at_head ws) (seen_all ws)) least (children_run (cells_at ws) ws D 0 (at_head ws) (omega arith) right)
