-- The words of the cells met are those that their places in the row ask for. A cell that owes has no link but the one to the cell met
-- next, so that cell is the one owed; and what a cell is found to hold for the one before is then that one's settled link.
use mathlib.Core.Path.{◌≡◌, refl, sym, ◌∙◌, ap, ap₂, subst}
use mathlib.Core.Bool.{Bool, true, false, cond, ◌&&◌, not, false≢true}
use mathlib.Core.Logic.{◌⊎◌, inl, inr}
use mathlib.Core.List.{List, [], ◌∷◌}
use Prim.Native.Nat.{ℕ, ◌≤◌, ◌<◌}
use native.Mathlib.Decide.{ℕ_discrete, dec_le, dec_lt}
use native.Mathlib.Omega.{arith}
use lib.Dec.{eqb}
use borrow.Author.Tests.{le-leb, lt-leb, eq-eqb, ne_eqb, eqb-false, not-true}
use Rattle.lists.proofs.All.{All}
use Rattle.lists.proofs.Tests.{both}
use Rattle.meaning.specs.Keys.{shared}
use Rattle.meaning.specs.Row.{head_node, first_sharing, Place, head_place, places_after, places, settled_link, owed, low, high, between, link}
use Rattle.meaning.specs.Picture.{mark}
use Rattle.meaning.specs.Words.{key_at, value_at, mark_at, owed_at, low_at, high_at, link_at, dimensions_at, base_at}
use Rattle.meaning.specs.Walk.{link_read}
use Rattle.meaning.proofs.Pictures.State.{Debt}
use Rattle.meaning.proofs.Cells.WalkRead.{Held, link_tested, read_own, read_owed, read_unowing, between_facts}
use Rattle.meaning.proofs.BothWays.ConverseRow.{node_in}
use Rattle.account.specs.declared.Seen.{Seen}
use Rattle.account.specs.Tree.{due_to, at_head}
use Rattle.account.proofs.AcceptedTests.{DebtTested, Right, Header, Head}
use Rattle.account.proofs.AcceptedRun.{Met, next, next_here, next_none, Linked, Links, seen, Trace}
use Rattle.account.proofs.AcceptedKeys.{row_in, Rising, sharing_is_next}

-- Links read through what is owed

-- x owes, and link d is one that it owes
record DueLink (ws : List ℕ) (x d : ℕ) : Type 0 where
  owes : owed_at ws x ≡ 0 → ⊥
  least : low_at ws x ≤ d
  above : d < high_at ws x

due_fact : (ws : List ℕ) (x d : ℕ) → due_to ws x d ≡ true → DueLink ws x d
due_fact ws x d e =
    let (owes, inside) = both (not (eqb (owed_at ws x) 0)) (between (low_at ws x) (high_at ws x) d) e in
    let (least, above) = between_facts (low_at ws x) (high_at ws x) d inside in
    record { owes = eqb-false (owed_at ws x) 0 (not-true (eqb (owed_at ws x) 0) owes); least = least; above = above }

due_not : (ws : List ℕ) (x d : ℕ) → high_at ws x ≤ d → due_to ws x d ≡ false
due_not ws x d h = at (due_to ws x d) refl
  where
    at : (t : Bool) → due_to ws x d ≡ t → t ≡ false
    at true e = absurd (let k = (due_fact ws x d e).above in omega arith)
    at false e = refl

-- What is owed, and to which cell

pub record Clear (ws : List ℕ) (x : ℕ) : Type 0 where
  pub owed : owed_at ws x ≡ 0
  pub low : low_at ws x ≡ 0
  pub high : high_at ws x ≡ 0

-- x, of dimension e, owes the cell met next
pub record OwesTo (ws : List ℕ) (x e : ℕ) (m : Met) : Type 0 where
  pub owes : owed_at ws x ≡ 0 → ⊥
  pub owed : owed_at ws x ≡ m.cell
  pub low : low_at ws x ≡ e
  pub high : high_at ws x ≡ m.link_number
  pub lower : e < m.link_number

-- x owes nothing, or the cell met next
abbrev pub OwesNext : List ℕ → ℕ → ℕ → List Met → Type 0
OwesNext ws x e [] = Clear ws x
OwesNext ws x e (m ∷ met) = Clear ws x ⊎ OwesTo ws x e m

clear_next : (ws : List ℕ) (x e : ℕ) → Clear ws x → (met : List Met) → OwesNext ws x e met
clear_next ws x e c [] = c
clear_next ws x e c (m ∷ met) = inl c

-- a cell y that owes: its only link leads to the owed cell
module _ (ws : List ℕ) (x y e : ℕ) (o : DebtTested ws x y e) where
  owing_link : link_read ws y (high_at ws y) ≡ owed_at ws y
  owing_link =
      read_own ws y (high_at ws y) (due_not ws y (high_at ws y) (omega arith)) ∙ o.links (high_at ws y) o.inside
      ∙ ap (λ t. cond t (owed_at ws y) 0) (eq-eqb (high_at ws y) (high_at ws y) refl)

  owing_none : (d : ℕ) → d < dimensions_at ws → high_at ws y < d → link_read ws y d ≡ 0
  owing_none d l h =
      read_own ws y d (due_not ws y d (omega arith)) ∙ o.links d l ∙ ap (λ t. cond t (owed_at ws y) 0) (ne_eqb d (high_at ws y) (λ q. omega arith))

  -- so that is the cell met next
  owing_next_lem : (owed_at ws y ≡ 0 → ⊥) → (later : List Met) → Linked ws y e later →
      All (λ m. 0 < m.cell) later → All (λ m. m.link_number < dimensions_at ws) later → OwesNext ws y e later
  unfolding next
  owing_next_lem ne [] linked cells levels = absurd (ne (sym owing_link ∙ linked (high_at ws y) (let h = o.high in omega arith) o.inside))
  owing_next_lem ne (m ∷ later) linked cells levels = at (dec_lt (high_at ws y) m.link_number) (ℕ_discrete m.link_number (high_at ws y))
    where
      leads : owed_at ws y ≡ next (high_at ws y) (m ∷ later)
      leads = sym owing_link ∙ linked (high_at ws y) (let h = o.high in omega arith) o.inside

      at : Dec (high_at ws y < m.link_number) → Dec (m.link_number ≡ high_at ws y) → Clear ws y ⊎ OwesTo ws y e m
      at (yes h) q =
          let z : 0 ≡ m.cell = sym (owing_none m.link_number levels.0 h) ∙ linked m.link_number (let k = o.high in omega arith) levels.0
          ∙ next_here m.link_number m later refl in
          absurd (let p = cells.0 in omega arith)
      at (no h) (yes q) =
          inr (record { owes = ne; owed = leads ∙ next_here (high_at ws y) m later q; low = o.low; high = sym q; lower = let k = o.high in omega arith })
      at (no h) (no q) = absurd (ne (leads ∙ next_none (high_at ws y) m later (omega arith)))

owes_next : (ws : List ℕ) (s : Seen) (y e : ℕ) (later : List Met) → Right ws s y e → Linked ws y e later → All (λ m. 0 < m.cell) later →
    All (λ m. m.link_number < dimensions_at ws) later → OwesNext ws y e later
owes_next ws s y e later r linked cells levels = at (ℕ_discrete (owed_at ws y) 0)
  where
    at : Dec (owed_at ws y ≡ 0) → OwesNext ws y e later
    at (yes q) = let u = r.unowing q in clear_next ws y e (record { owed = q; low = u.0; high = u.1 }) later
    at (no ne) = owing_next_lem ws s.last y e (r.owing ne) ne later linked cells levels

-- The words by place

-- the place of cell y, of dimension `dim`, met after cell a of dimension e
abbrev place_in : List ℕ → ℕ → ℕ → ℕ → ℕ → List Met → Place
place_in ws a e y dim later = record { node = node_in ws y; dimension = dim; before = node_in ws a; before_dimension = e; later = row_in ws later }

-- The words of a standing cell are those of its place, and its debt is one that Debts 2 allows.
pub record StandingWords (ws : List ℕ) (b D : ℕ) (p : Place) : Type 0 where
  pub held : Held ws b D p
  pub debt : p.node.owes ≡ true → Debt b D p

owes_not : (ws : List ℕ) (x : ℕ) → owed_at ws x ≡ 0 → (node_in ws x).owes ≡ false
owes_not ws x e = rw (eq-eqb (owed_at ws x) 0 e) refl

owes_is : (ws : List ℕ) (x : ℕ) → (owed_at ws x ≡ 0 → ⊥) → (node_in ws x).owes ≡ true
owes_is ws x ne = rw (ne_eqb (owed_at ws x) 0 ne) refl

-- the words of what is owed
module _ (ws : List ℕ) (a ea y e dim : ℕ) (same : dim ≡ e) where
  debt_owed : (later : List Met) → OwesNext ws y e later → owed_at ws y ≡ owed (place_in ws a ea y dim later)
  debt_owed [] c = c.owed ∙ sym (ap (λ t. cond t 0 0) (owes_not ws y c.owed))
  debt_owed (m ∷ later) (inl c) = c.owed ∙ sym (ap (λ t. cond t m.cell 0) (owes_not ws y c.owed))
  debt_owed (m ∷ later) (inr o) = o.owed ∙ sym (ap (λ t. cond t m.cell 0) (owes_is ws y o.owes))

  debt_low : (later : List Met) → OwesNext ws y e later → low_at ws y ≡ low (place_in ws a ea y dim later)
  debt_low [] c = c.low ∙ sym (ap (λ t. cond t dim 0) (owes_not ws y c.owed))
  debt_low (m ∷ later) (inl c) = c.low ∙ sym (ap (λ t. cond t dim 0) (owes_not ws y c.owed))
  debt_low (m ∷ later) (inr o) = o.low ∙ sym same ∙ sym (ap (λ t. cond t dim 0) (owes_is ws y o.owes))

  debt_high : (later : List Met) → Rising ws y later → OwesNext ws y e later → high_at ws y ≡ high (base_at ws) (dimensions_at ws) (place_in ws a ea y dim later)
  debt_high [] r c = c.high ∙ sym (ap (λ t. cond t (shared (base_at ws) (dimensions_at ws) (key_at ws y) 0) 0) (owes_not ws y c.owed))
  debt_high (m ∷ later) r (inl c) =
      c.high ∙ sym (ap (λ t. cond t (shared (base_at ws) (dimensions_at ws) (key_at ws y) (key_at ws m.cell)) 0) (owes_not ws y c.owed))
  debt_high (m ∷ later) r (inr o) =
      o.high ∙ sym r.0.1 ∙ sym (ap (λ t. cond t (shared (base_at ws) (dimensions_at ws) (key_at ws y) (key_at ws m.cell)) 0) (owes_is ws y o.owes))

  -- the links of y that the cell itself owes
  due_own : (later : List Met) → Rising ws y later → OwesNext ws y e later → (d : ℕ) →
      due_to ws y d ≡ ((node_in ws y).owes && between (low (place_in ws a ea y dim later)) (high (base_at ws) (dimensions_at ws) (place_in ws a ea y dim later)) d)
  due_own later r owes d = ap₂ (λ l h. (node_in ws y).owes && between l h d) (debt_low later owes) (debt_high later r owes)

  -- and those that the cell before owes
  due_before : Clear ws a ⊎ OwesTo ws a ea (record { cell = y; link_number = e }) → (d : ℕ) → due_to ws a d ≡ ((node_in ws a).owes && between ea dim d)
  due_before (inl c) d =
      ap (λ t. t && between (low_at ws a) (high_at ws a) d) (owes_not ws a c.owed) ∙ sym (ap (λ t. t && between ea dim d) (owes_not ws a c.owed))
  due_before (inr o) d = ap₂ (λ l h. (node_in ws a).owes && between l h d) o.low (o.high ∙ sym same)

  -- Debts 2: the owed cell is the next standing one and owes nothing, and low is below high
  debt_allowed : (s : Seen) (later : List Met) → s.last ≡ y → Trace ws s later → Rising ws y later → OwesNext ws y e later →
      (node_in ws y).owes ≡ true → Debt (base_at ws) (dimensions_at ws) (place_in ws a ea y dim later)
  debt_allowed s [] is t r c o = absurd (false≢true (sym (owes_not ws y c.owed) ∙ o))
  debt_allowed s (m ∷ later) is t r (inl c) o = absurd (false≢true (sym (owes_not ws y c.owed) ∙ o))
  debt_allowed s (m ∷ later) is t r (inr owes) o =
      record {
        later = omega arith;
        unowing = at (ℕ_discrete (owed_at ws m.cell) 0);
        lower = let l = owes.lower in let q = r.0.1 in omega arith;
      }
    where
      at : Dec (owed_at ws m.cell ≡ 0) → (node_in ws m.cell).owes ≡ false
      at (yes q) = owes_not ws m.cell q
      at (no ne) = absurd (owes.owes (ap (owed_at ws) (sym is) ∙ (t.0.owing ne).before))

-- Link d of a cell that is met after another, of dimension ea.
module _ (ws : List ℕ) (pos : 0 < base_at ws) (s : Seen) (ea : ℕ) (m : Met) (later : List Met) (right : Right ws s m.cell m.link_number)
    (before : Linked ws s.last ea (m ∷ later)) (before-owes : Clear ws s.last ⊎ OwesTo ws s.last ea m)
    (rises : Rising ws s.last (m ∷ later)) (linked : Linked ws m.cell m.link_number later) (owes : OwesNext ws m.cell m.link_number later)
    (d : ℕ) (inside : d < dimensions_at ws) where
  -- one that the cell before owes
  link_due_lem : due_to ws s.last d ≡ true →
      link_at ws m.cell d ≡ first_sharing (base_at ws) (dimensions_at ws) (key_at ws s.last) d (node_in ws m.cell ∷ row_in ws later)
  link_due_lem t = at before-owes
    where
      due : DueLink ws s.last d
      due = due_fact ws s.last d t

      at : Clear ws s.last ⊎ OwesTo ws s.last ea m →
          link_at ws m.cell d ≡ first_sharing (base_at ws) (dimensions_at ws) (key_at ws s.last) d (node_in ws m.cell ∷ row_in ws later)
      at (inl c) = absurd (due.owes c.owed)
      at (inr o) =
          ap (λ x. link_at ws x d) (sym o.owed) ∙ sym (read_owed ws s.last d t) ∙ before d (let h = due.least in let k = o.low in omega arith) inside
          ∙ sym (sharing_is_next ws pos s.last d (m ∷ later) rises inside)

  -- one that the cell itself owes
  link_owed : due_to ws m.cell d ≡ true → link_at ws m.cell d ≡ 0
  link_owed t =
      let due = due_fact ws m.cell d t in
      (right.owing due.owes).links d inside
      ∙ ap (λ q. cond q (owed_at ws m.cell) 0) (ne_eqb d (high_at ws m.cell) (λ q. let h = due.above in omega arith))

  -- any other is settled
  link_own : (dim : ℕ) → dim ≡ m.link_number → due_to ws s.last d ≡ false → due_to ws m.cell d ≡ false →
      link_at ws m.cell d ≡ settled_link (base_at ws) (dimensions_at ws) (place_in ws s.last ea m.cell dim later) d
  link_own dim same t u = at (dec_le dim d)
    where
      lower : (link_at ws m.cell d ≡ 0) ⊎ (due_to ws s.last d ≡ true) → link_at ws m.cell d ≡ 0
      lower (inl q) = q
      lower (inr q) = absurd (false≢true (sym t ∙ q))

      at : Dec (dim ≤ d) → link_at ws m.cell d ≡ settled_link (base_at ws) (dimensions_at ws) (place_in ws s.last ea m.cell dim later) d
      at (yes h) =
          rw (le-leb dim d h)
          (sym (read_own ws m.cell d u) ∙ linked d (omega arith) inside ∙ sym (sharing_is_next ws pos m.cell d later rises.1 inside))
      at (no h) = rw (lt-leb dim d (omega arith)) (lower (right.below d (omega arith)))

  link_word : (dim : ℕ) → dim ≡ m.link_number → link_at ws m.cell d ≡ link (base_at ws) (dimensions_at ws) (place_in ws s.last ea m.cell dim later) d
  link_word dim same =
      at (due_to ws s.last d) (due_to ws m.cell d) refl refl
      ∙ sym (link_tested b D p d (sym (due_before ws s.last ea m.cell m.link_number dim same before-owes d))
      (sym (due_own ws s.last ea m.cell m.link_number dim same later rises.1 owes d)))
    where
      b : ℕ
      b = base_at ws

      D : ℕ
      D = dimensions_at ws

      p : Place
      p = place_in ws s.last ea m.cell dim later

      at : (q r : Bool) → due_to ws s.last d ≡ q → due_to ws m.cell d ≡ r →
          link_at ws m.cell d ≡ cond q (first_sharing b D (key_at ws s.last) d (node_in ws m.cell ∷ row_in ws later)) (cond r 0 (settled_link b D p d))
      at true r t u = link_due_lem t
      at false true t u = link_owed u
      at false false t u = link_own dim same t u

-- The places of the cells met

mark_word : (ws : List ℕ) (s : Seen) (y e : ℕ) → Right ws s y e → mark_at ws y ≡ mark (eqb (mark_at ws y) 1)
mark_word ws s y e r = at r.node
  where
    at : ((mark_at ws y ≡ 2) × (value_at ws y ≡ 0)) ⊎ ((mark_at ws y ≡ 1) × (s.reached ≡ true)) → mark_at ws y ≡ mark (eqb (mark_at ws y) 1)
    at (inl t) = t.0 ∙ sym (ap (λ n. mark (eqb n 1)) t.0)
    at (inr t) = t.0 ∙ sym (ap (λ n. mark (eqb n 1)) t.0)

pub standing_after : (ws : List ℕ) → Header ws → (s : Seen) (ea : ℕ) (met : List Met) → Trace ws s met → Links ws met → Rising ws s.last met →
    All (λ m. 0 < m.cell) met → All (λ m. m.link_number < dimensions_at ws) met → Linked ws s.last ea met → OwesNext ws s.last ea met →
    All (StandingWords ws (base_at ws) (dimensions_at ws)) (places_after (base_at ws) (dimensions_at ws) (node_in ws s.last) ea (row_in ws met))
unfolding places_after
standing_after ws header s ea [] trace links rises cells levels before before-owes = tt
standing_after ws header s ea (m ∷ met) trace links rises cells levels before before-owes = (
  record {
    held = record {
      key = refl;
      value = refl;
      mark = mark_word ws s m.cell m.link_number trace.0;
      owed = debt_owed ws s.last ea m.cell m.link_number dim rises.0.1 met owes;
      low = debt_low ws s.last ea m.cell m.link_number dim rises.0.1 met owes;
      high = debt_high ws s.last ea m.cell m.link_number dim rises.0.1 met rises.1 owes;
      link = λ d l. link_word ws header.positive s ea m met trace.0 before before-owes rises links.0 owes d l dim rises.0.1;
    };
    debt = debt_allowed ws s.last ea m.cell m.link_number dim rises.0.1 (seen ws m s) met refl trace.1 rises.1 owes;
  },
  standing_after ws header (seen ws m s) dim met trace.1 links.1 rises.1 cells.1 levels.1
      (subst (λ e. Linked ws m.cell e met) (sym rises.0.1) links.0) (subst (λ e. OwesNext ws m.cell e met) (sym rises.0.1) owes),
)
  where
    dim : ℕ
    dim = shared (base_at ws) (dimensions_at ws) (key_at ws s.last) (key_at ws m.cell)

    owes : OwesNext ws m.cell m.link_number met
    owes = owes_next ws s m.cell m.link_number met trace.0 links.0 cells.1 levels.1

-- The head's place

pub node_head : (ws : List ℕ) → Head ws → node_in ws 0 ≡ head_node
node_head ws head =
    λ i. record { cell = 0; key = head.key i; value = head.value i; live = ap (λ n. eqb n 1) head.mark i; owes = owes_not ws 0 head.owed i }

standing_head : (ws : List ℕ) → 0 < base_at ws → Head ws → (met : List Met) → Rising ws 0 met → Linked ws 0 0 met →
    StandingWords ws (base_at ws) (dimensions_at ws) (head_place (row_in ws met))
unfolding link
standing_head ws pos head met rises linked =
    let b = base_at ws in
    let D = dimensions_at ws in
    record {
      held = record {
        key = head.key;
        value = head.value;
        mark = head.mark;
        owed = head.owed;
        low = head.low;
        high = head.high;
        link = λ d l.
            rw (le-leb 0 d (omega arith))
            (sym (read_unowing ws 0 d head.owed)
            ∙ linked d (omega arith) l ∙ sym (sharing_is_next ws pos 0 d met rises l) ∙ ap (λ k. first_sharing b D k d (row_in ws met)) head.key);
      };
      debt = λ o. absurd (false≢true o);
    }

-- all places, from a run over all children of the head
pub standing_places : (ws : List ℕ) → Header ws → Head ws → (met : List Met) → Trace ws (at_head ws) met → Links ws met → Rising ws 0 met →
    All (λ m. 0 < m.cell) met → All (λ m. m.link_number < dimensions_at ws) met → Linked ws 0 0 met →
    All (StandingWords ws (base_at ws) (dimensions_at ws)) (places (base_at ws) (dimensions_at ws) (row_in ws met))
unfolding places at_head
standing_places ws header head met trace links rises cells levels linked = (
  standing_head ws header.positive head met rises linked,
  subst (λ x. All (StandingWords ws (base_at ws) (dimensions_at ws)) (places_after (base_at ws) (dimensions_at ws) x 0 (row_in ws met))) (node_head ws head)
      (standing_after ws header (at_head ws) 0 met trace links rises cells levels linked
      (clear_next ws 0 0 (record { owed = head.owed; low = head.low; high = head.high }) met)),
)
