-- The standing cells of a buffer of which every sentence holds, put one by one in the order of their keys: each is there once, as its
-- words have it, and no key twice.
use mathlib.Core.Path.{◌≡◌, refl, sym, ◌∙◌, ap, subst}
use mathlib.Core.Bool.{Bool, true, false, cond, not}
use mathlib.Core.Logic.{⊎_elim}
use mathlib.Core.List.{List, [], ◌∷◌, map}
use Prim.Native.Nat.{ℕ, zero, suc, ◌+◌, ◌-◌, ◌≤◌, ◌<◌}
use native.Mathlib.Decide.{ℕ_discrete}
use native.Mathlib.Omega.{arith}
use lib.Dec.{eqb, leb}
use borrow.Author.Tests.{eqb-true, eqb-false, eq-eqb, ne_eqb, leb-true, leb-false, not-true, not-false}
use Rattle.lists.specs.Lists.{occurrences}
use Rattle.lists.proofs.Occurrences.{occurrences_here, occurrences_past, occurrences_append, none_occurs}
use Rattle.lists.proofs.All.{All, all_map, all_mapped}
use Rattle.meaning.specs.Row.{Node, head_node, put}
use Rattle.meaning.specs.State.{key_of}
use Rattle.meaning.specs.Picture.{mark}
use Rattle.meaning.specs.Words.{key_at, value_at, mark_at, owed_at, cells_at}
use Rattle.meaning.specs.Sentences.{Free, Standing, AList}
use Rattle.meaning.proofs.Rows.AscendingRow.{Asc}
use Rattle.meaning.proofs.Rows.Places.{key_of_has}
use Rattle.meaning.proofs.Cells.Placed.{standing_not_free}
use Rattle.meaning.proofs.BothWays.ConverseKeys.{head_stands, free_or_standing}

-- A node put in its place

pub put_all : (P : Node → Type 0) (x : Node) (row : List Node) → P x → All P row → All P (put x row)
unfolding put
put_all P x [] h all = (h, tt)
put_all P x (y ∷ row) h all = at (leb x.key y.key) (put_all P x row h all.1)
  where
    at : (t : Bool) → All P (put x row) → All P (cond t (x ∷ y ∷ row) (y ∷ put x row))
    at true more = (h, all)
    at false more = (all.0, more)

pub put_occurrences : (c : ℕ) (x : Node) (row : List Node) → occurrences c (map (λ y. y.cell) (put x row)) ≡ occurrences c (x.cell ∷ map (λ y. y.cell) row)
unfolding put
put_occurrences c x [] = refl
put_occurrences c x (y ∷ row) = at (leb x.key y.key) (put_occurrences c x row)
  where
    cells : List Node → List ℕ
    cells row = map (λ y. y.cell) row

    at : (t : Bool) → occurrences c (cells (put x row)) ≡ occurrences c (x.cell ∷ cells row) →
        occurrences c (cells (cond t (x ∷ y ∷ row) (y ∷ put x row))) ≡ occurrences c (x.cell ∷ cells (y ∷ row))
    at true e = refl
    at false e =
        let one = occurrences_append c (y.cell ∷ []) (cells (put x row)) in
        let two = occurrences_append c (y.cell ∷ []) (cells row) in
        let three = occurrences_append c (x.cell ∷ []) (cells row) in
        let four = occurrences_append c (x.cell ∷ []) (y.cell ∷ cells row) in
        omega arith

pub put_ascends : (low : ℕ) (x : Node) (row : List Node) → low < x.key → All (λ y. x.key ≡ y.key → ⊥) row → Asc low row → Asc low (put x row)
unfolding put
put_ascends low x [] h others asc = (h, tt)
put_ascends low x (y ∷ row) h others asc = at (leb x.key y.key) refl (λ k. put_ascends y.key x row k others.1 asc.1)
  where
    at : (t : Bool) → leb x.key y.key ≡ t → (y.key < x.key → Asc y.key (put x row)) → Asc low (cond t (x ∷ y ∷ row) (y ∷ put x row))
    at true e more = (h, (let k = leb-true x.key y.key e in let ne = others.0 in omega arith, asc.1))
    at false e more = (asc.0, more (leb-false x.key y.key e))

-- The node of a standing cell

-- as the words have it
abbrev pub node_in : List ℕ → ℕ → Node
node_in ws c = record { cell = c; key = key_at ws c; value = value_at ws c; live = eqb (mark_at ws c) 1; owes = not (eqb (owed_at ws c) 0) }

-- a node says what the words of its cell say
pub record Shown (ws : List ℕ) (x : Node) : Type 0 where
  pub standing : Standing ws x.cell
  pub key : x.key ≡ key_at ws x.cell
  pub value : x.value ≡ value_at ws x.cell
  pub marked : mark x.live ≡ mark_at ws x.cell
  pub owing : x.owes ≡ true → 0 < owed_at ws x.cell
  pub unowing : x.owes ≡ false → owed_at ws x.cell ≡ 0

pub node_shown : (ws : List ℕ) (c : ℕ) → Standing ws c → Shown ws (node_in ws c)
node_shown ws c st =
    record {
      standing = st;
      key = refl;
      value = refl;
      marked = ⊎_elim (λ e. rw (eq-eqb (mark_at ws c) 1 e) (sym e)) (λ e. rw (ne_eqb (mark_at ws c) 1 (λ q. omega arith)) (sym e)) st.mark;
      owing = λ e. let ne = eqb-false (owed_at ws c) 0 (not-true (eqb (owed_at ws c) 0) e) in omega arith;
      unowing = λ e. eqb-true (owed_at ws c) 0 (not-false (eqb (owed_at ws c) 0) e);
    }

pub owes_shown : {ws : List ℕ} (x : Node) → Shown ws x → 0 < owed_at ws x.cell → x.owes ≡ true
owes_shown x s h = at x.owes refl
  where
    at : (t : Bool) → x.owes ≡ t → t ≡ true
    at true o = refl
    at false o = absurd (let e = s.unowing o in omega arith)

pub unowing_shown : {ws : List ℕ} (x : Node) → Shown ws x → owed_at ws x.cell ≡ 0 → x.owes ≡ false
unowing_shown x s e = at x.owes refl
  where
    at : (t : Bool) → x.owes ≡ t → t ≡ false
    at true o = absurd (let h = s.owing o in omega arith)
    at false o = refl

-- the key of a cell that occurs in a row
pub shown_key : (ws : List ℕ) (c : ℕ) (row : List Node) → All (Shown ws) row → 0 < occurrences c (map (λ x. x.cell) row) → key_of c row ≡ key_at ws c
shown_key ws c row all h = key_of_has (λ key. key ≡ key_at ws c) c row h (all_map (λ x s e. s.key ∙ ap (key_at ws) e) row all)

-- The row

-- the standing ones of n cells from c on, ascending by key
unfoldable pub row_from : List ℕ → ℕ → ℕ → List Node
row_from ws c zero = []
row_from ws c (suc n) = cond (eqb (mark_at ws c) 0) (row_from ws (suc c) n) (put (node_in ws c) (row_from ws (suc c) n))

-- the standing cells but the head
abbrev pub standing_row : List ℕ → List Node
standing_row ws = row_from ws 1 (cells_at ws - 1)

module _ (ws : List ℕ) (a : AList ws) where
  -- the head owes nothing
  pub head_shown : Shown ws head_node
  head_shown =
      record {
        standing = head_stands ws a;
        key = sym a.head.0;
        value = sym a.head.1.0;
        marked = sym a.head.1.1;
        owing = λ e. absurd (let z : ◌≡◌ {A = ℕ} 0 1 = cc in omega arith);
        unowing = λ e. at (ℕ_discrete (owed_at ws 0) 0);
      }
    where
      at : Dec (owed_at ws 0 ≡ 0) → owed_at ws 0 ≡ 0
      at (yes e) = e
      at (no ne) = absurd (let h = (a.debts 0 (head_stands ws a) (omega arith)).not_head in omega arith)

  -- the first of the cells is free, and no node, or standing, and put to the others
  row_cases : (P : List Node → Type 0) (c n : ℕ) → c < cells_at ws → (Free ws c → P (row_from ws (suc c) n)) →
      (Standing ws c → P (put (node_in ws c) (row_from ws (suc c) n))) → P (row_from ws c (suc n))
  unfolding row_from
  row_cases P c n h free standing =
      ⊎_elim
      (λ f. rw (eq-eqb (mark_at ws c) 0 f.mark) (free f))
      (λ st. rw (ne_eqb (mark_at ws c) 0 (λ e. standing_not_free st (record { cell = h; mark = e }))) (standing st))
      (free_or_standing ws a c h)

  -- the nodes are as the words have them, and their cells are among the n
  pub row_shown : (c n : ℕ) → c + n ≤ cells_at ws → All (λ x. Shown ws x × (c ≤ x.cell)) (row_from ws c n)
  unfolding row_from
  row_shown c zero h = tt
  row_shown c (suc n) h =
      let P : Node → Type 0 = λ x. Shown ws x × (c ≤ x.cell) in
      let rest = row_from ws (suc c) n in
      let more : All P rest = all_map (λ x s. (s.0, let k = s.1 in omega arith)) rest (row_shown (suc c) n (omega arith)) in
      row_cases (All P) c n (omega arith) (λ f. more) (λ st. put_all P (node_in ws c) rest (node_shown ws c st, omega arith) more)

  -- no two standing cells have the same key
  pub row_ascends : (c n : ℕ) → 0 < c → c + n ≤ cells_at ws → Asc 0 (row_from ws c n)
  unfolding row_from
  row_ascends c zero pos h = tt
  row_ascends c (suc n) pos h =
      let rest = row_from ws (suc c) n in
      let more = row_ascends (suc c) n (omega arith) (omega arith) in
      row_cases (Asc 0) c n (omega arith) (λ f. more)
      (λ st. put_ascends 0 (node_in ws c) rest (a.keys c st pos).0
      (all_map (λ y s e. let q = a.distinct c y.cell st s.0.standing (e ∙ s.0.key) in let k = s.1 in omega arith) rest
      (row_shown (suc c) n (omega arith)))
      more)

  -- each standing one of the n cells is there once
  pub row_once : (y c n : ℕ) → Standing ws y → c ≤ y → y < c + n → c + n ≤ cells_at ws → occurrences y (map (λ x. x.cell) (row_from ws c n)) ≡ 1
  row_once y c zero st low high h = absurd (omega arith)
  row_once y c (suc n) st low high h = at (λ ne. row_once y (suc c) n st (omega arith) (omega arith) (omega arith))
    where
      cells : List Node → List ℕ
      cells row = map (λ x. x.cell) row

      rest : List Node
      rest = row_from ws (suc c) n

      none : c ≡ y → occurrences y (cells rest) ≡ 0
      none q = none_occurs y (cells rest) (all_mapped (λ x. y ≡ x → ⊥) (λ x. x.cell) rest
          (all_map (λ x s e. let k = s.1 in omega arith) rest (row_shown (suc c) n (omega arith))))

      with_first : ((c ≡ y → ⊥) → occurrences y (cells rest) ≡ 1) → Dec (c ≡ y) → occurrences y (c ∷ cells rest) ≡ 1
      with_first more (yes q) = occurrences_here y c (cells rest) q ∙ ap suc (none q)
      with_first more (no nq) = occurrences_past y c (cells rest) nq ∙ more nq

      at : ((c ≡ y → ⊥) → occurrences y (cells rest) ≡ 1) → occurrences y (cells (row_from ws c (suc n))) ≡ 1
      at more =
          row_cases (λ row. occurrences y (cells row) ≡ 1) c n (omega arith)
          (λ f. more (λ e. standing_not_free (subst (Standing ws) (sym e) st) f))
          (λ t. put_occurrences y (node_in ws c) rest ∙ with_first more (ℕ_discrete c y))
