-- What finishing writes: the picture of the state with the debt of cell n paid is the words after the links have moved and the debt is
-- cleared. Only two cells' words depend on that debt: those of n and those of the standing cell after it.
use Rattle.std.specs.Prelude.{Option, None, Some}
use mathlib.Core.Path.{◌≡◌, refl, sym, ap, ap₂, ◌∙◌, subst}
use mathlib.Core.Bool.{Bool, true, false, cond}
use mathlib.Core.List.{◌∷◌, map}
use Prim.Native.Nat.{ℕ, zero, suc, ◌+◌, ◌-◌, ◌≤◌, ◌<◌}
use native.Mathlib.Nat.{pos_of_ne-zero}
use native.Mathlib.Decide.{ℕ_discrete, dec_le, dec_lt}
use native.Mathlib.Omega.{arith}
use lib.ListN.{get_or}
use borrow.Author.Tests.{lt-leb}
use Rattle.settings.specs.Numbers.{header_words, fields_before_links, cell_words}
use Rattle.lists.specs.Lists.{occurrences}
use Rattle.meaning.specs.Keys.{shared}
use Rattle.meaning.specs.Row.{Node, first_of, Place, settled_link, between, place_of, first_sharing}
use Rattle.meaning.specs.State.{State, places_of}
use Rattle.meaning.specs.Picture.{picture}
use Rattle.meaning.specs.Operations.{paid, finished, with_row, links_moved}
use Rattle.meaning.specs.Writes.{Finished, OwesNothing, OwesSame}
use Rattle.meaning.specs.Words.{word_at, owed_at, low_at, high_at, link_field}
use Rattle.meaning.specs.Layer.Stores.{finish_words}
use Rattle.meaning.proofs.Rows.AscendingRow.{Asc}
use Rattle.meaning.proofs.Rows.Keys.{shared_le}
use Rattle.meaning.proofs.Pictures.State.{Sound, Debt}
use Rattle.meaning.proofs.Pictures.Picture.{picture_dimensions}
use Rattle.meaning.proofs.Rows.Places.{on_cell, on_cell-cases}
use Rattle.meaning.proofs.Kept.KeepsState.{changed_state}
use Rattle.meaning.proofs.Kept.KeepsFinish.{paid_keeping}
use Rattle.meaning.proofs.Cells.WalkRead.{between_is, settled_above, between_out}
use Rattle.meaning.proofs.BothWays.SentencesRow.Led.{head, led}
use Rattle.meaning.proofs.Cells.Placed.{Placed, placed_has, placed_cell, head_placed, occurs_placed, placed_below, place_owed, place_low, place_high}
use Rattle.meaning.proofs.Cells.Placed.{place_unowing}
use Rattle.meaning.proofs.BothWays.SentencesShape.{NextIn, LedIn, placed_ascends, placed_led, place_after}
use Rattle.meaning.proofs.Cells.Changed.{words_by, by_link, placed_word, changed_word, changed_free, changed_header, changed_path}
use Rattle.meaning.proofs.Cells.Stores.{word_in, picture_exact, words_equal, field_cases, exact_finished, finish_words-finished, finish_words-none}
use Rattle.meaning.proofs.Cells.Stores.{finish_words-below, OwingWithin, finish_words-debt, finish_words-given, finish_words-cleared, finish_words-cell}
use Rattle.meaning.proofs.Cells.Stores.{finish_words-field, finish_words-before, finish_words-after}

-- a cell has one place
placed_once : {s : State} {x : ℕ} {p q : Place} → Placed s x p → Placed s x q → p ≡ q
placed_once here there = let e = here.found in let f = there.found in cc

-- What shows the debts, of the words of a place

module _ (b D value : ℕ) (live : Bool) (q : Place) where
  -- the debt of the cell before shows in the links alone
  led_apart : (a c owes : Bool) (j : ℕ) → j < fields_before_links → get_or (words_by b D value live a owes q) j 0 ≡ get_or (words_by b D value live c owes q) j 0
  unfolding words_by
  led_apart a c owes zero h = refl
  led_apart a c owes (suc zero) h = refl
  led_apart a c owes (suc (suc zero)) h = refl
  led_apart a c owes (suc (suc (suc zero))) h = refl
  led_apart a c owes (suc (suc (suc (suc zero)))) h = refl
  led_apart a c owes (suc (suc (suc (suc (suc zero))))) h = refl
  led_apart a c owes (suc (suc (suc (suc (suc (suc j)))))) h = absurd (omega arith)

  -- the cell's own does not show in key, value and mark
  owes_apart : (a owes c : Bool) (j : ℕ) → j < 3 → get_or (words_by b D value live a owes q) j 0 ≡ get_or (words_by b D value live a c q) j 0
  unfolding words_by
  owes_apart a owes c zero h = refl
  owes_apart a owes c (suc zero) h = refl
  owes_apart a owes c (suc (suc zero)) h = refl
  owes_apart a owes c (suc (suc (suc j))) h = absurd (omega arith)

  -- Debts 4
  unowing_debt : (a : Bool) (k : ℕ) → k < 3 → get_or (words_by b D value live a false q) (3 + k) 0 ≡ 0
  unfolding words_by
  unowing_debt a zero h = refl
  unowing_debt a (suc zero) h = refl
  unowing_debt a (suc (suc zero)) h = refl
  unowing_debt a (suc (suc (suc k))) h = absurd (omega arith)

-- a number is inside or not
inside_cases : {R : Type 0} (least above d : ℕ) → (least ≤ d → d < above → R) → ((least ≤ d → d < above → ⊥) → R) → R
inside_cases {R} least above d inside outside = at (dec_le least d) (dec_lt d above)
  where
    at : Dec (least ≤ d) → Dec (d < above) → R
    at (yes h) (yes l) = inside h l
    at (yes h) (no l) = outside (λ a c. l c)
    at (no h) more = outside (λ a c. h a)

-- The state after finishing cell n, whose place is p.
module _ {s : State} (v : Sound s) {n : ℕ} {p : Place} (here : Placed s n p) where
  abbrev b : ℕ
  b = s.settings.base

  abbrev D : ℕ
  D = s.settings.dimensions

  abbrev after : State
  after = changed_state s (on_cell n paid) s.position

  -- a node's debt stays, if it is not the one that is paid
  node_kept : {x : ℕ} {q : Place} → Placed s x q → (x ≡ n → p.node.owes ≡ false) → (on_cell n paid q.node).owes ≡ q.node.owes
  node_kept {x} {q} there unowing =
      on_cell-cases (λ y. y.owes ≡ q.node.owes) n paid q.node
      (λ e. let same : x ≡ n = sym (placed_cell there) ∙ e in sym (ap (λ r. r.node.owes) (placed_once (subst (λ z. Placed s z q) same there) here)
      ∙ unowing same))
      (λ ne. refl)

  before_kept : {x : ℕ} {q : Place} → Placed s x q → (NextIn s p q → p.node.owes ≡ false) → (on_cell n paid q.before).owes ≡ q.before.owes
  before_kept {x} {q} there unowing = at (placed_led v there)
    where
      at : LedIn s q → (on_cell n paid q.before).owes ≡ q.before.owes
      at (head e) = subst (λ y. (on_cell n paid y).owes ≡ y.owes) (sym (ap (λ r. r.before) e)) (ap (λ y. y.owes) (paid_keeping n).head)
      at (led r found next) =
          subst (λ y. (on_cell n paid y).owes ≡ y.owes) (sym next.before)
          (node_kept found (λ e. unowing (subst (λ t. NextIn s t q) (placed_once (subst (λ z. Placed s z r) e found) here) next)))

  paid_value : (x : Node) → (on_cell n paid x).value ≡ x.value
  paid_value x = on_cell-cases (λ y. y.value ≡ x.value) n paid x (λ e. refl) (λ ne. refl)

  paid_live : (x : Node) → (on_cell n paid x).live ≡ x.live
  paid_live x = on_cell-cases (λ y. y.live ≡ x.live) n paid x (λ e. refl) (λ ne. refl)

  -- a standing cell's words afterwards: value and mark stay
  paid_word : {x : ℕ} {q : Place} → Placed s x q → (j : ℕ) → j < cell_words D →
      word_in D (picture after) x j
      ≡ get_or (words_by b D q.node.value q.node.live (on_cell n paid q.before).owes (on_cell n paid q.node).owes q) j 0
  paid_word {x} {q} there j h =
      changed_word s (on_cell n paid) (paid_keeping n) s.position there j (placed_below v there) h
      ∙ ap₂ (λ value live. get_or (words_by b D value live (on_cell n paid q.before).owes (on_cell n paid q.node).owes q) j 0)
      (paid_value q.node) (paid_live q.node)

  -- the words of a cell stay, if neither its debt nor that of the cell before it is the one that is paid
  word_kept : {x : ℕ} {q : Place} → Placed s x q → (x ≡ n → p.node.owes ≡ false) → (NextIn s p q → p.node.owes ≡ false) → (j : ℕ) → j < cell_words D →
      word_in D (picture after) x j ≡ word_in D (picture s) x j
  word_kept {x} {q} there unowing unled j h =
      paid_word there j h
      ∙ ap₂ (λ a c. get_or (words_by b D q.node.value q.node.live a c q) j 0) (before_kept there unled) (node_kept there unowing)
      ∙ sym (placed_word s there j (placed_below v there) h)

  -- If n owes nothing, nothing changes.
  paid_nothing : p.node.owes ≡ false → picture after ≡ picture s
  paid_nothing unowing =
      words_equal (picture_exact after) (picture_exact s) (changed_header s (on_cell n paid) (paid_keeping n) s.position)
      (changed_path s (on_cell n paid) (paid_keeping n))
      (λ x j h k. at x j h k (place_of x (places_of s s.row)) refl)
    where
      at : (x j : ℕ) → x < s.settings.cells → j < cell_words D → (o : Option Place) → place_of x (places_of s s.row) ≡ o →
          word_in D (picture after) x j ≡ word_in D (picture s) x j
      at x j h k None e = changed_free s (on_cell n paid) (paid_keeping n) s.position x e j h k
      at x j h k (Some q) e = word_kept (record { found = e }) (λ same. unowing) (λ next. unowing) j k

  -- If n owes, q is the place after it.
  module _ (owes : p.node.owes ≡ true) {q : Place} (there : Placed s q.node.cell q) (next : NextIn s p q) (debt : Debt b D p) where
    owed_is : owed_at (picture s) n ≡ q.node.cell
    owed_is = place_owed v here ∙ ap (λ t. cond t (first_of p.later).cell 0) owes ∙ ap (λ l. (first_of l).cell) next.later

    low_is : low_at (picture s) n ≡ p.dimension
    low_is = place_low v here ∙ ap (λ t. cond t p.dimension 0) owes

    high_shared : shared b D p.node.key (first_of p.later).key ≡ q.dimension
    high_shared = ap (λ l. shared b D p.node.key (first_of l).key) next.later ∙ sym next.dimension

    high_is : high_at (picture s) n ≡ q.dimension
    high_is = place_high v here ∙ ap (λ t. cond t (shared b D p.node.key (first_of p.later).key) 0) owes ∙ high_shared

    next_above : p.node.key < q.node.key
    next_above = (subst (Asc p.node.key) next.later (placed_ascends v here)).0

    next_other : q.node.cell ≡ n → ⊥
    next_other e =
        let same = placed_once (subst (λ z. Placed s z q) e there) here in
        omega (arith, next_above, ap (λ r. r.node.key) same)

    next_standing : q.node.cell ≡ 0 → ⊥
    next_standing e =
        let same = placed_once (subst (λ z. Placed s z q) e there) (head_placed s) in
        omega (arith, next_above, ap (λ r. r.node.key) same)

    lower : p.dimension < q.dimension
    lower = omega (arith, debt.lower, high_shared)

    owing : OwingWithin D s.settings.cells (picture s) n
    owing =
        let most = shared_le b D p.node.key q.node.key in
        record {
          cell = placed_below v here;
          owes = pos_of_ne-zero (λ e. next_standing (sym owed_is ∙ e));
          owed = (let below = placed_below v there in omega (arith, owed_is));
          apart = λ e. next_other (sym owed_is ∙ sym e);
          low = omega (arith, low_is, high_is, lower);
          high = omega (arith, high_is, next.dimension, most);
        }

    -- the cell before n does not owe, since n does
    unled : p.before.owes ≡ false
    unled = at (placed_led v here)
      where
        at : LedIn s p → p.before.owes ≡ false
        at (head e) = ap (λ r. r.before.owes) e
        at (led r found step) = ap (λ y. y.owes) step.before ∙ owing_not r.node.owes refl
          where
            owing_not : (t : Bool) → r.node.owes ≡ t → t ≡ false
            owing_not false e = refl
            owing_not true e =
                let other = placed_has found (λ m. m.node.owes ≡ true → Debt b D m) v.debts e in
                let first = ap (λ l. (first_of l).owes) step.later in
                absurd (let z : ◌≡◌ {A = ℕ} 0 1 = cc other.unowing in omega arith)

    -- a debt that is not there is not there afterwards
    paid_unowing : (x : Node) → x.owes ≡ false → (on_cell n paid x).owes ≡ false
    paid_unowing x e = on_cell-cases (λ y. y.owes ≡ false) n paid x (λ same. refl) (λ ne. e)

    paid_own : (on_cell n paid p.node).owes ≡ false
    paid_own = on_cell-cases (λ y. y.owes ≡ false) n paid p.node (λ same. refl) (λ ne. absurd (ne (placed_cell here)))

    next_unowing : q.node.owes ≡ false
    next_unowing = ap (λ l. (first_of l).owes) (sym next.later) ∙ debt.unowing

    -- the words of n, and of the cell after it, before and after
    own_before : (j : ℕ) → j < cell_words D → word_in D (picture s) n j ≡ get_or (words_by b D p.node.value p.node.live false true p) j 0
    own_before j h =
        placed_word s here j (placed_below v here) h
        ∙ ap₂ (λ a c. get_or (words_by b D p.node.value p.node.live a c p) j 0) unled owes

    own_after : (j : ℕ) → j < cell_words D → word_in D (picture after) n j ≡ get_or (words_by b D p.node.value p.node.live false false p) j 0
    own_after j h =
        paid_word here j h
        ∙ ap₂ (λ a c. get_or (words_by b D p.node.value p.node.live a c p) j 0) (paid_unowing p.before unled) paid_own

    next_before : (j : ℕ) → j < cell_words D → word_in D (picture s) q.node.cell j ≡ get_or (words_by b D q.node.value q.node.live true false q) j 0
    next_before j h =
        placed_word s there j (placed_below v there) h
        ∙ ap₂ (λ a c. get_or (words_by b D q.node.value q.node.live a c q) j 0) (ap (λ y. y.owes) next.before ∙ owes) next_unowing

    next_after : (j : ℕ) → j < cell_words D → word_in D (picture after) q.node.cell j ≡ get_or (words_by b D q.node.value q.node.live false false q) j 0
    next_after j h =
        paid_word there j h
        ∙ ap₂ (λ a c. get_or (words_by b D q.node.value q.node.live a c q) j 0)
        (ap (λ y. (on_cell n paid y).owes) next.before ∙ paid_own) (paid_unowing q.node next_unowing)

    -- The links of the two

    own_settled : (d : ℕ) → d < D → word_in D (picture after) n (link_field d) ≡ settled_link b D p d
    own_settled d h =
        own_after (link_field d) (omega arith)
        ∙ by_link b D p.node.value p.node.live false false p d h

    -- the links that n does not owe are settled before too
    own_outside : (d : ℕ) → d < D → (p.dimension ≤ d → d < q.dimension → ⊥) → word_in D (picture s) n (link_field d) ≡ settled_link b D p d
    own_outside d h out =
        own_before (link_field d) (omega arith)
        ∙ by_link b D p.node.value p.node.live false true p d h
        ∙ ap (λ t. cond t 0 (settled_link b D p d))
        (ap (λ m. between p.dimension m d) high_shared ∙ between_out p.dimension q.dimension d out)

    -- Debts 3
    next_inside : (d : ℕ) → d < D → p.dimension ≤ d → d < q.dimension → word_in D (picture s) q.node.cell (link_field d) ≡ settled_link b D p d
    next_inside d h l u =
        next_before (link_field d) (omega arith)
        ∙ by_link b D q.node.value q.node.live true false q d h
        ∙ ap (λ t. cond t (first_sharing b D q.before.key d (q.node ∷ q.later)) (settled_link b D q d))
        (ap (λ m. between m q.dimension d) next.before_dimension ∙ between_is p.dimension q.dimension d l u)
        ∙ ap₂ (λ y r. first_sharing b D y.key d r) next.before (sym next.later)
        ∙ sym (settled_above b D p d l)

    next_settled : (d : ℕ) → d < D → word_in D (picture after) q.node.cell (link_field d) ≡ settled_link b D q d
    next_settled d h =
        next_after (link_field d) (omega arith)
        ∙ by_link b D q.node.value q.node.live false false q d h

    next_outside : (d : ℕ) → d < D → (p.dimension ≤ d → d < q.dimension → ⊥) → word_in D (picture s) q.node.cell (link_field d) ≡ settled_link b D q d
    next_outside d h out =
        next_before (link_field d) (omega arith)
        ∙ by_link b D q.node.value q.node.live true false q d h
        ∙ ap (λ t. cond t (first_sharing b D q.before.key d (q.node ∷ q.later)) (settled_link b D q d))
        (ap (λ m. between m q.dimension d) next.before_dimension ∙ between_out p.dimension q.dimension d out)

    next_cut : (d : ℕ) → d < q.dimension → settled_link b D q d ≡ 0
    next_cut d h = rw (lt-leb q.dimension d h) refl

    -- The words of the two, and of every other cell, are those that finishing writes.

    -- link d is none of the links that move
    outside : (d : ℕ) → (p.dimension ≤ d → d < q.dimension → ⊥) → (i : ℕ) → low_at (picture s) n ≤ i → i < high_at (picture s) n →
        link_field d ≡ link_field i → ⊥
    outside d out i l u e = out (omega (arith, low_is)) (omega (arith, high_is))

    own_link : (d : ℕ) → d < D → word_in D (picture after) n (link_field d) ≡ word_in D (finish_words D (picture s) n) n (link_field d)
    own_link d h =
        own_settled d h
        ∙ inside_cases p.dimension q.dimension d
        (λ l u.
        sym (next_inside d h l u)
        ∙ ap (λ c. word_in D (picture s) c (link_field d)) (sym owed_is)
        ∙ sym (finish_words-given (picture_exact s) n owing d (omega (arith, low_is)) (omega (arith, high_is))))
        (λ out. sym (own_outside d h out) ∙ sym (finish_words-after (picture_exact s) n owing (link_field d) (omega arith) (omega arith) (outside d out)))

    own_first : (j : ℕ) → j < fields_before_links → Dec (j < 3) → word_in D (picture after) n j ≡ word_in D (finish_words D (picture s) n) n j
    own_first j h (yes l) =
        own_after j (omega arith)
        ∙ owes_apart b D p.node.value p.node.live p false false true j l
        ∙ sym (own_before j (omega arith))
        ∙ sym (finish_words-before (picture_exact s) n owing j l)
    own_first j h (no l) =
        let there : 3 + (j - 3) ≡ j = omega arith in
        subst (λ i. word_in D (picture after) n i ≡ word_in D (finish_words D (picture s) n) n i) there
        (own_after (3 + (j - 3)) (omega arith)
        ∙ unowing_debt b D p.node.value p.node.live p false (j - 3) (omega arith)
        ∙ sym (finish_words-debt (picture_exact s) n owing (j - 3) (omega arith)))

    own_word : (j : ℕ) → j < cell_words D → word_in D (picture after) n j ≡ word_in D (finish_words D (picture s) n) n j
    own_word =
        field_cases (λ j. word_in D (picture after) n j ≡ word_in D (finish_words D (picture s) n) n j) D
        (λ j h. own_first j h (dec_lt j 3))
        own_link

    next_kept : (j : ℕ) → j < cell_words D → ((i : ℕ) → low_at (picture s) n ≤ i → i < high_at (picture s) n → j ≡ link_field i → ⊥) →
        word_in D (picture s) q.node.cell j ≡ word_in D (finish_words D (picture s) n) q.node.cell j
    next_kept j h other = sym (finish_words-field (picture_exact s) n owing q.node.cell j h next_other other)

    next_link : (d : ℕ) → d < D → word_in D (picture after) q.node.cell (link_field d)
        ≡ word_in D (finish_words D (picture s) n) q.node.cell (link_field d)
    next_link d h =
        next_settled d h
        ∙ inside_cases p.dimension q.dimension d
        (λ l u.
        next_cut d u
        ∙ sym (finish_words-cleared (picture_exact s) n owing d (omega (arith, low_is)) (omega (arith, high_is)))
        ∙ ap (λ c. word_in D (finish_words D (picture s) n) c (link_field d)) owed_is)
        (λ out. sym (next_outside d h out) ∙ next_kept (link_field d) (omega arith) (outside d out))

    next_word : (j : ℕ) → j < cell_words D → word_in D (picture after) q.node.cell j ≡ word_in D (finish_words D (picture s) n) q.node.cell j
    next_word =
        field_cases (λ j. word_in D (picture after) q.node.cell j ≡ word_in D (finish_words D (picture s) n) q.node.cell j) D
        (λ j h.
        next_after j (omega arith)
        ∙ led_apart b D q.node.value q.node.live q false true false j h
        ∙ sym (next_before j (omega arith))
        ∙ next_kept j (omega arith) (λ i l u e. omega arith))
        next_link

    other_word : (x j : ℕ) → x < s.settings.cells → j < cell_words D → (x ≡ n → ⊥) → (x ≡ q.node.cell → ⊥) →
        word_in D (picture after) x j ≡ word_in D (finish_words D (picture s) n) x j
    other_word x j h k not-n not-next =
        at (place_of x (places_of s s.row)) refl ∙ sym (finish_words-cell (picture_exact s) n owing x j k not-n (λ e. not-next (e ∙ owed_is)))
      where
        at : (o : Option Place) → place_of x (places_of s s.row) ≡ o → word_in D (picture after) x j ≡ word_in D (picture s) x j
        at None e = changed_free s (on_cell n paid) (paid_keeping n) s.position x e j h k
        at (Some r) e =
            let found : Placed s x r = record { found = e } in
            word_kept found (λ same. absurd (not-n same))
            (λ step. absurd (not-next (sym (placed_cell found) ∙ ap (λ l. (first_of l).cell) (sym step.later ∙ next.later)))) j k

    paid_something : picture after ≡ finish_words D (picture s) n
    paid_something =
        words_equal (picture_exact after) (exact_finished (picture_exact s) n)
        (λ i h. changed_header s (on_cell n paid) (paid_keeping n) s.position i h ∙ sym (finish_words-below D (picture s) n i (omega arith)))
        (λ d h. changed_path s (on_cell n paid) (paid_keeping n) d h ∙ sym (finish_words-below D (picture s) n (header_words + d) (omega arith)))
        (λ x j h k. at x j h k (ℕ_discrete x n) (ℕ_discrete x q.node.cell))
      where
        at : (x j : ℕ) → x < s.settings.cells → j < cell_words D → Dec (x ≡ n) → Dec (x ≡ q.node.cell) →
            word_in D (picture after) x j ≡ word_in D (finish_words D (picture s) n) x j
        at x j h k (yes e) more =
            subst (λ z. word_in D (picture after) z j ≡ word_in D (finish_words D (picture s) n) z j) (sym e) (own_word j k)
        at x j h k (no a) (yes e) =
            subst (λ z. word_in D (picture after) z j ≡ word_in D (finish_words D (picture s) n) z j) (sym e) (next_word j k)
        at x j h k (no a) (no c) = other_word x j h k a c

-- Any standing cell

module _ {s : State} (v : Sound s) {n : ℕ} {p : Place} (here : Placed s n p) where
  -- it owes nothing, or owes to the standing cell after it
  debt_cases : {R : Type 0} → (OwesNothing (picture s) n → p.node.owes ≡ false → R) →
      (p.node.owes ≡ true → (q : Place) → Placed s q.node.cell q → NextIn s p q → Debt s.settings.base s.settings.dimensions p → R) → R
  debt_cases {R} nothing something = at p.node.owes refl
    where
      at : (t : Bool) → p.node.owes ≡ t → R
      at true owes =
          let debt = placed_has here (λ m. m.node.owes ≡ true → Debt s.settings.base s.settings.dimensions m) v.debts owes in
          let (q, there, next) = place_after v here debt.later in
          something owes q there next debt
      at false unowing = nothing (place_unowing v here unowing) unowing

module _ (s : State) (v : Sound s) (n : ℕ) (stands : 0 < occurrences n (0 ∷ map (λ x. x.cell) s.row)) where
  -- what a standing cell owes can be finished
  pub picture_owing : 0 < owed_at (picture s) n → OwingWithin s.settings.dimensions s.settings.cells (picture s) n
  picture_owing o =
      let (p, here) = occurs_placed s n stands in
      debt_cases v here (λ nothing unowing. absurd (omega (arith, o, nothing.0))) (λ owes q there next debt. owing v here owes there next debt)

  -- Debts 5
  pub finish_words_lem : picture (with_row s (finished n s.row)) ≡ finish_words s.settings.dimensions (picture s) n
  unfolding finished
  finish_words_lem =
      let (p, here) = occurs_placed s n stands in
      debt_cases v here
      (λ nothing unowing. paid_nothing v here unowing ∙ sym (finish_words-none s.settings.dimensions (picture s) n nothing.0))
      (λ owes q there next debt. paid_something v here owes there next debt)

  -- The operations 4: the links moved
  pub finish_moved : links_moved s (place_of n (places_of s s.row)) ≡ high_at (picture s) n - low_at (picture s) n
  unfolding links_moved
  finish_moved =
      let (p, here) = occurs_placed s n stands in
      ap (links_moved s) here.found ∙ ap₂ (λ a l. a - l) (sym (place_high v here)) (sym (place_low v here))

  -- the words after finishing a cell that owes, by Debts 5
  pub finish_finished : 0 < owed_at (picture s) n → Finished (picture s) (picture (with_row s (finished n s.row))) n
  finish_finished o =
      subst (λ us. Finished (picture s) us n) (sym finish_words_lem)
      (finish_words-finished (picture_exact s) (picture_dimensions s) n (picture_owing o))

  -- and after finishing one that owes nothing
  pub finish_nothing : owed_at (picture s) n ≡ 0 → picture (with_row s (finished n s.row)) ≡ picture s
  finish_nothing e = finish_words_lem ∙ finish_words-none s.settings.dimensions (picture s) n e

  -- Who owes afterwards: every cell as before but n, which owes nothing.
  pub finish_own : OwesNothing (picture (with_row s (finished n s.row))) n
  finish_own =
      let (p, here) = occurs_placed s n stands in
      debt_cases v here
      (λ nothing unowing. subst (λ us. OwesNothing us n) (sym (finish_nothing nothing.0)) nothing)
      (λ owes q there next debt. let f = finish_finished (owing v here owes there next debt).owes in (f.owed, f.low, f.high))

  pub finish_others : (x : ℕ) → (x ≡ n → ⊥) → OwesSame (picture s) (picture (with_row s (finished n s.row))) x
  finish_others x ne = at (dec_lt 0 (owed_at (picture s) n))
    where
      at : Dec (0 < owed_at (picture s) n) → OwesSame (picture s) (picture (with_row s (finished n s.row))) x
      at (yes o) = (kept 3 (omega arith), kept 4 (omega arith), kept 5 (omega arith))
        where
          kept : (j : ℕ) → j < fields_before_links → word_at (picture (with_row s (finished n s.row))) x j ≡ word_at (picture s) x j
          kept j h = (finish_finished o).other x j (omega arith) (λ e l u. ne e) (λ d l u e. absurd (omega arith))
      at (no o) = subst (λ us. OwesSame (picture s) us x) (sym (finish_nothing (omega arith))) (refl, refl, refl)
