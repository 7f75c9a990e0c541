-- What a take and a revived key write: value and mark of one cell, and the path. Debts, cells and keys stay, so every link stays.
use Rattle.std.specs.Prelude.{Option, None, Some}
use mathlib.Core.Path.{◌≡◌, refl, sym, ap, ap₂, ◌∙◌, subst}
use mathlib.Core.Bool.{Bool, true, false}
use mathlib.Core.List.{List, [], ◌∷◌}
use Prim.Native.Nat.{ℕ, zero, suc, ◌+◌, ◌≤◌, ◌<◌}
use native.Mathlib.Decide.{ℕ_discrete}
use native.Mathlib.Omega.{arith}
use lib.ListN.{get_or}
use borrow.Author.Tests.{lt-leb}
use Rattle.settings.specs.Numbers.{header_words, cell_words}
use Rattle.meaning.specs.Row.{Node, Place, place_of, node_at}
use Rattle.meaning.specs.State.{State, position_key, places_of}
use Rattle.meaning.specs.Picture.{mark, path, picture}
use Rattle.meaning.specs.Words.{word_index}
use Rattle.meaning.specs.Operations.{position_after, revived_node, revived, dead_front, from_live, dead_node, taken}
use Rattle.meaning.specs.Layer.Stores.{write_path, write_node}
use Rattle.meaning.proofs.Pictures.State.{Sound}
use Rattle.meaning.proofs.Pictures.Picture.{path_length}
use Rattle.meaning.proofs.Rows.Places.{Keeping, on_cell, on_cell-cases, cells_changed, keys_changed}
use Rattle.meaning.proofs.Cells.Placed.{Placed, placed_cell, occurs_placed, placed_below}
use Rattle.meaning.proofs.Kept.KeepsState.{cell_stands, changed_state, live_split}
use Rattle.meaning.proofs.Kept.KeepsTake.{dead_keeping}
use Rattle.meaning.proofs.Rows.Nodes.{node_split}
use Rattle.meaning.proofs.Kept.KeepsInsert.{revived_keeping}
use Rattle.meaning.proofs.Cells.Stores.{word_in, picture_exact, words_equal, exact_sets, cell_sets_inside, cell_sets_before, cell_sets_after}
use Rattle.meaning.proofs.Cells.Stores.{cell_sets_other, cell_sets_below, path_sets_header, path_sets_path, path_sets_word, path_sets_same}
use Rattle.meaning.proofs.Cells.Changed.{path_unmoved, picture_path_word, words_by, placed_word, changed_word, changed_free, changed_header}

-- value and mark stand in words 1 and 2 alone
values_apart : (b D : ℕ) (value : ℕ) (live : Bool) (other : ℕ) (marked : Bool) (led owes : Bool) (q : Place) (j : ℕ) → 3 ≤ j →
    get_or (words_by b D value live led owes q) j 0 ≡ get_or (words_by b D other marked led owes q) j 0
unfolding words_by
values_apart b D value live other marked led owes q zero h = absurd (omega arith)
values_apart b D value live other marked led owes q (suc zero) h = absurd (omega arith)
values_apart b D value live other marked led owes q (suc (suc zero)) h = absurd (omega arith)
values_apart b D value live other marked led owes q (suc (suc (suc j))) h = refl

-- A cell c gets a value and a mark, by a change of its node that keeps its debt; and the position moves.
module _ {s : State} (v : Sound s) {c : ℕ} {p : Place} (here : Placed s c p) (g : Node → Node) (keeping : Keeping (on_cell c g))
    (debts : (y : Node) → (g y).owes ≡ y.owes)
    (value : ℕ) (live : Bool) (values : (y : Node) → (g y).value ≡ value) (marks : (y : Node) → (g y).live ≡ live) (position : ℕ) where
  abbrev b : ℕ
  b = s.settings.base

  abbrev D : ℕ
  D = s.settings.dimensions

  abbrev after : State
  after = changed_state s (on_cell c g) position

  owes_kept : (y : Node) → (on_cell c g y).owes ≡ y.owes
  owes_kept y = on_cell-cases (λ z. z.owes ≡ y.owes) c g y (λ e. debts y) (λ ne. refl)

  -- a standing cell's words afterwards: links stay
  written_word : {x : ℕ} {q : Place} → Placed s x q → (j : ℕ) → j < cell_words D →
      word_in D (picture after) x j ≡ get_or (words_by b D (on_cell c g q.node).value (on_cell c g q.node).live q.before.owes q.node.owes q) j 0
  written_word {x} {q} there j h =
      changed_word s (on_cell c g) keeping position there j (placed_below v there) h
      ∙ ap₂ (λ led owes. get_or (words_by b D (on_cell c g q.node).value (on_cell c g q.node).live led owes q) j 0) (owes_kept q.before)
      (owes_kept q.node)

  -- another cell's words stay
  other_kept : (x j : ℕ) → x < s.settings.cells → j < cell_words D → (x ≡ c → ⊥) → word_in D (picture after) x j ≡ word_in D (picture s) x j
  other_kept x j h k ne = at (place_of x (places_of s s.row)) refl
    where
      at : (o : Option Place) → place_of x (places_of s s.row) ≡ o → word_in D (picture after) x j ≡ word_in D (picture s) x j
      at None e = changed_free s (on_cell c g) keeping position x e j h k
      at (Some q) e =
          let there : Placed s x q = record { found = e } in
          let same : on_cell c g q.node ≡ q.node = on_cell-cases (λ z. z ≡ q.node) c g q.node (λ f. absurd (ne (sym (placed_cell there) ∙ f)))
          (λ f. refl) in
          written_word there j k
          ∙ ap (λ y. get_or (words_by b D y.value y.live q.before.owes q.node.owes q) j 0) same
          ∙ sym (placed_word s there j h k)

  -- the words of c
  own_after : (j : ℕ) → j < cell_words D → word_in D (picture after) c j ≡ get_or (words_by b D value live p.before.owes p.node.owes p) j 0
  own_after j h =
      let new : on_cell c g p.node ≡ g p.node = on_cell-cases (λ z. z ≡ g p.node) c g p.node (λ e. refl) (λ ne. absurd (ne (placed_cell here))) in
      written_word here j h
      ∙ ap₂ (λ a m. get_or (words_by b D a m p.before.owes p.node.owes p) j 0) (ap (λ y. y.value) new ∙ values p.node)
      (ap (λ y. y.live) new ∙ marks p.node)

  own_written : (j : ℕ) → j < cell_words D → word_in D (picture after) c j ≡ word_in D (write_node D (picture s) c value (mark live)) c j
  unfolding words_by
  own_written zero h =
      own_after 0 h ∙ sym (placed_word s here 0 (placed_below v here) h) ∙ sym (cell_sets_before D (picture s) c 1 (value ∷ mark live ∷ []) 0 (omega arith))
  own_written (suc zero) h = own_after 1 h ∙ sym (cell_sets_inside (picture_exact s) c 1 (value ∷ mark live ∷ []) (placed_below v here) (omega arith)
      0 (omega arith))
  own_written (suc (suc zero)) h = own_after 2 h ∙ sym (cell_sets_inside (picture_exact s) c 1 (value ∷ mark live ∷ []) (placed_below v here)
      (omega arith) 1 (omega arith))
  own_written (suc (suc (suc j))) h =
      own_after (suc (suc (suc j))) h
      ∙ values_apart b D value live p.node.value p.node.live p.before.owes p.node.owes p (suc (suc (suc j))) (omega arith)
      ∙ sym (placed_word s here (suc (suc (suc j))) (placed_below v here) h)
      ∙ sym (cell_sets_after D (picture s) c 1 (value ∷ mark live ∷ []) (suc (suc (suc j))) (omega arith))

  node_written : picture after ≡ write_path (write_node D (picture s) c value (mark live)) (path after)
  node_written =
      let node = write_node D (picture s) c value (mark live) in
      let exact = exact_sets (picture_exact s) (word_index D c 1) (value ∷ mark live ∷ []) in
      words_equal (picture_exact after) (exact_sets exact header_words (path after))
      (λ i h.
      changed_header s (on_cell c g) keeping position i h
      ∙ sym (path_sets_header node (path after) i h ∙ cell_sets_below D (picture s) c 1 (value ∷ mark live ∷ []) i (omega arith)))
      (λ d h. picture_path_word after d h ∙ sym (path_sets_path exact (path after) (path_length after) d h))
      (λ x j h k. at x j h k (ℕ_discrete x c) ∙ sym (path_sets_word D node (path after) (path_length after) x j))
    where
      at : (x j : ℕ) → x < s.settings.cells → j < cell_words D → Dec (x ≡ c) →
          word_in D (picture after) x j ≡ word_in D (write_node D (picture s) c value (mark live)) x j
      at x j h k (yes e) = subst (λ y. word_in D (picture after) y j ≡ word_in D (write_node D (picture s) c value (mark live)) y j) (sym e) (own_written j k)
      at x j h k (no ne) = other_kept x j h k ne ∙ sym (cell_sets_other D (picture s) c 1 (value ∷ mark live ∷ []) (omega arith) x j k ne)

-- The operations 5: what a take writes
pub taken_words_lem : (s : State) (x : Node) (later : List Node) → Sound s → from_live s.row ≡ x ∷ later →
    picture (taken s x) ≡ write_path (write_node s.settings.dimensions (picture s) x.cell 0 2) (path (taken s x))
unfolding taken
taken_words_lem s x later v e =
    let (p, here) = occurs_placed s x.cell (cell_stands s (dead_front s.row) x later (live_split s.row x later e)) in
    node_written v here dead_node (dead_keeping x.cell) (λ y. refl) 0 false (λ y. refl) (λ y. refl) x.cell

-- The operations 2: what a revival writes
pub revived_words : (s : State) (x : Node) (value : ℕ) → Sound s → node_at x.key s.row ≡ Some x →
    picture (revived s x value) ≡ write_path (write_node s.settings.dimensions (picture s) x.cell value 1) (path (revived s x value))
unfolding revived
revived_words s x value v e =
    let (pre, post, split) = node_split x.key x s.row e in
    let (p, here) = occurs_placed s x.cell (cell_stands s pre x post split) in
    node_written v here (revived_node value) (revived_keeping s x value v pre post split) (λ y. refl) value true (λ y. refl) (λ y. refl)
    (revived s x value).position

-- above the position, the path stays
pub revived_path : (s : State) (x : Node) (value : ℕ) → Sound s → node_at x.key s.row ≡ Some x → position_key s < x.key → path (revived s x value) ≡ path s
unfolding revived position_after
revived_path s x value v e h =
    let (pre, post, split) = node_split x.key x s.row e in
    let keeping = revived_keeping s x value v pre post split in
    path_unmoved (revived s x value) s refl (rw (lt-leb x.key (position_key s) h) refl)
    (cells_changed (on_cell x.cell (revived_node value)) keeping s.row) (keys_changed (on_cell x.cell (revived_node value)) keeping s.row)

pub revived_words_above : (s : State) (x : Node) (value : ℕ) → Sound s → node_at x.key s.row ≡ Some x → position_key s < x.key →
    picture (revived s x value) ≡ write_node s.settings.dimensions (picture s) x.cell value 1
revived_words_above s x value v e h =
    let D = s.settings.dimensions in
    revived_words s x value v e
    ∙ ap (write_path (write_node D (picture s) x.cell value 1)) (revived_path s x value v e h)
    ∙ path_sets_same (exact_sets (picture_exact s) (word_index D x.cell 1) (value ∷ 1 ∷ [])) (path s) (path_length s)
    (λ d k. cell_sets_below D (picture s) x.cell 1 (value ∷ 1 ∷ []) (header_words + d) (omega arith) ∙ picture_path_word s d k)
