-- Present means that same key: on the words of a list a key is live exactly if the node with that key is, for a cell with mark 1 stands and
-- is not the head, and no two nodes have the same key. Insert and find answer by that node.
use Rattle.std.specs.Prelude.{Option, None, Some}
use mathlib.Core.Path.{◌≡◌, refl, sym, ◌∙◌, ap, subst}
use mathlib.Core.Bool.{Bool, true, false, false≢true}
use mathlib.Core.Logic.{◌↔◌}
use Prim.Native.Nat.{ℕ, ◌≤◌, ◌<◌}
use native.Mathlib.Decide.{ℕ_discrete}
use native.Mathlib.Omega.{arith}
use lib.ListN.{length, get_or}
use Rattle.lists.proofs.All.{All, all_map}
use Rattle.meaning.specs.Row.{Node, Place, places, place_of, node_at}
use Rattle.meaning.specs.State.{State}
use Rattle.meaning.specs.Picture.{mark, standing_words, words_of, picture, next_free}
use Rattle.meaning.specs.Words.{key_at, mark_at, largest_at}
use Rattle.meaning.specs.Operations.{insert_out, find_out}
use Rattle.meaning.specs.Promises.{Live, PresentMeansThatKey}
use Rattle.meaning.proofs.Pictures.State.{Sound}
use Rattle.meaning.proofs.Pictures.StateCells.{row_range}
use Rattle.meaning.proofs.Cells.Placed.{mark_one}
use Rattle.meaning.proofs.Pictures.Picture.{picture_largest, picture_cells, picture_word, Told, told, free_words-rest}
use Rattle.meaning.proofs.Cells.WalkRead.{all_places, row_key_read, row_mark_read}
use Rattle.meaning.proofs.Rows.Places.{node_found}
use Rattle.meaning.proofs.Outcomes.{on_lists, insert_outcome_live, insert_outcome_dead, insert_outcome_full, insert_outcome_new}
use Rattle.meaning.proofs.Outcomes.{find_outcome_absent, find_outcome_dead, find_outcome_live}
use Rattle.meaning.proofs.Rows.Nodes.{is_live, node_key, node_has}

-- On the words

-- the node of a place is the one with its key, if it is live
abbrev Named : State → Node → Type 0
Named s x = x.live ≡ true → node_at x.key s.row ≡ Some x

places_named : (s : State) → Sound s → All (λ p. Named s p.node) (places s.settings.base s.settings.dimensions s.row)
places_named s v =
    all_places (Named s) s.settings.base s.settings.dimensions s.row (λ e. absurd (false≢true e))
    (all_map (λ x found e. found) s.row (node_found 0 s.row v.ascends))

module _ (s : State) (v : Sound s) (key : ℕ) where
  live_shown : (x : Node) → node_at key s.row ≡ Some x → x.live ≡ true → Live (picture s) key
  live_shown x e live =
      record {
        cell = x.cell;
        within = subst (λ n. x.cell < n) (sym (picture_cells s)) (node_has (λ y. (0 < y.cell) × (y.cell < s.settings.cells)) key x s.row e
            (row_range s v)).1;
        mark = node_has (λ y. mark_at (picture s) y.cell ≡ mark y.live) key x s.row e (row_mark_read s v) ∙ ap mark live;
        same = node_has (λ y. key_at (picture s) y.cell ≡ y.key) key x s.row e (row_key_read s v) ∙ node_key key x s.row e;
      }

  shown_live : Live (picture s) key → is_live (node_at key s.row) ≡ true
  unfolding words_of standing_words
  shown_live l =
      at (place_of l.cell (places b D s.row))
      (picture_word s l.cell 0 inside (omega arith)) (picture_word s l.cell 2 inside (omega arith))
      (told (λ p. Named s p.node) l.cell (places b D s.row) (places_named s v))
    where
      b : ℕ
      b = s.settings.base

      D : ℕ
      D = s.settings.dimensions

      inside : l.cell < s.settings.cells
      inside = subst (λ n. l.cell < n) (picture_cells s) l.within

      at : (o : Option Place) → key_at (picture s) l.cell ≡ get_or (words_of b D s.free l.cell o) 0 0 →
          mark_at (picture s) l.cell ≡ get_or (words_of b D s.free l.cell o) 2 0 → Told (λ p. Named s p.node) l.cell o →
          is_live (node_at key s.row) ≡ true
      at None k m t =
          absurd (let zero = m ∙ free_words-rest D (next_free l.cell s.free) 2 (omega arith) (omega arith) in let one = l.mark in omega arith)
      at (Some p) k m t =
          let live = mark_one p.node.live (sym m ∙ l.mark) in
          ap is_live (subst (λ n. node_at n s.row ≡ Some p.node) (sym k ∙ l.same) (t.1 live)) ∙ live

  pub live_on_words : (is_live (node_at key s.row) ≡ true) ↔ Live (picture s) key
  live_on_words = (at (node_at key s.row) refl, shown_live)
    where
      at : (o : Option Node) → node_at key s.row ≡ o → is_live o ≡ true → Live (picture s) key
      at None e q = absurd (false≢true q)
      at (Some x) e q = live_shown x e q

  module _ (l : 1 ≤ key) (h : key ≤ s.settings.largest) where
    insert_tells : (value : ℕ) → ((insert_out (picture s) key value).answered.refusal ≡ 5) ↔ (is_live (node_at key s.row) ≡ true)
    insert_tells value = at (node_at key s.row) refl
      where
        refusal : ℕ
        refusal = (insert_out (picture s) key value).answered.refusal

        absent : node_at key s.row ≡ None → Dec (length s.free ≡ 0) → refusal ≡ 5 → ⊥
        absent e (yes full) q = let r = ap (λ o. o.answered.refusal) (insert_outcome_full s v key value l h e full) in omega arith
        absent e (no space) q = let r = ap (λ o. o.answered.refusal) (insert_outcome_new s v key value l h e (omega arith)) in omega arith

        standing : (x : Node) → node_at key s.row ≡ Some x → (t : Bool) → x.live ≡ t → (refusal ≡ 5) ↔ (t ≡ true)
        standing x e true live = ((λ q. refl), (λ q. ap (λ o. o.answered.refusal) (insert_outcome_live s v key value l h x e live)))
        standing x e false dead = (
          (λ q. absurd (let r = ap (λ o. o.answered.refusal) (insert_outcome_dead s v key value l h x e dead) in omega arith)),
          (λ q. absurd (false≢true q)),
        )

        at : (o : Option Node) → node_at key s.row ≡ o → (refusal ≡ 5) ↔ (is_live o ≡ true)
        at None e = ((λ q. absurd (absent e (ℕ_discrete (length s.free) 0) q)), (λ q. absurd (false≢true q)))
        at (Some x) e = standing x e x.live refl

    find_tells : ((find_out (picture s) key).answered.refusal ≡ 0) ↔ (is_live (node_at key s.row) ≡ true)
    find_tells = at (node_at key s.row) refl
      where
        refusal : ℕ
        refusal = (find_out (picture s) key).answered.refusal

        standing : (x : Node) → node_at key s.row ≡ Some x → (t : Bool) → x.live ≡ t → (refusal ≡ 0) ↔ (t ≡ true)
        standing x e true live = ((λ q. refl), (λ q. ap (λ o. o.answered.refusal) (find_outcome_live s v key l h x e live)))
        standing x e false dead = (
          (λ q. absurd (let r = ap (λ o. o.answered.refusal) (find_outcome_dead s v key l h x e dead) in omega arith)),
          (λ q. absurd (false≢true q)),
        )

        at : (o : Option Node) → node_at key s.row ≡ o → (refusal ≡ 0) ↔ (is_live o ≡ true)
        at None e = (
          (λ q. absurd (let r = ap (λ o. o.answered.refusal) (find_outcome_absent s v key l h e) in omega arith)),
          (λ q. absurd (false≢true q)),
        )
        at (Some x) e = standing x e x.live refl

-- On lists

pub present_means_that_key : PresentMeansThatKey
present_means_that_key =
    on_lists (λ ws. (key value : ℕ) → 1 ≤ key → key ≤ largest_at ws →
    (((insert_out ws key value).answered.refusal ≡ 5) ↔ Live ws key) × (((find_out ws key).answered.refusal ≡ 0) ↔ Live ws key))
    (λ s v key value l h.
    let h' : key ≤ s.settings.largest = subst (λ n. key ≤ n) (picture_largest s) h in
    let words = live_on_words s v key in
    let insert = insert_tells s v key l h' value in
    let find = find_tells s v key l h' in
    (((λ q. words.0 (insert.0 q)), (λ q. insert.1 (words.1 q))), ((λ q. words.0 (find.0 q)), (λ q. find.1 (words.1 q)))))
