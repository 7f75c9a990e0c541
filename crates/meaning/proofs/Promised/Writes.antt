-- What a call leaves alone, carried from states to lists.
use Rattle.std.specs.Prelude.{None, Some}
use mathlib.Core.Path.{◌≡◌, refl, ◌∙◌, sym, ap, subst, subst₂}
use mathlib.Core.Bool.{true, false, true≢false}
use mathlib.Core.List.{List, [], ◌∷◌, map, map-append}
use Prim.Native.Nat.{ℕ, zero, suc, ◌≤◌, ◌<◌}
use native.Mathlib.Decide.{ℕ_discrete, dec_lt}
use native.Mathlib.Omega.{arith}
use lib.ListN.{length, get_or}
use Rattle.settings.specs.Numbers.{header_words, cell_words}
use Rattle.lists.specs.Lists.{occurrences}
use Rattle.lists.proofs.All.{All, all_map, all_append, all_at}
use Rattle.meaning.specs.Row.{Node, node_at, place_of}
use Rattle.meaning.specs.State.{State, places_of}
use Rattle.meaning.specs.Picture.{mark, picture, path}
use Rattle.answers.specs.Refusals.{Outcome, refused}
use Rattle.answers.specs.declared.Refusal.TheVariants.{BadKey, KeyLive, NothingLive, KeyNotStanding}
use Rattle.meaning.specs.Words.{key_at, mark_at, position_at, word_at, dimensions_at}
use Rattle.meaning.specs.Operations.{looked, insert_out, finish_out, take_out, sweep_out, dead_front, from_live, taken, revived, revived_node}
use Rattle.meaning.specs.Operations.{slot_for, finished, with_row, links_moved, keys_above}
use Rattle.meaning.specs.Writes.{Inserted, Taken, Revived, Swept, Marked}
use Rattle.meaning.specs.Sentences.{Standing, NextSmaller}
use Rattle.meaning.specs.Promises.{FindWritesNothing, TakeWrites, ReviveWrites, InsertWrites, Finishes, FinishWrites, SweepWrites}
use Rattle.meaning.specs.Layer.Stores.{write_path, write_node}
use Rattle.meaning.proofs.Cells.Stores.{Exact, picture_exact, word_in, word_at_in, cell_sets_inside, cell_sets_before, cell_sets_after}
use Rattle.meaning.proofs.Cells.Stores.{cell_sets_other, cell_sets_below, path_sets_header, path_sets_word}
use Rattle.meaning.proofs.Rows.AscendingRow.{Asc, asc_above}
use Rattle.meaning.proofs.Pictures.State.{Sound}
use Rattle.meaning.proofs.Pictures.Picture.{path_length, picture_dimensions, picture_cells}
use Rattle.meaning.proofs.Cells.Changed.{picture_path_word}
use Rattle.meaning.proofs.Rows.Places.{asc_right, on_cell}
use Rattle.meaning.proofs.Kept.KeepsState.{live_split, dead_front-dead, from_live-live, cell_stands}
use Rattle.meaning.proofs.Kept.KeepsTake.{taken_sound}
use Rattle.meaning.proofs.Cells.Placed.{placed_node, cell_standing, place_key, place_mark, place_standing, mark_one}
use Rattle.meaning.proofs.BothWays.SentencesShape.{HasPlace, row_placed}
use Rattle.meaning.proofs.BothWays.Sentences.{position_is, position_key_is}
use Rattle.meaning.proofs.Cells.WalkRead.{row_key_read}
use Rattle.meaning.proofs.Rows.Nodes.{node_has, node_key, node_split}
use Rattle.meaning.proofs.Kept.KeepsInsert.{revived_keeping, revived_position, revived_sound}
use Rattle.meaning.proofs.Walks.Smaller.{split_next_smaller}
use Rattle.meaning.proofs.Written.FinishWords.{finish_moved, finish_own, finish_others, finish_nothing, finish_finished}
use Rattle.meaning.proofs.Written.TakeWords.{taken_words_lem, revived_words, revived_path}
use Rattle.meaning.proofs.Written.InsertWords.{added_inserted}
use Rattle.meaning.proofs.Outcomes.{on_read_lists, find_writes_nothing, take_outcome_none, take_outcome_first, insert_outcome_bad_key}
use Rattle.meaning.proofs.Outcomes.{insert_outcome_live, insert_outcome_dead, insert_outcome_new, finish_outcome_bad_key}
use Rattle.meaning.proofs.Outcomes.{finish_outcome_absent, finish_outcome_standing, sweep_outcome, key_cases, live_cases}
use Rattle.meaning.proofs.BothWays.SweepSentences.{swept_leaves}
use Rattle.meaning.proofs.Promised.Serves.{refused_not, new_accepted}

pub find_writes : FindWritesNothing
find_writes = find_writes_nothing

-- a fact of all nodes of a row at the first live one
at_live : (P : Node → Type 0) (row : List Node) (x : Node) (later : List Node) → from_live row ≡ x ∷ later → All P row → P x
at_live P row x later e a = all_at P (dead_front row) x later (subst (All P) (live_split row x later e) a)

-- the first live node has the least live key
live_least : (s : State) → Sound s → (x : Node) (later : List Node) → from_live s.row ≡ x ∷ later → All (λ y. y.live ≡ true → x.key ≤ y.key) s.row
live_least s v x later e =
    let front = dead_front s.row in
    let split = live_split s.row x later e in
    let up = asc_right 0 front (x ∷ later) (subst (Asc 0) split v.ascends) in
    subst (All (λ y. y.live ≡ true → x.key ≤ y.key)) (sym split)
    (all_append (λ y. y.live ≡ true → x.key ≤ y.key) front (x ∷ later)
    (all_map (λ y dead live. absurd (true≢false (sym live ∙ dead))) front (dead_front-dead s.row))
    (λ live. omega arith, all_map (λ y above live. omega arith) later (asc_above x.key later up.1)))

words_least : (s : State) → Sound s → (x : Node) (later : List Node) → from_live s.row ≡ x ∷ later → (y : ℕ) → Standing (picture s) y →
    mark_at (picture s) y ≡ 1 → x.key ≤ key_at (picture s) y
words_least s v x later e y stands live =
    let (p, here) = cell_standing s y stands in
    let least =
    placed_node here (λ z. z.live ≡ true → x.key ≤ z.key) (λ l. absurd (true≢false (sym l))) (live_least s v x later e)
    (mark_one p.node.live (sym (place_mark v here) ∙ live)) in
    omega (arith, least, place_key v here)

-- a cell's value and mark, and the path, are all that is written
marked_words :
    (s : State) (path : List ℕ) {us : List ℕ} {cell k value mark : ℕ} → Standing (picture s) cell → key_at (picture s) cell ≡ k →
    length path ≡ s.settings.dimensions → us ≡ write_path (write_node s.settings.dimensions (picture s) cell value mark) path →
    Marked (picture s) us cell k value mark
marked_words s path {us} {cell} {k} {value} {mark} stands same long words =
    record {
      standing = stands;
      same = same;
      valued = in_cell 1 ∙ cell_sets_inside exact cell 1 (value ∷ mark ∷ []) inside (omega arith) 0 (omega arith);
      marked = in_cell 2 ∙ cell_sets_inside exact cell 1 (value ∷ mark ∷ []) inside (omega arith) 1 (omega arith);
      header = header;
      other = λ x j h apart. in_words x j ∙ other x j h apart (ℕ_discrete x cell) ∙ sym (word_at_in D ws (picture_dimensions s) x j);
    }
  where
    D : ℕ
    D = s.settings.dimensions

    ws : List ℕ
    ws = picture s

    exact : Exact D s.settings.cells (picture s)
    exact = picture_exact s

    inside : cell < s.settings.cells
    inside = omega (arith, stands.cell, picture_cells s)

    header : (i : ℕ) → i < header_words → get_or us i 0 ≡ get_or (picture s) i 0
    header i h = rw words (path_sets_header (write_node D (picture s) cell value mark) path i h
        ∙ cell_sets_below D (picture s) cell 1 (value ∷ mark ∷ []) i (omega arith))

    in_words : (x j : ℕ) → word_at us x j ≡ word_in D (write_node D (picture s) cell value mark) x j
    in_words x j =
        word_at_in D us (header 0 (omega arith) ∙ picture_dimensions s) x j
        ∙ ap (λ l. word_in D l x j) words
        ∙ path_sets_word D (write_node D (picture s) cell value mark) path long x j

    in_cell : (j : ℕ) → word_at us cell j ≡ word_in D (write_node D (picture s) cell value mark) cell j
    in_cell j = in_words cell j

    other : (x j : ℕ) → j < cell_words (dimensions_at (picture s)) → (x ≡ cell → (j ≡ 1 → ⊥) × (j ≡ 2 → ⊥)) → Dec (x ≡ cell) →
        word_in D (write_node D (picture s) cell value mark) x j ≡ word_in D (picture s) x j
    other x j h apart (no ne) = cell_sets_other D (picture s) cell 1 (value ∷ mark ∷ []) (omega arith) x j (omega (arith, picture_dimensions s)) ne
    other x j h apart (yes e) = rw e (at (dec_lt j 1) (apart e))
      where
        at : Dec (j < 1) → (j ≡ 1 → ⊥) × (j ≡ 2 → ⊥) → word_in D (write_node D (picture s) cell value mark) cell j ≡ word_in D (picture s) cell j
        at (yes l) ne = cell_sets_before D (picture s) cell 1 (value ∷ mark ∷ []) j l
        at (no l) ne = cell_sets_after D (picture s) cell 1 (value ∷ mark ∷ []) j (above j l ne.0 ne.1)
          where
            above : (n : ℕ) → (n < 1 → ⊥) → (n ≡ 1 → ⊥) → (n ≡ 2 → ⊥) → 3 ≤ n
            above zero l one two = absurd (l (omega arith))
            above (suc zero) l one two = absurd (one refl)
            above (suc (suc zero)) l one two = absurd (two refl)
            above (suc (suc (suc n))) l one two = omega arith

take_taken : (s : State) → Sound s → (take_out (picture s)).answered.refusal ≡ 0 →
    Taken (picture s) (take_out (picture s)).left (take_out (picture s)).answered.key
unfolding picture taken
take_taken s v z = go (from_live s.row) refl
  where
    go : (row : List Node) → from_live s.row ≡ row → Taken (picture s) (take_out (picture s)).left (take_out (picture s)).answered.key
    go [] e = absurd (refused_not (take_out (picture s)) (refused (NothingLive (keys_above _ s.row)) (picture s)) 6 (take_outcome_none s v e) refl z)
    go (x ∷ later) e =
        let o = take_outcome_first s v x later e in
        let here = at_live (HasPlace s) s.row x later e (row_placed v) in
        record {
          cell = x.cell;
          marked =
              marked_words s (path (taken s x)) (place_standing v here.placed)
              (at_live (λ y. key_at (picture s) y.cell ≡ y.key) s.row x later e (row_key_read s v)
              ∙ ap (λ (p : Outcome (List ℕ)). p.answered.key) (sym o))
              (path_length (taken s x)) (ap (λ (p : Outcome (List ℕ)). p.left) o ∙ taken_words_lem s x later v e);
          live = place_mark v here.placed ∙ ap (λ (y : Node). mark y.live) here.node ∙ ap mark (from_live-live s.row x later e);
          least = λ y stands live. subst (λ (k : ℕ). k ≤ key_at (picture s) y) (ap (λ (p : Outcome (List ℕ)). p.answered.key) (sym o))
              (words_least s v x later e y stands live);
          position = ap (λ (p : Outcome (List ℕ)). position_at p.left) o ∙ position_is (taken_sound s x later v e);
        }

pub take_writes : TakeWrites
take_writes =
    on_read_lists (λ s ws. (take_out ws).answered.refusal ≡ 0 → Taken ws (take_out ws).left (take_out ws).answered.key) take_taken

-- the words of a revival
revived_leaves : (s : State) (x : Node) (value : ℕ) → Sound s → node_at x.key s.row ≡ Some x → x.live ≡ false →
    Revived (picture s) (picture (revived s x value)) x.key value
unfolding picture revived
revived_leaves s x value v a dead =
    let after = revived s x value in
    let sound = revived_sound s x value v a dead in
    let here = node_has (HasPlace s) x.key x s.row a (row_placed v) in
    let (pre, post, split) = node_split x.key x s.row a in
    let revive = on_cell x.cell (revived_node value) in
    record {
      cell = x.cell;
      marked =
          marked_words s (path after) (place_standing v here.placed) (place_key v here.placed ∙ ap (λ (y : Node). y.key) here.node)
          (path_length after) (revived_words s x value v a);
      dead = place_mark v here.placed ∙ ap (λ (y : Node). mark y.live) here.node ∙ ap mark dead;
      path_kept = λ above d h.
          let kept = revived_path s x value v a (subst (λ (n : ℕ). n < x.key) (position_key_is v) above) in
          picture_path_word after d h ∙ ap (λ (words : List ℕ). get_or words d 0) kept ∙ sym (picture_path_word s d h);
      position_lowered = λ low.
          subst₂ (NextSmaller (picture after)) ((revived_keeping s x value v pre post split).cell x)
          (sym (position_is sound ∙ revived_position s x value v pre post split (subst (λ (n : ℕ). x.key ≤ n) (position_key_is v) low)))
          (split_next_smaller after sound (map revive pre) (revive x) (map revive post) (ap (map revive) split ∙ map-append revive pre (x ∷ post)));
    }

revive_revived : (s : State) → Sound s → (key value : ℕ) → (node_at key s.row ≡ None → ⊥) → (insert_out (picture s) key value).answered.refusal ≡ 0 →
    Revived (picture s) (insert_out (picture s) key value).left key value
revive_revived s v key value stands z =
    key_cases s key
    (λ n. absurd (refused_not (insert_out (picture s) key value) (refused BadKey (picture s)) 3 (insert_outcome_bad_key s v key value n) refl z))
    (λ h l a. absurd (stands a))
    (λ h l x a. live_cases x
    (λ q. absurd (refused_not (insert_out (picture s) key value) (refused (KeyLive key (looked s key)) (picture s)) 4
    (insert_outcome_live s v key value h l x a q) refl z))
    (λ q.
    let k = node_key key x s.row a in
    let o = ap (λ (p : Outcome (List ℕ)). p.left) (insert_outcome_dead s v key value h l x a q) in
    subst₂ (λ (us : List ℕ) (m : ℕ). Revived (picture s) us m value) (sym o) k
    (revived_leaves s x value v (subst (λ (m : ℕ). node_at m s.row ≡ Some x) (sym k) a) q)))

pub revive_writes : ReviveWrites
revive_writes =
    on_read_lists
    (λ s ws. (key value : ℕ) → (node_at key s.row ≡ None → ⊥) → (insert_out ws key value).answered.refusal ≡ 0 →
    Revived ws (insert_out ws key value).left key value)
    revive_revived

insert_inserted : (s : State) → Sound s → (key value : ℕ) → node_at key s.row ≡ None → (insert_out (picture s) key value).answered.refusal ≡ 0 →
    Inserted (picture s) (insert_out (picture s) key value).left key value (slot_for s key)
insert_inserted s v key value a z =
    let (h, l, f) = new_accepted s v key value a z in
    subst (λ (us : List ℕ). Inserted (picture s) us key value (slot_for s key))
    (ap (λ (p : Outcome (List ℕ)). p.left) (sym (insert_outcome_new s v key value h l a f))) (added_inserted s v key value h l a f)

pub insert_writes : InsertWrites
insert_writes =
    on_read_lists
    (λ s ws. (key value : ℕ) → node_at key s.row ≡ None → (insert_out ws key value).answered.refusal ≡ 0 →
    Inserted ws (insert_out ws key value).left key value (slot_for s key))
    insert_inserted

-- the cell of a standing key is one of the row's
node_stands : (s : State) (key : ℕ) (x : Node) → node_at key s.row ≡ Some x → 0 < occurrences x.cell (0 ∷ map (λ y. y.cell) s.row)
node_stands s key x a = let t = node_split key x s.row a in cell_stands s t.0 x t.1 t.2

finish_finishes : (s : State) → Sound s → (key : ℕ) → (finish_out (picture s) key).answered.refusal ≡ 0 →
    Finishes (picture s) (finish_out (picture s) key).left key (finish_out (picture s) key).answered.count
finish_finishes s v key z =
    key_cases s key
    (λ n. absurd (refused_not (finish_out (picture s) key) (refused BadKey (picture s)) 3 (finish_outcome_bad_key s v key n) refl z))
    (λ h l a. absurd (refused_not (finish_out (picture s) key) (refused (KeyNotStanding key) (picture s)) 7 (finish_outcome_absent s v key h l a) refl z))
    (λ h l x a. subst (λ (p : Outcome (List ℕ)). Finishes (picture s) p.left key p.answered.count)
    (sym (finish_outcome_standing s v key h l x a)) (done x a))
  where
    done : (x : Node) → node_at key s.row ≡ Some x → Finishes (picture s) (picture (with_row s (finished x.cell s.row))) key
        (links_moved s (place_of x.cell (places_of s s.row)))
    done x a =
        let n = node_stands s key x a in
        record {
          cell = x.cell;
          standing = place_standing v (node_has (HasPlace s) key x s.row a (row_placed v)).placed;
          same = node_has (λ y. key_at (picture s) y.cell ≡ y.key) key x s.row a (row_key_read s v) ∙ node_key key x s.row a;
          moved = finish_moved s v x.cell n;
          paid = finish_own s v x.cell n;
          others = finish_others s v x.cell n;
          nothing = finish_nothing s v x.cell n;
          finished = finish_finished s v x.cell n;
        }

pub finish_writes : FinishWrites
finish_writes =
    on_read_lists
    (λ s ws. (key : ℕ) → (finish_out ws key).answered.refusal ≡ 0 → Finishes ws (finish_out ws key).left key (finish_out ws key).answered.count)
    finish_finishes

pub sweep_writes : SweepWrites
sweep_writes =
    on_read_lists (λ s ws. Swept ws (sweep_out ws).left)
    (λ s v. subst (Swept (picture s)) (sym (ap (λ (p : Outcome (List ℕ)). p.left) (sweep_outcome s v))) (swept_leaves s v))
