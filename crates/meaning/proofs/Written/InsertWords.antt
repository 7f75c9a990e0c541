-- What an insert of a key that does not stand writes, word by word: the words after the debts of the parent and of c are finished, with
-- the new cell written, taken off the free chain and set as link p of the parent. Finishing does not move the slot, so the new node
-- comes into the row of the state with both debts paid, where it changes only those words.
use Rattle.std.specs.Prelude.{None}
use mathlib.Core.Path.{◌≡◌, refl, sym, ◌∙◌, ap, subst, subst₂}
use mathlib.Core.Bool.{Bool, true, false, cond, ◌&&◌, not, and-false}
use mathlib.Core.List.{◌∷◌, map}
use Prim.Native.Nat.{ℕ, zero, suc, ◌≤◌, ◌<◌}
use native.Mathlib.Decide.{ℕ_discrete, dec_lt}
use native.Mathlib.Omega.{arith}
use lib.Dec.{eqb, ltb}
use lib.ListN.{length, get_or, drop}
use borrow.Author.Tests.{eq-eqb, ne_eqb, lt-ltb, le-ltb}
use Rattle.settings.specs.Numbers.{fields_before_links, cell_words}
use Rattle.lists.specs.Lists.{occurrences}
use Rattle.lists.proofs.All.{All, all_map, all_each, all_mapped}
use Rattle.lists.proofs.Tests.{and_both}
use Rattle.meaning.specs.Keys.{shared}
use Rattle.meaning.specs.Row.{Node, head_node, Place, node_at}
use Rattle.meaning.specs.State.{State, position_key}
use Rattle.meaning.specs.Picture.{path, picture}
use Rattle.meaning.specs.Operations.{paid, finished, with_row, new_node, slot_for, slot_owes, added, settled_link_at}
use Rattle.meaning.specs.declared.Slot.{Slot}
use Rattle.meaning.specs.Writes.{Unmoved, OwesNothing, OwesSame, Inserted}
use Rattle.meaning.specs.Words.{word_at, key_at, owed_at, low_at, high_at, link_at, link_field}
use Rattle.meaning.specs.Sentences.{Standing, Settled, AList, NextSmaller}
use Rattle.meaning.specs.Layer.Stores.{finish_words, write_path, new_words, insert_words}
use Rattle.meaning.proofs.Pictures.State.{Sound}
use Rattle.meaning.proofs.Rows.Places.{cells_changed, keys_changed, on_cell, on_cell-cases, key_of_other}
use Rattle.meaning.proofs.Kept.KeepsFinish.{paid_keeping, finished_sound}
use Rattle.meaning.proofs.Kept.Slot.{Gap, gap, SlotIs, slot_is, gap_changed}
use Rattle.meaning.proofs.Walks.Smaller.{split_next_smaller}
use Rattle.meaning.proofs.Kept.KeepsInsert.{added_row, added_position_lowered, added_position_kept, added_sound_at, parent_paid, both_paid, both_sound, both_gap, both_position}
use Rattle.meaning.proofs.Cells.Placed.{Placed, head_placed, placed_key_of, placed_below, place_standing, place_word, place_key, place_value}
use Rattle.meaning.proofs.Cells.Placed.{placed_node, placed_cell, cell_standing, place_mark, place_owed, place_link}
use Rattle.meaning.proofs.Cells.Stores.{finish_words-none}
use Rattle.meaning.proofs.BothWays.SentencesShape.{place_settled}
use Rattle.meaning.proofs.BothWays.Sentences.{position_is, position_key_is, picture_sentences}
use Rattle.meaning.proofs.Cells.Changed.{path_unmoved, picture_path_word}
use Rattle.meaning.proofs.Written.FinishWords.{picture_owing, finish_words_lem, finish_own, finish_others, finish_finished, finish_nothing}
use Rattle.meaning.proofs.Written.InsertSlot.{parent_leads, slot_changed, slot_links, slot_links-none, slot_links-other, slot_links-here, placed_occurs}
use Rattle.meaning.proofs.Written.InsertSlot.{slot_new, slot_parent_placed, slot_apart, slot_next, slot_c_placed, slot_c_apart, slot_shares}
use Rattle.meaning.proofs.Written.InsertPut.{with_new, new_place, write_new, put_new, put_link, put_new_words, put_elsewhere, put_parent, put_words}
use Rattle.meaning.proofs.Written.InsertPath.{put_path}
use Rattle.meaning.proofs.Written.InsertDebts.{spared, due_owes, owed_next, owed_other, DebtsApart, debts_apart}

-- a word that finishing cell n does not change
finish_unmoved : (s : State) (v : Sound s) (n : ℕ) → 0 < occurrences n (0 ∷ map (λ y. y.cell) s.row) → (x j : ℕ) →
    j < cell_words s.settings.dimensions → Unmoved (picture s) n x j →
    word_at (picture (with_row s (finished n s.row))) x j ≡ word_at (picture s) x j
unfolding picture
finish_unmoved s v n stands x j h unmoved = at (dec_lt 0 (owed_at (picture s) n))
  where
    at : Dec (0 < owed_at (picture s) n) → word_at (picture (with_row s (finished n s.row))) x j ≡ word_at (picture s) x j
    at (yes o) = (finish_finished s v n stands o).other x j h (unmoved o).0 (unmoved o).1
    at (no o) = ap (λ ws. word_at ws x j) (finish_nothing s v n stands (omega arith))

module _ (s : State) (v : Sound s) (key value : ℕ) (positive : 0 < key) (g : Gap key s.row) (f : 0 < length s.free) (t : Slot)
    (i : SlotIs s key g.pre g.post t) where
  abbrev b : ℕ
  b = s.settings.base

  abbrev D : ℕ
  D = s.settings.dimensions

  -- the state with the parent's debt finished, and with c's too
  abbrev one : State
  one = parent_paid s t

  abbrev two : State
  two = both_paid s t

  -- Both debts finished

  one_sound : Sound one
  one_sound = finished_sound s t.parent v

  two_sound : Sound two
  two_sound = both_sound s t v

  parent_stands : 0 < occurrences t.parent (0 ∷ map (λ y. y.cell) s.row)
  parent_stands = placed_occurs (slot_parent_placed s v key positive g f t i).1

  c_stands : 0 < occurrences t.c (0 ∷ map (λ y. y.cell) one.row)
  unfolding finished
  c_stands =
      subst (λ cs. 0 < occurrences t.c (0 ∷ cs)) (sym (cells_changed (on_cell t.parent paid) (paid_keeping t.parent) s.row))
      (placed_occurs (slot_c_placed s v key positive g f t i).1)

  pub both_words :
      cond (eqb t.c 0) (finish_words s.settings.dimensions (picture s) t.parent)
      (finish_words s.settings.dimensions (finish_words s.settings.dimensions (picture s) t.parent) t.c)
      ≡ picture (both_paid s t)
  both_words = at (ℕ_discrete t.c 0)
    where
      first : finish_words D (picture s) t.parent ≡ picture one
      first = sym (finish_words_lem s v t.parent parent_stands)

      second : finish_words D (picture one) t.c ≡ picture two
      second = sym (finish_words_lem one one_sound t.c c_stands)

      -- the head owes nothing
      head : t.c ≡ 0 → finish_words D (picture one) t.c ≡ picture one
      head e = ap (finish_words D (picture one)) e ∙ finish_words-none D (picture one) 0 (place_owed one_sound (head_placed one))

      at : Dec (t.c ≡ 0) → cond (eqb t.c 0) (finish_words D (picture s) t.parent) (finish_words D (finish_words D (picture s) t.parent) t.c)
          ≡ picture two
      at (yes e) = rw (eq-eqb t.c 0 e) (first ∙ sym (head e) ∙ second)
      at (no ne) = rw (ne_eqb t.c 0 ne) (ap (λ ws. finish_words D ws t.c) first ∙ second)

  -- the slot is the same
  abbrev two_gap : Gap key two.row
  two_gap = both_gap s t key g

  two_slot : SlotIs two key two_gap.pre two_gap.post t
  unfolding finished both_gap gap_changed
  two_slot =
      slot_changed one (on_cell t.c paid) (paid_keeping t.c) key (map (on_cell t.parent paid) g.pre) (map (on_cell t.parent paid) g.post) t
      (slot_changed s (on_cell t.parent paid) (paid_keeping t.parent) key g.pre g.post t i (finished t.parent s.row))
      (finished t.c (finished t.parent s.row))

  -- and neither the parent nor c owes
  c_unowing : All (λ y. y.cell ≡ t.c → y.owes ≡ false) two.row
  unfolding finished
  c_unowing =
      all_mapped (λ y. y.cell ≡ t.c → y.owes ≡ false) (on_cell t.c paid) (finished t.parent s.row)
      (all_each (λ y. on_cell-cases (λ z. z.cell ≡ t.c → z.owes ≡ false) t.c paid y (λ here e. refl) (λ other e. absurd (other e)))
      (finished t.parent s.row))

  parent_unowing : All (λ y. y.cell ≡ t.parent → y.owes ≡ false) two.row
  unfolding finished
  parent_unowing =
      all_mapped Unowing (on_cell t.c paid) (map (on_cell t.parent paid) s.row)
      (all_map (λ y h. on_cell-cases Unowing t.c paid y (λ here e. refl) (λ other. h)) (map (on_cell t.parent paid) s.row)
      (all_mapped Unowing (on_cell t.parent paid) s.row
      (all_each (λ y. on_cell-cases Unowing t.parent paid y (λ here e. refl) (λ other e. absurd (other e))) s.row)))
    where
      Unowing : Node → Type 0
      Unowing y = y.cell ≡ t.parent → y.owes ≡ false

  -- The path

  two_cells : map (λ y. y.cell) two.row ≡ map (λ y. y.cell) s.row
  unfolding finished
  two_cells =
      cells_changed (on_cell t.c paid) (paid_keeping t.c) (finished t.parent s.row)
      ∙ cells_changed (on_cell t.parent paid) (paid_keeping t.parent) s.row

  two_keys : map (λ y. y.key) two.row ≡ map (λ y. y.key) s.row
  unfolding finished
  two_keys =
      keys_changed (on_cell t.c paid) (paid_keeping t.c) (finished t.parent s.row)
      ∙ keys_changed (on_cell t.parent paid) (paid_keeping t.parent) s.row

  abbrev now : State
  now = with_new two two_gap.pre (new_node t.n key value (slot_owes t)) two_gap.post (added s key value t).position

  added_is : added s key value t ≡ now
  unfolding added finished both_gap gap_changed
  added_is =
      let position = (added s key value t).position in
      ap {B = State} (λ r. record { settings = s.settings; row = r; free = drop 1 s.free; position = position }) (added_row s v key value positive g f t i)

  pub added_path_at : position_key s < key → path (added s key value t) ≡ path s
  added_path_at h =
      let x = new_node t.n key value (slot_owes t) in
      ap path added_is
      ∙ ap (λ p. path (with_new two two_gap.pre x two_gap.post p)) (added_position_kept s v key value positive g f t i h)
      ∙ put_path two two_sound x two_gap (slot_new two two_sound key positive two_gap f t two_slot) (subst (λ k. k < key) (sym (both_position s t)) h)
      ∙ path_unmoved two s refl refl two_cells two_keys

  -- Who owes, and what is moved, after both are finished

  two_c : OwesNothing (picture two) t.c
  two_c = finish_own one one_sound t.c c_stands

  two_parent : OwesNothing (picture two) t.parent
  two_parent = at (ℕ_discrete t.parent t.c)
    where
      at : Dec (t.parent ≡ t.c) → OwesNothing (picture two) t.parent
      at (yes e) = subst (OwesNothing (picture two)) (sym e) two_c
      at (no ne) =
          let same = finish_others one one_sound t.c c_stands t.parent ne in
          let own = finish_own s v t.parent parent_stands in
          (same.0 ∙ own.0, same.1 ∙ own.1, same.2 ∙ own.2)

  two_others : (x : ℕ) → (x ≡ t.parent → ⊥) → (x ≡ t.c → ⊥) → OwesSame (picture s) (picture two) x
  two_others x not-parent not_c =
      let second = finish_others one one_sound t.c c_stands x not_c in
      let first = finish_others s v t.parent parent_stands x not-parent in
      (second.0 ∙ first.0, second.1 ∙ first.1, second.2 ∙ first.2)

  -- finishing the parent does not touch what c owes; if c is the parent, it is the head
  c_unmoved : (x j : ℕ) → Unmoved (picture s) t.c x j → Unmoved (picture one) t.c x j
  unfolding picture
  c_unmoved x j unmoved o = at (ℕ_discrete t.c t.parent)
    where
      at : Dec (t.c ≡ t.parent) → (x ≡ t.c → 3 ≤ j → j < fields_before_links → ⊥) ×
          ((d : ℕ) → low_at (picture one) t.c ≤ d → d < high_at (picture one) t.c → j ≡ link_field d →
          (x ≡ t.c → ⊥) × (x ≡ owed_at (picture one) t.c → ⊥))
      at (yes e) = absurd (omega (arith, o, ap (owed_at (picture one)) e, (finish_own s v t.parent parent_stands).0))
      at (no ne) =
          let same = finish_others s v t.parent parent_stands t.c ne in
          let Owed-same = same.0 in
          let low_same = same.1 in
          let high_same = same.2 in
          let before = unmoved (omega (arith, o, Owed-same)) in
          (before.0, λ d l h e. let apart = before.1 d (omega arith) (omega arith) e in (apart.0, λ q. apart.1 (q ∙ Owed-same)))

  two_unmoved : (x j : ℕ) → j < cell_words D → Unmoved (picture s) t.parent x j → Unmoved (picture s) t.c x j →
      word_at (picture two) x j ≡ word_at (picture s) x j
  two_unmoved x j h parent c = finish_unmoved one one_sound t.c c_stands x j h (c_unmoved x j c) ∙ finish_unmoved s v t.parent parent_stands x j h parent

  -- The new node

  module _ (most : key ≤ s.settings.largest) where
    now_sound : Sound now
    now_sound = subst Sound added_is (added_sound_at s v key value positive g f t i most)

    pub added_words_at : picture (added s key value t) ≡ write_path (insert_words s.settings.dimensions (picture s) key value t)
        (path (added s key value t))
    unfolding insert_words
    added_words_at =
        ap picture added_is
        ∙ put_words two two_sound key value positive two_gap f t two_slot parent_unowing c_unowing (added s key value t).position now_sound
        ∙ ap (λ z. write_path (write_new b D (picture two) key value t) (path z)) (sym added_is)
        ∙ ap (λ ws. write_path (write_new b D ws key value t) (path (added s key value t))) (sym both_words)

    abbrev new : Place
    new = new_place b D two_gap.pre (new_node t.n key value (slot_owes t)) two_gap.post

    here : Placed now t.n new
    here = put_new two two_sound key value positive two_gap f t two_slot parent_unowing c_unowing (added s key value t).position now_sound

    new_word : (j : ℕ) → j < cell_words D → word_at (picture now) t.n j ≡ get_or (new_words D key value t) j 0
    new_word j h =
        place_word now_sound here j h
        ∙ ap (λ ws. get_or ws j 0) (sym (put_new_words two two_sound key value positive two_gap f t two_slot parent_unowing c_unowing
        (added s key value t).position now_sound))

    new_link_lem : (d : ℕ) → d < D → link_at (picture now) t.n d ≡ get_or (slot_links D t) d 0
    new_link_lem d h = place_link now_sound here d h ∙ put_link two two_sound key value positive two_gap f t two_slot parent_unowing c_unowing
        (added s key value t).position now_sound d h

    elsewhere : (x j : ℕ) → x < s.settings.cells → j < cell_words D → (x ≡ t.n → ⊥) → (x ≡ t.parent → j ≡ link_field t.p → ⊥) →
        word_at (picture now) x j ≡ word_at (picture two) x j
    elsewhere x j below h not-n = put_elsewhere two two_sound key value positive two_gap f t two_slot parent_unowing c_unowing
        (added s key value t).position now_sound x j below h (λ e. not-n (sym e))

    owes_as_paid : (x : ℕ) → x < s.settings.cells → (x ≡ t.n → ⊥) → OwesSame (picture two) (picture now) x
    unfolding picture
    owes_as_paid x below not-n = (
      elsewhere x 3 below (omega arith) not-n (λ e q. omega arith),
      elsewhere x 4 below (omega arith) not-n
          (λ e q. omega arith),
      elsewhere x 5 below (omega arith) not-n (λ e q. omega arith),
    )

    nothing_as_paid : (x : ℕ) → x < s.settings.cells → (x ≡ t.n → ⊥) → OwesNothing (picture two) x → OwesNothing (picture now) x
    nothing_as_paid x below not-n paid = let same = owes_as_paid x below not-n in (same.0 ∙ paid.0, same.1 ∙ paid.1, same.2 ∙ paid.2)

    new_debt : (o : Bool) → slot_owes t ≡ o → (owed_at (picture now) t.n ≡ cond o t.c 0) × (low_at (picture now) t.n ≡ cond o t.p 0)
        × (high_at (picture now) t.n ≡ cond o t.q 0)
    unfolding picture new_words
    new_debt o e = (
      new_word 3 (omega arith) ∙ ap (λ r. cond r t.c 0) e,
      new_word 4 (omega arith) ∙ ap (λ r. cond r t.p 0) e,
      new_word 5 (omega arith) ∙ ap (λ r. cond r t.q 0) e,
    )

    now_settled : Settled (picture now) t.parent t.p t.n
    now_settled =
        subst₂ (λ y d. Settled (picture now) y d t.n) (sym two_slot.parent_is) (sym two_slot.p_is)
        (parent_leads now now_sound two_gap.pre (new_node t.n key value (slot_owes t)) two_gap.post refl)

    -- a cell that stood has the links that it has with both debts finished, but for link p of the parent
    link_as_paid : (x d : ℕ) → Standing (picture s) x → d < D → (x ≡ t.parent → d ≡ t.p → ⊥) → link_at (picture now) x d ≡ link_at (picture two) x d
    unfolding picture
    link_as_paid x d stands h off =
        let (q, there) = cell_standing s x stands in
        let new = slot_new s v key positive g f t i in
        elsewhere x (link_field d) stands.cell (omega arith)
        (λ e. placed_node there (λ y. y.cell ≡ t.n → ⊥) new.0 new.1 (placed_cell there ∙ e)) (λ e q. off e (omega arith))

    -- The links that the parent and c were due

    module _ (held : Settled (picture s) t.parent t.p t.c) where
      abbrev sentences : AList (picture s)
      sentences = picture_sentences s v

      parent_standing : Standing (picture s) t.parent
      parent_standing = place_standing v (slot_parent_placed s v key positive g f t i).1

      c_standing : Standing (picture s) t.c
      c_standing = place_standing v (slot_c_placed s v key positive g f t i).1

      apart : 0 < owed_at (picture s) t.c → DebtsApart (picture s) t.parent t.c
      apart = debts_apart (picture s) sentences t.parent t.p t.c parent_standing c_standing held

      -- finishing c leaves them to the parent
      now_parent_links : (d : ℕ) → low_at (picture s) t.parent ≤ d → d < high_at (picture s) t.parent →
          ((d ≡ t.p → ⊥) → link_at (picture now) t.parent d ≡ link_at (picture s) (owed_at (picture s) t.parent) d)
          × (link_at (picture now) (owed_at (picture s) t.parent) d ≡ 0)
      unfolding picture
      now_parent_links d l h =
          let from = owed_at (picture s) t.parent in
          let j = link_field d in
          let o = due_owes (picture s) sentences t.parent d parent_standing l h in
          let inside = (picture_owing s v t.parent parent_stands o).high in
          let paid = finish_finished s v t.parent parent_stands o in (
            (λ off. link_as_paid t.parent d parent_standing (omega arith) (λ e. off)
                ∙ finish_unmoved one one_sound t.c c_stands t.parent j (omega arith)
                (c_unmoved t.parent j (spared (picture s) t.c t.parent j (λ m. ((apart m).not_c, (apart m).not_owed))))
                ∙ paid.given d l h),
            link_as_paid from d (owed_next (picture s) sentences t.parent parent_standing o).standing (omega arith)
                (λ e. absurd (owed_other (picture s) sentences t.parent parent_standing o e))
                ∙ finish_unmoved one one_sound t.c c_stands from j (omega arith)
                (c_unmoved from j (spared (picture s) t.c from j (λ m. ((apart m).owed_not_c o, (apart m).owed_not_owed o))))
                ∙ paid.cleared d l h,
          )

      -- finishing the parent leaves them to c
      now_c_links : (d : ℕ) → low_at (picture s) t.c ≤ d → d < high_at (picture s) t.c →
          (link_at (picture now) t.c d ≡ link_at (picture s) (owed_at (picture s) t.c) d)
          × (link_at (picture now) (owed_at (picture s) t.c) d ≡ 0)
      unfolding picture
      now_c_links d l h =
          let from = owed_at (picture s) t.c in
          let j = link_field d in
          let o = due_owes (picture s) sentences t.c d c_standing l h in
          let a = apart o in
          let (Owed-same, low_same, high_same) = finish_others s v t.parent parent_stands t.c (λ e. a.not_c (sym e)) in
          let owes : 0 < owed_at (picture one) t.c = omega arith in
          let inside = (picture_owing one one_sound t.c c_stands owes).high in
          let paid = finish_finished one one_sound t.c c_stands owes in (
            link_as_paid t.c d c_standing (omega arith) (λ e. absurd (a.not_c (sym e)))
                ∙ paid.given d (omega arith) (omega arith) ∙ ap (λ x. link_at (picture one) x d) Owed-same
                ∙ finish_unmoved s v t.parent parent_stands from j (omega arith)
                (spared (picture s) t.parent from j (λ m. ((λ e. a.not_owed (sym e)), (λ e. a.owed_not_owed m (sym e))))),
            link_as_paid from d (owed_next (picture s) sentences t.c c_standing o).standing (omega arith) (λ e. absurd (a.not_owed (sym e)))
                ∙ ap (λ x. link_at (picture two) x d) (sym Owed-same) ∙ paid.cleared d (omega arith) (omega arith),
          )

    now_inserted : Settled (picture s) t.parent t.p t.c → ((t.c ≡ 0 → ⊥) → t.q ≡ shared b D key (key_at (picture s) t.c)) →
        Inserted (picture s) (picture now) key value t
    unfolding picture finished both_gap gap_changed
    now_inserted held shares =
        record {
          free = i.n_is;
          next_free = sym (slot_next s v key positive g f t i);
          key = place_key now_sound here;
          value = place_value now_sound here;
          live = place_mark now_sound here;
          standing = place_standing v (slot_parent_placed s v key positive g f t i).1;
          settled = now_settled;
          held = held;
          shares = shares;
          parent = put_parent two two_sound key value positive two_gap f t two_slot parent_unowing c_unowing (added s key value t).position now_sound;
          given = λ held. let inside = slot_shares s v key positive g f t i held in new_link_lem t.q inside ∙ slot_links-here D t.q t inside held refl;
          other_links = λ d h other. new_link_lem d h ∙ other_link d h other (ℕ_discrete t.c 0);
          owes = λ held less. new_debt true (and_both (not (eqb t.c 0)) (ltb t.p t.q) (ap not (ne_eqb t.c 0 held)) (lt-ltb t.p t.q less));
          owes_nothing = λ more. new_debt false (unowing more (ℕ_discrete t.c 0));
          parent_paid = nothing_as_paid t.parent (placed_below v (slot_parent_placed s v key positive g f t i).1)
              (λ e. slot_apart s v key positive g f t i (sym e)) two_parent;
          c_paid = nothing_as_paid t.c (placed_below v (slot_c_placed s v key positive g f t i).1)
              (λ e. slot_c_apart s v key positive g f t i (sym e)) two_c;
          others_owe = λ x below not-n not-parent not_c.
              let now-same = owes_as_paid x below not-n in
              let two-same = two_others x not-parent not_c in
              (now-same.0 ∙ two-same.0, now-same.1 ∙ two-same.1, now-same.2 ∙ two-same.2);
          parent_given = λ d l h. (now_parent_links held d l h).0;
          parent_cleared = λ d l h. (now_parent_links held d l h).1;
          c_given = λ d l h. (now_c_links held d l h).0;
          c_cleared = λ d l h. (now_c_links held d l h).1;
          header = header;
          other = λ x j below h not-n not-link parent c. elsewhere x j below h not-n not-link ∙ two_unmoved x j h parent c;
          path_kept = λ above d h.
              let kept = ap path (sym added_is) ∙ added_path_at (subst (λ n. n < key) (position_key_is v) above) in
              picture_path_word now d h ∙ ap (λ words. get_or words d 0) kept ∙ sym (picture_path_word s d h);
          position_lowered = λ low.
              subst (NextSmaller (picture now) t.n)
              (sym (position_is now_sound ∙ added_position_lowered s v key value positive g f t i (subst (λ n. key ≤ n) (position_key_is v) low)))
              (split_next_smaller now now_sound two_gap.pre (new_node t.n key value (slot_owes t)) two_gap.post refl);
        }
      where
        other_link : (d : ℕ) → d < D → (d ≡ t.q → t.c ≡ 0) → Dec (t.c ≡ 0) → get_or (slot_links D t) d 0 ≡ 0
        other_link d h other (yes e) = slot_links-none D d t h e
        other_link d h other (no ne) = slot_links-other D d t h (λ e. ne (other e))

        unowing : ((t.c ≡ 0 → ⊥) → t.q ≤ t.p) → Dec (t.c ≡ 0) → slot_owes t ≡ false
        unowing more (yes e) = ap (λ r. not r && ltb t.p t.q) (eq-eqb t.c 0 e)
        unowing more (no ne) = ap (λ r. not (eqb t.c 0) && r) (le-ltb t.p t.q (more ne)) ∙ and-false (not (eqb t.c 0))

        header : (k : ℕ) → k < 4 → get_or (picture now) k 0 ≡ get_or (picture s) k 0
        header zero h = refl
        header (suc zero) h = refl
        header (suc (suc zero)) h = refl
        header (suc (suc (suc zero))) h = refl
        header (suc (suc (suc (suc k)))) h = absurd (omega arith)

    pub added_inserted_at : Settled (picture s) t.parent t.p t.c →
        ((t.c ≡ 0 → ⊥) → t.q ≡ shared s.settings.base s.settings.dimensions key (key_at (picture s) t.c)) →
        Inserted (picture s) (picture (added s key value t)) key value t
    added_inserted_at held shares = subst (λ z. Inserted (picture s) (picture z) key value t) (sym added_is) (now_inserted held shares)

-- A key that does not stand, and a free cell

module _ (s : State) (v : Sound s) (key value : ℕ) (positive : 1 ≤ key) (most : key ≤ s.settings.largest) (absent : node_at key s.row ≡ None)
    (f : 0 < length s.free) where
  abbrev around : Gap key s.row
  around = gap key 0 s.row v.ascends absent

  slot : SlotIs s key around.pre around.post (slot_for s key)
  slot = slot_is s v key positive around f

  -- every word after the call
  pub added_words :
      picture (added s key value (slot_for s key))
      ≡ write_path (insert_words s.settings.dimensions (picture s) key value (slot_for s key)) (path (added s key value (slot_for s key)))
  added_words = added_words_at s v key value positive around f (slot_for s key) slot most

  -- c had that slot before, and q is what n and c share
  slot_held : Settled (picture s) (slot_for s key).parent (slot_for s key).p (slot_for s key).c
  unfolding slot_for settled_link_at
  slot_held =
      let (q, here) = slot_parent_placed s v key positive around f (slot_for s key) slot in
      subst (Settled (picture s) (slot_for s key).parent (slot_for s key).p)
      (sym (ap (settled_link_at s.settings.base s.settings.dimensions (slot_for s key).p) here.found))
      (place_settled v here (slot_for s key).p)

  slot_shared_lem : ((slot_for s key).c ≡ 0 → ⊥) → (slot_for s key).q ≡ shared s.settings.base s.settings.dimensions key (key_at (picture s) (slot_for s key).c)
  unfolding slot_for
  slot_shared_lem held =
      let (q, here) = slot_c_placed s v key positive around f (slot_for s key) slot in
      ap (shared s.settings.base s.settings.dimensions key) (sym (key_of_other (slot_for s key).c head_node s.row (λ e. held (sym e)))
      ∙ placed_key_of here ∙ sym (place_key v here))

  -- which words change, and which cells owe
  pub added_inserted : Inserted (picture s) (picture (added s key value (slot_for s key))) key value (slot_for s key)
  added_inserted = added_inserted_at s v key value positive around f (slot_for s key) slot most slot_held slot_shared_lem

  -- a key above the position's leaves the path
  pub added_path : position_key s < key → path (added s key value (slot_for s key)) ≡ path s
  added_path = added_path_at s v key value positive around f (slot_for s key) slot
