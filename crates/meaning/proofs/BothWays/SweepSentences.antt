-- The operations 6, as laws of the swept state and its words: nobody owes, what is freed and what is kept, and the position is the greatest
-- dead cell below every live key.
use Rattle.std.specs.Prelude.{Option, None, Some}
use mathlib.Core.Path.{◌≡◌, refl, sym, ap, ◌∙◌, subst}
use mathlib.Core.Bool.{true, false, true≢false}
use mathlib.Core.List.{List, [], ◌∷◌, ◌++◌, map, drop_last}
use mathlib.Core.Logic.{◌⊎◌, inl, inr}
use Prim.Native.Nat.{ℕ, zero, suc, ◌≤◌, ◌<◌}
use native.Mathlib.Decide.{dec_lt}
use native.Mathlib.Omega.{arith}
use lib.ListN.{get_or}
use Rattle.lists.specs.Lists.{occurrences}
use Rattle.lists.proofs.Occurrences.{occurrences_reverse_aux, all_occur}
use Rattle.lists.proofs.All.{All, all_map, all_append, all_left, all_zip, all_of_map, all_at}
use Rattle.meaning.specs.Row.{Node, head_node, Place, head_place, place_of, last_of}
use Rattle.meaning.specs.State.{State, places_of}
use Rattle.meaning.specs.Picture.{mark, picture}
use Rattle.meaning.specs.Words.{key_at, value_at, mark_at, link_at, position_at}
use Rattle.meaning.specs.Operations.{paid, dead_front, from_live, last_alone, freed_by, swept}
use Rattle.meaning.specs.Sentences.{Free, Standing, Settled, Owing}
use Rattle.meaning.specs.Writes.{OwesNothing, Swept}
use Rattle.meaning.proofs.Rows.AscendingRow.{Asc, asc_above}
use Rattle.meaning.proofs.Pictures.State.{Sound}
use Rattle.meaning.proofs.Rows.Places.{asc_left, asc_right}
use Rattle.meaning.proofs.Kept.KeepsState.{cells_positive, row_split, dead_front-dead, from_live-live, live_split, last_split, last_cases}
use Rattle.meaning.proofs.Kept.KeepsSweep.{kept_by, swept_split, kept_asc, swept_dead, swept_sound}
use Rattle.meaning.proofs.Cells.Placed.{Placed, placed_node, placed_cell, head_placed, place_key, place_value, place_mark, place_standing}
use Rattle.meaning.proofs.Cells.Placed.{mark_one, free_cell_rest, cell_standing, cell_free, free_cell_lem, place_unowing}
use Rattle.meaning.proofs.BothWays.SentencesShape.{HasPlace, row_placed}
use Rattle.meaning.proofs.BothWays.Sentences.{position_is, picture_sentences}
use Rattle.meaning.proofs.Written.SweepFinish.{paid_owes_nothing}

-- all that is owed is finished

pub swept_unowing : (s : State) → All (λ x. x.owes ≡ false) (swept s).row
unfolding swept
swept_unowing s = paid_owes_nothing (kept_by s.row)

-- Debts 4, of every cell
pub swept_owes_nothing : (s : State) → Sound s → (x : ℕ) → x < s.settings.cells → OwesNothing (picture (swept s)) x
unfolding swept
swept_owes_nothing s v x h = at (place_of x (places_of (swept s) (swept s).row)) refl
  where
    at : (o : Option Place) → place_of x (places_of (swept s) (swept s).row) ≡ o → OwesNothing (picture (swept s)) x
    at None e = (
      free_cell_rest (swept s) x h e 3 (omega arith) (omega arith),
      free_cell_rest (swept s) x h e 4 (omega arith) (omega arith),
      free_cell_rest (swept s) x h e 5 (omega arith) (omega arith),
    )
    at (Some p) e =
        let here : Placed (swept s) x p = record { found = e } in
        place_unowing (swept_sound s v) here (placed_node here (λ y. y.owes ≡ false) refl (swept_unowing s))

-- The operations 6: what is freed

pub freed_free : (s : State) → Sound s → All (λ x. Free (picture (swept s)) x.cell) (freed_by s.row)
unfolding swept
freed_free s v =
    let cells = map (λ x. x.cell) (freed_by s.row) in
    all_map (λ x met. free_cell_lem (swept_sound s v) x.cell (omega (arith, met, occurrences_reverse_aux x.cell cells s.free))) (freed_by s.row)
    (all_of_map (λ c. 0 < occurrences c cells) (λ x. x.cell) (freed_by s.row) (all_occur cells))

-- Live nodes keep their cells, keys, values and marks

-- none of those freed is live
freed_dead : (row : List Node) → All (λ x. x.live ≡ false) (freed_by row)
unfolding freed_by
freed_dead row = all_left (λ x. x.live ≡ false) (freed_by row) (last_alone (dead_front row))
    (subst (All (λ x. x.live ≡ false)) (sym (last_split (dead_front row))) (dead_front-dead row))

-- The operations 6: where the position goes

-- the last of some nodes with ascending keys is above what is below the first, ..
last_above : (low : ℕ) (x : Node) (row : List Node) → Asc low (x ∷ row) → low < (last_of (x ∷ row)).key
unfolding last_of
last_above low x [] a = a.0
last_above low x (y ∷ row) a = let more = last_above x.key y row a.1 in let first = a.0 in omega arith

-- .. not below any of them, ..
last_most : (low : ℕ) (row : List Node) → Asc low row → All (λ y. y.key ≤ (last_of row).key) row
unfolding last_of
last_most low [] a = tt
last_most low (x ∷ []) a = (omega arith, tt)
last_most low (x ∷ y ∷ row) a = let above = last_above x.key y row a.1 in (omega arith, last_most x.key (y ∷ row) a.1)

-- .. and above all but itself
drop_below : (low : ℕ) (row : List Node) → Asc low row → All (λ y. y.key < (last_of row).key) (drop_last row)
unfolding last_of
drop_below low [] a = tt
drop_below low (x ∷ []) a = tt
drop_below low (x ∷ y ∷ row) a = (last_above x.key y row a.1, drop_below x.key (y ∷ row) a.1)

-- the node that becomes the position
abbrev target : State → Node
target s = last_of (dead_front s.row)

-- a node on the words after the sweep, as it was
pub record Stays (ws : List ℕ) (x : Node) : Type 0 where
  pub key : key_at ws x.cell ≡ x.key
  pub value : value_at ws x.cell ≡ x.value
  pub same : mark_at ws x.cell ≡ mark x.live

module _ {s : State} (v : Sound s) where
  sound : Sound (swept s)
  sound = swept_sound s v

  front_ascends : Asc 0 (dead_front s.row)
  front_ascends = asc_left 0 (dead_front s.row) (from_live s.row) (subst (Asc 0) (sym (row_split s.row)) v.ascends)

  freed_below : All (λ y. y.key < (target s).key) (freed_by s.row)
  unfolding freed_by
  freed_below = drop_below 0 (dead_front s.row) front_ascends

  kept_above : All (λ y. (target s).key ≤ y.key) (kept_by s.row)
  kept_above =
      last_cases (λ z last. Asc 0 (last ++ later) → All (λ y. z.key ≤ y.key) (last ++ later)) (λ x. x.live ≡ false) (dead_front s.row)
      (dead_front-dead s.row)
      (λ up. all_map (λ y h. omega arith) later (asc_above 0 later up))
      (λ z q up. (omega arith, all_map (λ y h. omega arith) later (asc_above z.key later up.1)))
      (kept_asc 0 s.row v.ascends)
    where
      later : List Node
      later = from_live s.row

  target_dead : (target s).live ≡ false
  target_dead = last_cases (λ z last. z.live ≡ false) (λ x. x.live ≡ false) (dead_front s.row) (dead_front-dead s.row) refl (λ x h. h)

  target_placed : HasPlace s (target s)
  target_placed =
      last_cases (λ z last. HasPlace s z) (HasPlace s) (dead_front s.row)
      (all_left (HasPlace s) (dead_front s.row) (from_live s.row) (subst (All (HasPlace s)) (sym (row_split s.row)) (row_placed v)))
      (record { place = head_place s.row; placed = head_placed s; node = refl })
      (λ x h. h)

  -- what holds of those freed and of those kept holds of the row
  row_has : (P : Node → Type 0) → All P (freed_by s.row) → All P (kept_by s.row) → All P s.row
  row_has P freed kept = subst (All P) (sym (swept_split s.row)) (all_append P (freed_by s.row) (kept_by s.row) freed kept)

  live_above : All (λ y. y.live ≡ true → (target s).key < y.key) s.row
  live_above =
      row_has (λ y. y.live ≡ true → (target s).key < y.key)
      (all_map (λ y dead live. absurd (true≢false (sym live ∙ dead))) (freed_by s.row) (freed_dead s.row))
      (all_map (λ y dead live. at y dead live (dec_lt (target s).key y.key)) (kept_by s.row) (swept_dead s.row v.ascends))
    where
      at : (y : Node) → (y.key ≤ (target s).key → y.live ≡ false) → y.live ≡ true → Dec ((target s).key < y.key) → (target s).key < y.key
      at y dead live (yes h) = h
      at y dead live (no h) = absurd (true≢false (sym live ∙ dead (omega arith)))

  -- y is below every live key
  abbrev BelowLive : Node → Type 0
  BelowLive y = (z : Node) → HasPlace s z → z.live ≡ true → y.key < z.key

  dead_up_to : All (λ y. BelowLive y → y.key ≤ (target s).key) s.row
  dead_up_to =
      subst (All UpTo) (row_split s.row)
      (all_append UpTo (dead_front s.row) (from_live s.row) (all_map (λ y h below. h) (dead_front s.row) (last_most 0 (dead_front s.row) front_ascends))
      (from (from_live s.row) refl))
    where
      UpTo : Node → Type 0
      UpTo y = BelowLive y → y.key ≤ (target s).key

      from : (rest : List Node) → from_live s.row ≡ rest → All UpTo rest
      from [] e = tt
      from (z ∷ later) e =
          let split = live_split s.row z later e in
          let stands = all_at (HasPlace s) (dead_front s.row) z later (subst (All (HasPlace s)) split (row_placed v)) in
          let live = from_live-live s.row z later e in
          let up = asc_right 0 (dead_front s.row) (z ∷ later) (subst (Asc 0) split v.ascends) in (
            λ below. absurd (let h = below z stands live in omega arith),
            all_map (λ y above below. absurd (let h = below z stands live in omega arith)) later (asc_above z.key later up.1),
          )

  freed_all : All (λ y. 0 < y.key → y.key < (target s).key → Free (picture (swept s)) y.cell) s.row
  freed_all =
      row_has (λ y. 0 < y.key → y.key < (target s).key → Free (picture (swept s)) y.cell)
      (all_map (λ y free low high. free) (freed_by s.row) (freed_free s v))
      (all_map (λ y above low high. absurd (omega arith)) (kept_by s.row) kept_above)

  kept_stays : All (Stays (picture (swept s))) (kept_by s.row)
  unfolding swept
  kept_stays =
      all_map (λ x h.
      record {
        key = place_key sound h.placed ∙ ap (λ y. y.key) h.node;
        value = place_value sound h.placed ∙ ap (λ y. y.value) h.node;
        same = place_mark sound h.placed ∙ ap (λ y. mark y.live) h.node;
      })
      (kept_by s.row) (all_of_map (HasPlace (swept s)) paid (kept_by s.row) (row_placed sound))

  head_stays : Stays (picture (swept s)) head_node
  head_stays = let here = head_placed (swept s) in record { key = place_key sound here; value = place_value sound here; same = place_mark sound here }

  kept_all_stay : All (λ y. (y.cell ≡ 0) ⊎ ((target s).key ≤ y.key) → Stays (picture (swept s)) y) s.row
  kept_all_stay =
      row_has (λ y. (y.cell ≡ 0) ⊎ ((target s).key ≤ y.key) → Stays (picture (swept s)) y)
      (all_zip (λ y low positive. not y low positive) (freed_by s.row) freed_below
      (all_left (λ y. 0 < y.cell) (freed_by s.row) (kept_by s.row) (subst (All (λ y. 0 < y.cell)) (swept_split s.row) (cells_positive s v))))
      (all_map (λ y stays where-is. stays) (kept_by s.row) kept_stays)
    where
      not : (y : Node) → y.key < (target s).key → 0 < y.cell → (y.cell ≡ 0) ⊎ ((target s).key ≤ y.key) → Stays (picture (swept s)) y
      not y low positive (inl e) = absurd (omega arith)
      not y low positive (inr h) = absurd (omega arith)

  -- The same of the words

  position_swept : position_at (picture (swept s)) ≡ (target s).cell
  unfolding swept
  position_swept = position_is sound

  target_key : key_at (picture s) (position_at (picture (swept s))) ≡ (target s).key
  target_key = ap (key_at (picture s)) position_swept ∙ place_key v target_placed.placed ∙ ap (λ y. y.key) target_placed.node

  target_mark : mark_at (picture s) (position_at (picture (swept s))) ≡ 2
  target_mark =
      ap (mark_at (picture s)) position_swept ∙ place_mark v target_placed.placed ∙ ap (λ y. mark y.live) target_placed.node ∙ ap mark target_dead

  words_below_live : (x : ℕ) → Standing (picture s) x → mark_at (picture s) x ≡ 1 → key_at (picture s) (position_at (picture (swept s))) < key_at (picture s) x
  words_below_live x stands live =
      let (p, here) = cell_standing s x stands in
      let above =
      placed_node here (λ y. y.live ≡ true → (target s).key < y.key) (λ l. absurd (true≢false (sym l))) live_above
      (mark_one p.node.live (sym (place_mark v here) ∙ live)) in
      omega (arith, above, target_key, place_key v here)

  words_greatest : (x : ℕ) → Standing (picture s) x → ((y : ℕ) → Standing (picture s) y → mark_at (picture s) y ≡ 1 →
      key_at (picture s) x < key_at (picture s) y) →
      key_at (picture s) x ≤ key_at (picture s) (position_at (picture (swept s)))
  words_greatest x stands below =
      let (p, here) = cell_standing s x stands in
      let up_to_lem =
      placed_node here (λ y. BelowLive y → y.key ≤ (target s).key) (λ f. omega arith) dead_up_to
      (λ z h live.
      let less = below z.cell (place_standing v h.placed) (place_mark v h.placed ∙ ap (λ y. mark y.live) h.node ∙ ap mark live) in
      omega (arith, less, place_key v here, place_key v h.placed, ap (λ y. y.key) h.node)) in
      omega (arith, up_to_lem, target_key, place_key v here)

  words_freed : (x : ℕ) → Standing (picture s) x → 0 < key_at (picture s) x →
      key_at (picture s) x < key_at (picture s) (position_at (picture (swept s))) → mark_at (picture (swept s)) x ≡ 0
  words_freed x stands low high =
      let (p, here) = cell_standing s x stands in
      let free =
      placed_node here (λ y. 0 < y.key → y.key < (target s).key → Free (picture (swept s)) y.cell) (λ a c. absurd (omega arith)) freed_all
      (omega (arith, low, place_key v here)) (omega (arith, high, target_key, place_key v here)) in
      ap (mark_at (picture (swept s))) (sym (placed_cell here)) ∙ free.mark

  words_kept : (x : ℕ) → Standing (picture s) x → (x ≡ 0) ⊎ (key_at (picture s) (position_at (picture (swept s))) ≤ key_at (picture s) x) →
      (key_at (picture (swept s)) x ≡ key_at (picture s) x) × ((value_at (picture (swept s)) x ≡ value_at (picture s) x)
      × (mark_at (picture (swept s)) x ≡ mark_at (picture s) x))
  words_kept x stands rest =
      let (p, here) = cell_standing s x stands in
      let stays =
      placed_node here (λ y. (y.cell ≡ 0) ⊎ ((target s).key ≤ y.key) → Stays (picture (swept s)) y) (λ r. head_stays) kept_all_stay (is p here rest) in
      let cell = sym (placed_cell here) in (
        ap (key_at (picture (swept s))) cell ∙ stays.key ∙ sym (place_key v here),
        (
          ap (value_at (picture (swept s))) cell ∙ stays.value ∙ sym (place_value v here),
          ap (mark_at (picture (swept s))) cell ∙ stays.same
              ∙ sym (place_mark v here),
        ),
      )
    where
      is : (p : Place) → Placed s x p → (x ≡ 0) ⊎ (key_at (picture s) (position_at (picture (swept s))) ≤ key_at (picture s) x) →
          (p.node.cell ≡ 0) ⊎ ((target s).key ≤ p.node.key)
      is p here (inl e) = inl (placed_cell here ∙ e)
      is p here (inr h) = inr (omega (arith, h, target_key, place_key v here))

  words_free : (x : ℕ) → Free (picture s) x → Free (picture (swept s)) x
  unfolding swept
  words_free x free =
      let cells = map (λ y. y.cell) (freed_by s.row) in
      free_cell_lem sound x (omega (arith, cell_free v x free, occurrences_reverse_aux x cells s.free))

  words_settled : (x d : ℕ) → Standing (picture (swept s)) x → d < s.settings.dimensions → Settled (picture (swept s)) x d (link_at (picture (swept s)) x d)
  unfolding picture swept
  words_settled x d stands h = (picture_sentences (swept s) sound).links x d stands h (none x) (λ n o e. none n o)
    where
      none : (n : ℕ) → Owing (picture (swept s)) n d → ⊥
      none n o = let owed = o.owes in let nothing = (swept_owes_nothing s v n o.standing.cell).0 in omega arith

pub swept_leaves : (s : State) → Sound s → Swept (picture s) (picture (swept s))
unfolding picture swept
swept_leaves s v =
    record {
      position = subst (Standing (picture s)) (sym (position_swept v)) (place_standing v (target_placed v).placed);
      dead = target_mark v;
      below_live = words_below_live v;
      greatest = λ x stands dead below. words_greatest v x stands below;
      freed = words_freed v;
      kept = words_kept v;
      free = words_free v;
      owes = swept_owes_nothing s v;
      settled = words_settled v;
      header = header;
    }
  where
    header : (i : ℕ) → i < 4 → get_or (picture (swept s)) i 0 ≡ get_or (picture s) i 0
    header zero h = refl
    header (suc zero) h = refl
    header (suc (suc zero)) h = refl
    header (suc (suc (suc zero))) h = refl
    header (suc (suc (suc (suc i)))) h = absurd (omega arith)
