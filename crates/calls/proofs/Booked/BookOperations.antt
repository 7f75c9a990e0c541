-- What each of the five operations does to a state in order: the words after it are the picture of a state in order with the same settings, and its
-- book is what the operation leaves of the book; the answer is the book's, but for looked and the links moved. Both by the outcome of each case.
use Rattle.std.specs.Prelude.{Option, None, Some}
use mathlib.Core.Path.{◌≡◌, refl, sym, ◌∙◌, ap, ap₂, subst, subst₂}
use mathlib.Core.Bool.{true, false, cond}
use mathlib.Core.List.{List, [], ◌∷◌, ◌++◌, map, drop_last, map-append}
use Prim.Native.Nat.{ℕ, suc, ◌≤◌, ◌<◌}
use native.Mathlib.Decide.{dec_le}
use native.Mathlib.Omega.{arith}
use lib.ListN.{length}
use borrow.Author.Tests.{lt-ltb, le-ltb, le-leb, lt-leb}
use Rattle.settings.proofs.Numbers.{key_in, key_out}
use Rattle.lists.proofs.All.{all_map}
use Rattle.answers.specs.Refusals.{Outcome, answer, answer_of, refused}
use Rattle.answers.specs.declared.Refusal.{Refusal}
use Rattle.answers.specs.declared.Refusal.TheVariants.{BadKey, KeyLive, NoFreeCell, NothingLive, KeyNotLive, KeyNotStanding}
use Rattle.answers.specs.declared.Operation.{Operation}
use Rattle.answers.specs.declared.Operation.TheVariants.{Insert, Find, Finish, Take, Sweep}
use Rattle.book.specs.Book as book
use Rattle.book.specs.Book.{StandingKey, Book, standing_at, on_book_key, marked, position_with, insert_book, find_book, finish_book, last_in, last_only, dead_before}
use Rattle.book.specs.Book.{live_on, standing_above, take_book, sweep_book, put_key, standing_key, operation_book}
use Rattle.meaning.specs.Row.{Node, head_node, last_of, node_at, smaller_than}
use Rattle.meaning.specs.State.{State, key_of, position_key}
use Rattle.meaning.specs.Picture.{picture}
use Rattle.meaning.specs.Operations.{looked, paid, finished, with_row, revived_node, revived, new_node, slot_for, slot_owes, added, dead_front, from_live, dead_node}
use Rattle.meaning.specs.Operations.{freed_by, keys_above, taken, last_alone, swept, operation_out, position_after}
use Rattle.meaning.specs.declared.Slot.{Slot}
use Rattle.calls.specs.Book.{standing_key_of, without_search}
use Rattle.meaning.proofs.Rows.AscendingRow.{Asc}
use Rattle.meaning.proofs.Rows.Nodes.{node_split, node_key}
use Rattle.meaning.proofs.Rows.Places.{Keeping, last_from, asc_smaller, asc_larger, on_cell, key_of_head_changed}
use Rattle.meaning.proofs.Pictures.State.{Sound}
use Rattle.meaning.proofs.Walks.Smaller.{smaller_is}
use Rattle.meaning.proofs.Kept.KeepsState.{live_split}
use Rattle.meaning.proofs.Kept.KeepsFinish.{paid_keeping, finished_sound}
use Rattle.meaning.proofs.Kept.KeepsTake.{dead_keeping, taken_key, taken_sound}
use Rattle.meaning.proofs.Kept.KeepsSweep.{kept_by, paid_all_keeping, swept_key, swept_sound}
use Rattle.meaning.proofs.Kept.Slot.{gap, slot_is, last_changed}
use Rattle.meaning.proofs.Kept.KeepsInsert.{revived_keeping, revived_position, revived_sound, added_row, added_position_lowered, added_key_kept, added_sound}
use Rattle.meaning.proofs.Outcomes.{insert_outcome_bad_key, insert_outcome_live, insert_outcome_dead, insert_outcome_full, insert_outcome_new, find_outcome_bad_key}
use Rattle.meaning.proofs.Outcomes.{find_outcome_absent, find_outcome_dead, find_outcome_live, finish_outcome_bad_key, finish_outcome_absent}
use Rattle.meaning.proofs.Outcomes.{finish_outcome_standing, take_outcome_none, take_outcome_first, sweep_outcome, key_cases, live_cases, free_cases}
use Rattle.calls.proofs.Booked.BookRow.{standing_in, told, standing_at_lem, standing_put, standing_same, standing_finished, standing_marked, standing_dead}
use Rattle.calls.proofs.Booked.BookRow.{standing_live, standing_last, standing_but_last, last_key_lem, key_below_lem, keys_above_lem, keys_passed_lem, room, position_last}

-- the book of a state
abbrev pub book_in : State → Book
book_in s = record { largest = s.settings.largest; cells = s.settings.cells; row = standing_in s.row; position = position_key s }

-- an operation on a state in order ends as it does on the state's book
pub record OnBook (operation : Operation) (s : State) (o : Outcome (List ℕ)) (told : Outcome Book) : Type 0 where
  pub after : State
  pub sound : Sound after
  pub left : o.left ≡ picture after
  pub settings : after.settings ≡ s.settings
  pub book : book_in after ≡ told.left
  pub answered : without_search operation o.answered ≡ told.answered

abbrev pub Booked : Operation → State → Type 0
Booked operation s = OnBook operation s (operation_out operation (picture s)) (operation_book operation (book_in s))

-- by what both come to
ends : (operation : Operation) (s : State) {o p : Outcome (List ℕ)} {j k : Outcome Book} → o ≡ p → j ≡ k → OnBook operation s p k → OnBook operation s o j
ends operation s e f = subst₂ (OnBook operation s) (sym e) (sym f)

-- a refusal leaves both
turned : (operation : Operation) (s : State) → Sound s → (r q : Refusal) → without_search operation (answer_of r) ≡ answer_of q →
    OnBook operation s (refused r (picture s)) (refused q (book_in s))
turned operation s v r q same = record { after = s; sound = v; left = refl; settings = refl; book = refl; answered = same }

-- the book of a state with the settings of another one
book_is : (s t : State) (row : List StandingKey) (position : ℕ) → t.settings ≡ s.settings → standing_in t.row ≡ row → position_key t ≡ position →
    book_in t ≡ book.with_row (book_in s) row position
book_is s t row position same p q = λ i. record { largest = (same i).largest; cells = (same i).cells; row = p i; position = q i }

-- a key in range, and another one
on_key_lem : (key : ℕ) (k : Book) (done : Outcome Book) → 1 ≤ key → key ≤ k.largest → on_book_key key k done ≡ done
unfolding on_book_key
on_key_lem key k done l h = rw (key_in l h) refl

off_key : (key : ℕ) (k : Book) (done : Outcome Book) → (1 ≤ key → k.largest < key) → on_book_key key k done ≡ refused BadKey k
unfolding on_book_key
off_key key k done f = rw (key_out f) refl

-- Insert

-- where the position goes
position_goes : (s t : State) (key : ℕ) → (key ≤ position_key s → position_key t ≡ (smaller_than key s.row).key) →
    (position_key s < key → position_key t ≡ position_key s) → position_key t ≡ position_with key (book_in s)
unfolding position_with
position_goes s t key back kept = at (dec_le key (position_key s))
  where
    at : Dec (key ≤ position_key s) → position_key t ≡ position_with key (book_in s)
    at (yes h) = rw (le-leb key (position_key s) h) (back h ∙ sym (key_below_lem key s.row))
    at (no n) = let h : position_key s < key = omega arith in rw (lt-leb key (position_key s) h) (kept h)

-- a change of nodes keeps the key of the last
last_key_changed : (f : Node → Node) → Keeping f → (row : List Node) → (last_from head_node (map f row)).key ≡ (last_from head_node row).key
last_key_changed f k row = ap (λ y. y.key) (last_changed f k row) ∙ k.key (last_from head_node row)

module _ (s : State) (v : Sound s) (key value : ℕ) (l : 1 ≤ key) (h : key ≤ s.settings.largest) where
  abbrev insert : Operation
  insert = Insert key value

  -- by the standing key, if there is one
  inserts : (o : Option Node) → node_at key s.row ≡ o → operation_book insert (book_in s) ≡ insert_book key value (book_in s) (told o)
  unfolding operation_book
  inserts o e =
      on_key_lem key (book_in s) (insert_book key value (book_in s) (standing_at key (standing_in s.row))) l h
      ∙ ap (insert_book key value (book_in s)) (standing_at_lem key s.row ∙ ap told e)

  insert_live : (x : Node) → node_at key s.row ≡ Some x → x.live ≡ true → Booked insert s
  unfolding insert_book
  insert_live x e live =
      ends insert s (insert_outcome_live s v key value l h x e live) (inserts (Some x) e ∙ rw live refl)
      (turned insert s v (KeyLive key (looked s key)) (KeyLive key 0) refl)

  insert_full : node_at key s.row ≡ None → length s.free ≡ 0 → Booked insert s
  unfolding insert_book
  insert_full e full =
      ends insert s (insert_outcome_full s v key value l h e full)
      (inserts None e ∙ rw (le-ltb (suc (length (standing_in s.row))) s.settings.cells (omega (arith, room s v))) refl)
      (turned insert s v (NoFreeCell key (looked s key)) (NoFreeCell key 0) refl)

  -- The operations 2: a dead key is revived
  module _ (x : Node) (e : node_at key s.row ≡ Some x) (dead : x.live ≡ false) where
    abbrev revive : Node → Node
    revive = on_cell x.cell (revived_node value)

    same : x.key ≡ key
    same = node_key key x s.row e

    sound : Sound (revived s x value)
    sound = revived_sound s x value v (subst (λ k. node_at k s.row ≡ Some x) (sym same) e) dead

    revived_row : standing_in (revived s x value).row ≡ marked key value true (standing_in s.row)
    unfolding revived
    revived_row =
        let (front, later, split) = node_split key x s.row e in
        standing_marked s v front x later split (revived_node value) value true (λ y. refl) ∙ ap (λ k. marked k value true (standing_in s.row)) same

    revived_at : position_key (revived s x value) ≡ position_with x.key (book_in s)
    unfolding revived position_after
    revived_at =
        let (front, later, split) = node_split key x s.row e in
        let keeping = revived_keeping s x value v front later split in
        let up : Asc 0 (front ++ (x ∷ later)) = subst (Asc 0) split v.ascends in
        position_goes s (revived s x value) x.key
        (λ low.
        position_last (revived s x value) sound (map revive front) (revive x ∷ map revive later) (ap (map revive) split ∙ map-append revive front (x ∷ later))
        (revived_position s x value v front later split low)
        ∙ last_key_changed revive keeping front
        ∙ sym (ap (λ r. (smaller_than x.key r).key) split ∙ ap (λ y. y.key) (smaller_is x.key front (x ∷ later) (asc_smaller 0 front x later up)
        (omega arith, all_map (λ y above. omega arith) later (asc_larger 0 front x later up)))))
        (λ above.
        ap (λ t. key_of (cond t (smaller_than x.key s.row).cell s.position) (head_node ∷ map revive s.row)) (lt-leb x.key (position_key s) above)
        ∙ key_of_head_changed revive keeping s.position s.row)

    insert_dead : Booked insert s
    unfolding insert_book revived
    insert_dead =
        ends insert s (insert_outcome_dead s v key value l h x e dead) (inserts (Some x) e ∙ rw dead refl)
        (record {
          after = revived s x value;
          sound = sound;
          left = refl;
          settings = refl;
          book = book_is s (revived s x value) (marked key value true (standing_in s.row)) (position_with key (book_in s)) refl revived_row
              (revived_at ∙ ap (λ k. position_with k (book_in s)) same);
          answered = refl;
        })

  -- .. and a new one put in its place
  module _ (absent : node_at key s.row ≡ None) (space : 0 < length s.free) where
    abbrev slot : Slot
    slot = slot_for s key

    abbrev node : Node
    node = new_node slot.n key value (slot_owes slot)

    abbrev pay : List Node → List Node
    pay row = finished slot.c (finished slot.parent row)

    new_sound : Sound (added s key value slot)
    new_sound = added_sound s key value v l h absent space

    new_row : standing_in (added s key value slot).row ≡ put_key (standing_key key value true) (standing_in s.row)
    unfolding added
    new_row =
        standing_put node (pay s.row)
        ∙ ap (put_key (standing_key key value true)) (standing_finished slot.c (finished slot.parent s.row) ∙ standing_finished slot.parent s.row)

    pay_last : (row : List Node) → (last_from head_node (pay row)).key ≡ (last_from head_node row).key
    unfolding finished
    pay_last row =
        last_key_changed (on_cell slot.c paid) (paid_keeping slot.c) (finished slot.parent row)
        ∙ last_key_changed (on_cell slot.parent paid) (paid_keeping slot.parent) row

    new_at : position_key (added s key value slot) ≡ position_with key (book_in s)
    new_at =
        let g = gap key 0 s.row v.ascends absent in
        let i = slot_is s v key l g space in
        position_goes s (added s key value slot) key
        (λ low.
        position_last (added s key value slot) new_sound (pay g.pre) (node ∷ pay g.post) (added_row s v key value l g space slot i)
        (added_position_lowered s v key value l g space slot i low)
        ∙ pay_last g.pre
        ∙ sym (ap (λ r. (smaller_than key r).key) g.splits
        ∙ ap (λ y. y.key) (smaller_is key g.pre g.post g.below (all_map (λ y above. omega arith) g.post g.above))))
        (added_key_kept s v key value l g space slot i)

    insert_new_lem : Booked insert s
    unfolding insert_book added
    insert_new_lem =
        ends insert s (insert_outcome_new s v key value l h absent space)
        (inserts None absent ∙ rw (lt-ltb (suc (length (standing_in s.row))) s.settings.cells (omega (arith, room s v))) refl)
        (record {
          after = added s key value slot;
          sound = new_sound;
          left = refl;
          settings = refl;
          book = book_is s (added s key value slot) (put_key (standing_key key value true) (standing_in s.row)) (position_with key (book_in s)) refl new_row new_at;
          answered = refl;
        })

insert_booked : (key value : ℕ) (s : State) → Sound s → Booked (Insert key value) s
unfolding operation_book
insert_booked key value s v =
    key_cases s key
    (λ n. ends (Insert key value) s (insert_outcome_bad_key s v key value n) (off_key key (book_in s) _ n) (turned (Insert key value) s v BadKey BadKey refl))
    (λ l h e. free_cases s (insert_full s v key value l h e) (insert_new_lem s v key value l h e))
    (λ l h x e. live_cases x (insert_live s v key value l h x e) (insert_dead s v key value l h x e))

-- Find

find_booked : (key : ℕ) (s : State) → Sound s → Booked (Find key) s
unfolding operation_book find_book
find_booked key s v =
    key_cases s key
    (λ n. ends (Find key) s (find_outcome_bad_key s v key n) (off_key key (book_in s) _ n) (turned (Find key) s v BadKey BadKey refl))
    (λ l h e. ends (Find key) s (find_outcome_absent s v key l h e) (finds l h None e) not_live)
    (λ l h x e.
    live_cases x
    (λ q. ends (Find key) s (find_outcome_live s v key l h x e q) (finds l h (Some x) e ∙ rw q refl)
    (record { after = s; sound = v; left = refl; settings = refl; book = refl; answered = refl }))
    (λ q. ends (Find key) s (find_outcome_dead s v key l h x e q) (finds l h (Some x) e ∙ rw q refl) not_live))
  where
    finds : 1 ≤ key → key ≤ s.settings.largest → (o : Option Node) → node_at key s.row ≡ o →
        operation_book (Find key) (book_in s) ≡ find_book key (book_in s) (told o)
    finds l h o e = on_key_lem key (book_in s) _ l h ∙ ap (find_book key (book_in s)) (standing_at_lem key s.row ∙ ap told e)

    not_live : OnBook (Find key) s (refused (KeyNotLive key (looked s key)) (picture s)) (refused (KeyNotLive key 0) (book_in s))
    not_live = turned (Find key) s v (KeyNotLive key (looked s key)) (KeyNotLive key 0) refl

-- Finish

finish_booked : (key : ℕ) (s : State) → Sound s → Booked (Finish key) s
unfolding operation_book finish_book finished
finish_booked key s v =
    key_cases s key
    (λ n. ends (Finish key) s (finish_outcome_bad_key s v key n) (off_key key (book_in s) _ n) (turned (Finish key) s v BadKey BadKey refl))
    (λ l h e. ends (Finish key) s (finish_outcome_absent s v key l h e) (finishes l h None e) (turned (Finish key) s v (KeyNotStanding key) (KeyNotStanding key) refl))
    (λ l h x e.
    let t = with_row s (finished x.cell s.row) in
    ends (Finish key) s (finish_outcome_standing s v key l h x e) (finishes l h (Some x) e)
    (record {
      after = t;
      sound = finished_sound s x.cell v;
      left = refl;
      settings = refl;
      book = book_is s t (standing_in s.row) (position_key s) refl (standing_finished x.cell s.row)
          (key_of_head_changed (on_cell x.cell paid) (paid_keeping x.cell) s.position s.row);
      answered = refl;
    }))
  where
    finishes : 1 ≤ key → key ≤ s.settings.largest → (o : Option Node) → node_at key s.row ≡ o →
        operation_book (Finish key) (book_in s) ≡ finish_book key (book_in s) (told o)
    finishes l h o e = on_key_lem key (book_in s) _ l h ∙ ap (finish_book key (book_in s)) (standing_at_lem key s.row ∙ ap told e)

-- Take

take_booked : (s : State) → Sound s → Booked Take s
unfolding operation_book take_book taken
take_booked s v = at (from_live s.row) refl
  where
    takes : (rest : List Node) → from_live s.row ≡ rest → operation_book Take (book_in s) ≡ take_book (book_in s) (standing_in rest)
    takes rest e = ap (take_book (book_in s)) (standing_live s.row ∙ ap standing_in e)

    at : (rest : List Node) → from_live s.row ≡ rest → Booked Take s
    at [] e =
        ends Take s (take_outcome_none s v e) (takes [] e)
        (turned Take s v (NothingLive (keys_above (position_key s) s.row)) (NothingLive (standing_above (position_key s) (standing_in s.row)))
        (ap (λ n. answer_of (NothingLive n)) (sym (keys_above_lem (position_key s) s.row))))
    at (x ∷ later) e =
        ends Take s (take_outcome_first s v x later e) (takes (x ∷ later) e)
        (record {
          after = taken s x;
          sound = taken_sound s x later v e;
          left = refl;
          settings = refl;
          book = book_is s (taken s x) (marked x.key 0 false (standing_in s.row)) x.key refl
              (standing_marked s v (dead_front s.row) x later (live_split s.row x later e) dead_node 0 false (λ y. refl))
              (key_of_head_changed (on_cell x.cell dead_node) (dead_keeping x.cell) x.cell s.row ∙ taken_key s x later v e);
          answered = ap (answer 0 x.key x.value) (sym (keys_passed_lem (position_key s) x.key s.row));
        })

-- Sweep

sweep_booked : (s : State) → Sound s → Booked Sweep s
unfolding operation_book sweep_book swept freed_by
sweep_booked s v =
    let front = dead_front s.row in
    let dead = standing_dead s.row in
    ends Sweep s (sweep_outcome s v) refl
    (record {
      after = swept s;
      sound = swept_sound s v;
      left = refl;
      settings = refl;
      book = book_is s (swept s) (last_only (dead_before (standing_in s.row)) ++ live_on (standing_in s.row)) (last_in (dead_before (standing_in s.row))) refl
          (standing_same paid (λ x. refl) (kept_by s.row) ∙ map-append standing_key_of (last_alone front) (from_live s.row)
          ∙ sym (ap₂ (λ kept later. kept ++ later) (ap last_only dead ∙ standing_last front) (standing_live s.row)))
          (key_of_head_changed paid paid_all_keeping (last_of front).cell (kept_by s.row) ∙ swept_key s v ∙ sym (ap last_in dead ∙ last_key_lem front));
      answered = ap (answer 0 0 0) (sym (ap (λ r. length (drop_last r)) dead ∙ standing_but_last front));
    })

-- Any of the five

pub state_booked : (operation : Operation) (s : State) → Sound s → Booked operation s
state_booked (Insert key value) s v = insert_booked key value s v
state_booked (Find key) s v = find_booked key s v
state_booked (Finish key) s v = finish_booked key s v
state_booked Take s v = take_booked s v
state_booked Sweep s v = sweep_booked s v
