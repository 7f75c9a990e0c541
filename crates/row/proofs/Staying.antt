-- What a row may hold it may hold after every operation.
use Rattle.std.specs.Prelude.{Option, None, Some}
use mathlib.Core.Path.{◌≡◌, refl, ap, ◌∙◌}
use mathlib.Core.Bool.{Bool, true, false, cond, ◌&&◌, ◌||◌}
use mathlib.Core.List.{List, [], ◌∷◌, ◌++◌}
use Prim.Native.Nat.{ℕ, zero, suc, ◌≤◌, ◌<◌}
use native.Mathlib.Omega.{arith}
use lib.Dec.{eqb, leb, ltb}
use lib.ListN.{length, get_or, take, drop, length-map, length-drop}
use lib.Seq.{drop-cons}
use borrow.Author.Tests.{ltb-true, leb-true, lt-ltb, le-leb, eq-eqb}
use Rattle.lists.proofs.Tests.{both}
use Rattle.lists.proofs.All.{All, every_all, all_every, all_map, all_zip, all_mapped}
use Rattle.settings.specs.Numbers.{is_key}
use Rattle.answers.specs.declared.Operation.{Operation}
use Rattle.answers.specs.declared.Operation.TheVariants.{Insert, Find, Finish, Take, Sweep}
use Rattle.answers.specs.Refusals.{accepted, refused}
use Rattle.answers.specs.declared.Refusal.TheVariants.{BadKey, KeyLive, NoFreeCell}
use Rattle.book.specs.Book.{StandingKey, standing_key, Book, with_row, last_in, standing_at, on_book_key, put_key, marked, position_with, insert_book, find_book, finish_book, dead_before, live_on, take_book, last_only, sweep_book, operation_book}
use Rattle.row.specs.Row.{ascending, stands, at_position, right_mark}
use Rattle.row.specs.Places.{place_of}
use Rattle.row.proofs.Searching.{ascending_first, keys_above_lem, place_within, place_below, last_before, last_kept, dead_taken, live_dropped, dead_within}
use Rattle.row.proofs.Checking.{Held}
use Rattle.std.proofs.lemmas.Bool.Decides.{nat_tests}

-- Marks, for another position

mark_again : (p q : ℕ) (y : StandingKey) → right_mark p y ≡ true → (y.live ≡ true → q < y.key) → right_mark q y ≡ true
mark_again p q y e above = grind (arith, nat_tests)

live_above : (p : ℕ) (y : StandingKey) → right_mark p y ≡ true → y.live ≡ true → p < y.key
live_above p y e l = ltb-true p y.key (rw l at e)

-- Ascending keys

rise_first : (low K : ℕ) (x : StandingKey) (row : List StandingKey) → low < x.key → x.key ≤ K → ascending x.key K row ≡ true → ascending low K (x ∷ row) ≡ true
unfolding ascending
rise_first low K x row p q a = rw (lt-ltb low x.key p, le-leb x.key K q, a) refl

rise_lower : (low below K : ℕ) (row : List StandingKey) → below ≤ low → ascending low K row ≡ true → ascending below K row ≡ true
unfolding ascending
rise_lower low below K [] h a = refl
rise_lower low below K (x ∷ row) h a =
    let t = ascending_first low K x row a in
    let first = t.0 in
    rise_first below K x row (omega arith) t.1.0 t.1.1

rise_drop : (low K : ℕ) (row : List StandingKey) (j : ℕ) → ascending low K row ≡ true → ascending low K (drop j row) ≡ true
rise_drop low K row zero a = a
rise_drop low K [] (suc j) a = a
rise_drop low K (x ∷ row) (suc j) a =
    let t = ascending_first low K x row a in
    let first = t.0 in
    rise_lower x.key low K (drop j row) (omega arith) (rise_drop x.key K row j t.1.1)

absent_first : (key : ℕ) (y : StandingKey) (row : List StandingKey) → standing_at key (y ∷ row) ≡ None → (eqb y.key key ≡ false) × (standing_at key row ≡ None)
unfolding standing_at
absent_first key y row e = grind (arith, nat_tests)

rise_put :
    (low K : ℕ) (x : StandingKey) (row : List StandingKey) → ascending low K row ≡ true → low < x.key → x.key ≤ K → standing_at x.key row ≡ None →
    ascending low K (put_key x row) ≡ true
unfolding put_key ascending
rise_put low K x [] a p q absent = rise_first low K x [] p q refl
rise_put low K x (y ∷ row) a p q absent =
    let t = ascending_first low K y row a in
    let other = absent_first x.key y row absent in
    grind (arith, nat_tests, t, other, rise_put y.key K x row t.1.1)

-- A key put in

put_length : (x : StandingKey) (row : List StandingKey) → length (put_key x row) ≡ suc (length row)
unfolding put_key
put_length x [] = refl
put_length x (y ∷ row) = grind (arith, put_length x row)

put_stands : (q : ℕ) (x : StandingKey) (row : List StandingKey) → stands q row ≡ true → stands q (put_key x row) ≡ true
unfolding put_key stands
put_stands q x [] s = absurd cc
put_stands q x (y ∷ row) s = grind (arith, nat_tests, put_stands q x row)

put_all : (P : StandingKey → Type 0) (x : StandingKey) (row : List StandingKey) → P x → All P row → All P (put_key x row)
unfolding put_key
put_all P x [] p a = (p, tt)
put_all P x (y ∷ row) p a = grind (arith, nat_tests, put_all P x row p a.1)

-- A key marked: the keys are the same

key_kept : (key value : ℕ) (live : Bool) (x : StandingKey) → (cond (eqb x.key key) (standing_key key value live) x).key ≡ x.key
key_kept key value live x = grind (arith, nat_tests)

marked_rise : (key value : ℕ) (live : Bool) (low K : ℕ) (row : List StandingKey) → ascending low K (marked key value live row) ≡ ascending low K row
unfolding marked ascending
marked_rise key value live low K [] = refl
marked_rise key value live low K (x ∷ row) =
    rw (key_kept key value live x) (ap (λ b. ltb low x.key && leb x.key K && b) (marked_rise key value live x.key K row))

marked_stands : (key value : ℕ) (live : Bool) (q : ℕ) (row : List StandingKey) → stands q (marked key value live row) ≡ stands q row
unfolding marked stands
marked_stands key value live q [] = refl
marked_stands key value live q (x ∷ row) = rw (key_kept key value live x, marked_stands key value live q row) refl

marked_length : (key value : ℕ) (live : Bool) (row : List StandingKey) → length (marked key value live row) ≡ length row
unfolding marked
marked_length key value live row = length-map row (λ x. cond (eqb x.key key) (standing_key key value live) x)

-- each mark is right with another position, and the key that is marked is right itself
marked_right :
    (key value : ℕ) (live : Bool) (p q : ℕ) (row : List StandingKey) → right_mark q (standing_key key value live) ≡ true →
    All (λ y. right_mark p y ≡ true) row → All (λ y. (y.key ≡ key → ⊥) → y.live ≡ true → q < y.key) row → All (λ y. right_mark q y ≡ true)
    (marked key value live row)
unfolding marked
marked_right key value live p q row right old above =
    all_mapped (λ y. right_mark q y ≡ true) (λ x. cond (eqb x.key key) (standing_key key value live) x) row
    (all_zip (λ y e h. grind (arith, nat_tests)) row old above)

-- The position after an insert

stands_place : (row : List StandingKey) (j : ℕ) (z : StandingKey) → j < length row → stands (get_or row j z).key row ≡ true
unfolding stands
stands_place [] j z h = absurd (omega arith)
stands_place (x ∷ row) zero z h = rw (eq-eqb x.key x.key refl) refl
stands_place (x ∷ row) (suc j) z h = grind (arith, nat_tests, stands_place row j z)

place_before_lem : (key : ℕ) (row : List StandingKey) (j : ℕ) (z : StandingKey) → j < place_of key row → (get_or row j z).key < key
unfolding place_of
place_before_lem key [] j z h = absurd (omega arith)
place_before_lem key (x ∷ row) zero z h = grind (arith, nat_tests)
place_before_lem key (x ∷ row) (suc j) z h = grind (arith, nat_tests, place_before_lem key row j z)

below_place :
    (key : ℕ) (row : List StandingKey) → 0 < key → (i : ℕ) → i ≤ place_of key row → (at_position (last_in (take i row)) row ≡ true) × (last_in (take i row) < key)
unfolding last_in
below_place key row positive zero h = (refl, positive)
below_place key row positive (suc j) h =
    let z = standing_key 0 0 true in
    let within : j < length row = omega (arith, place_within key row) in
    rw (last_before row j z within)
    (grind (arith, nat_tests, stands_place row j z within), place_before_lem key row j z (omega arith))

-- Take

first_live :
    (low K : ℕ) (row : List StandingKey) (x : StandingKey) (later : List StandingKey) → ascending low K row ≡ true → live_on row ≡ x ∷ later →
    (stands x.key row ≡ true) × All (λ y. (y.key ≡ x.key → ⊥) → y.live ≡ true → x.key < y.key) row
unfolding live_on stands
first_live low K [] x later a e = absurd cc
first_live low K (y ∷ row) x later a e =
    let t = ascending_first low K y row a in
    at y.live refl e (keys_above_lem y.key K row t.1.1) (first_live y.key K row x later t.1.1)
  where
    at : (t : Bool) → y.live ≡ t → cond t (y ∷ row) (live_on row) ≡ x ∷ later → All (λ w. y.key < w.key) row →
        (live_on row ≡ x ∷ later → (stands x.key row ≡ true) × All (λ w. (w.key ≡ x.key → ⊥) → w.live ≡ true → x.key < w.key) row) →
        ((eqb y.key x.key || stands x.key row) ≡ true) ×
        (((y.key ≡ x.key → ⊥) → y.live ≡ true → x.key < y.key) × All (λ w. (w.key ≡ x.key → ⊥) → w.live ≡ true → x.key < w.key) row)
    at true l e above more =
        let key : y.key ≡ x.key = cc in
        (grind (arith, nat_tests), (grind (arith, nat_tests), all_map (λ w h ne live. omega arith) row above))
    at false l e above more =
        let rest = more e in
        (grind (arith, nat_tests), (grind (arith, nat_tests), rest.1))

-- Sweep

dead_place : (row : List StandingKey) (j : ℕ) (z : StandingKey) → j < length (dead_before row) → (get_or row j z).live ≡ false
unfolding dead_before
dead_place [] j z h = absurd (omega arith)
dead_place (x ∷ row) zero z h = grind (arith, nat_tests)
dead_place (x ∷ row) (suc j) z h = grind (arith, nat_tests, dead_place row j z)

all_drop : (P : StandingKey → Type 0) (row : List StandingKey) (j : ℕ) → All P row → All P (drop j row)
all_drop P row zero a = a
all_drop P [] (suc j) a = a
all_drop P (x ∷ row) (suc j) a = all_drop P row j a.1

above_place :
    (low K : ℕ) (row : List StandingKey) (j : ℕ) (z : StandingKey) → ascending low K row ≡ true → j < length row →
    All (λ y. (get_or row j z).key < y.key) (drop (suc j) row)
above_place low K [] j z a h = absurd (omega arith)
above_place low K (x ∷ row) zero z a h = keys_above_lem x.key K row (ascending_first low K x row a).1.1
above_place low K (x ∷ row) (suc j) z a h = above_place x.key K row j z (ascending_first low K x row a).1.1 (omega arith)

first_stands : (x : StandingKey) (row : List StandingKey) → stands x.key (x ∷ row) ≡ true
unfolding stands
first_stands x row = rw (eq-eqb x.key x.key refl) refl

-- The operations

-- what finds and finishes leave
pub find_left : (key : ℕ) (k : Book) → (operation_book (Find key) k).left ≡ k
unfolding operation_book on_book_key find_book
find_left key k = grind arith

pub finish_left : (key : ℕ) (k : Book) → (operation_book (Finish key) k).left ≡ k
unfolding operation_book on_book_key finish_book
finish_left key k = grind arith

module _ (D : ℕ) (k : Book) (h : Held D k) where
  old : All (λ y. right_mark k.position y ≡ true) k.row
  old = every_all (right_mark k.position) k.row h.marks

  -- the position after an insert: the head or a standing key, below the key, and no higher than before
  inserted_position : (key : ℕ) → 0 < key → (at_position (position_with key k) k.row ≡ true) × ((position_with key k < key) × (position_with key k ≤ k.position))
  unfolding position_with
  inserted_position key positive =
      let below = below_place key k.row positive (place_of key k.row) (omega arith) in
      let taken = place_below key 0 k.largest k.row h.rise in
      grind (arith, nat_tests, h.position)

  placed : (q : ℕ) (row other : List StandingKey) → (stands q row ≡ true → stands q other ≡ true) → at_position q row ≡ true → at_position q other ≡ true
  placed q row other kept e = grind (arith, nat_tests)

  new_held : (key value : ℕ) → is_key k.largest key ≡ true → standing_at key k.row ≡ None → suc (length k.row) < k.cells →
      Held D (with_row k (put_key (standing_key key value true) k.row) (position_with key k))
  new_held key value good absent room =
      let g = both (leb 1 key) (leb key k.largest) good in
      let positive = leb-true 1 key g.0 in
      let x = standing_key key value true in
      let q = inserted_position key positive in
      let under = q.1.0 in
      let lower = q.1.1 in
      record {
        range = h.range;
        room = rw (put_length x k.row) room;
        rise = rise_put 0 k.largest x k.row h.rise positive (leb-true key k.largest g.1) absent;
        position = placed (position_with key k) k.row (put_key x k.row) (put_stands (position_with key k) x k.row) q.0;
        marks =
            all_every (right_mark (position_with key k)) (put_key x k.row)
            (put_all (λ y. right_mark (position_with key k) y ≡ true) x k.row (lt-ltb (position_with key k) key under)
            (all_map (λ y e. mark_again k.position (position_with key k) y e (λ l. let above = live_above k.position y e l in omega arith)) k.row old));
      }

  marked_held :
      (key value : ℕ) (live : Bool) (q : ℕ) → at_position q k.row ≡ true → right_mark q (standing_key key value live) ≡ true →
      All (λ y. (y.key ≡ key → ⊥) → y.live ≡ true → q < y.key) k.row → Held D (with_row k (marked key value live k.row) q)
  marked_held key value live q position right above =
      record {
        range = h.range;
        room = rw (marked_length key value live k.row) h.room;
        rise = marked_rise key value live 0 k.largest k.row ∙ h.rise;
        position = placed q k.row (marked key value live k.row) (λ e. marked_stands key value live q k.row ∙ e) position;
        marks = all_every (right_mark q) (marked key value live k.row) (marked_right key value live k.position q k.row right old above);
      }

  swept_held : (i : ℕ) → length (dead_before k.row) ≡ i → Held D (with_row k (last_only (dead_before k.row) ++ live_on k.row) (last_in (dead_before k.row)))
  unfolding last_only last_in
  swept_held zero is =
      let dead : dead_before k.row ≡ [] = dead_taken k.row ∙ ap (λ n. take n k.row) is in
      let live : live_on k.row ≡ k.row = live_dropped k.row ∙ ap (λ n. drop n k.row) is in
      rw (dead, live)
      record {
        range = h.range;
        room = h.room;
        rise = h.rise;
        position = refl;
        marks =
            all_every (right_mark 0) k.row
            (all_zip (λ y e above. mark_again k.position 0 y e (λ l. above)) k.row old (keys_above_lem 0 k.largest k.row h.rise));
      }
  swept_held (suc j) is =
      let row = k.row in
      let z = standing_key 0 0 true in
      let x = get_or row j z in
      let within : j < length row = omega (arith, dead_within row) in
      let dead : dead_before row ≡ take (suc j) row = dead_taken row ∙ ap (λ n. take n row) is in
      let live : live_on row ≡ drop (suc j) row = live_dropped row ∙ ap (λ n. drop n row) is in
      let kept : last_only (take (suc j) row) ++ drop (suc j) row ≡ drop j row = last_kept row j within in
      let split : drop j row ≡ x ∷ drop (suc j) row = drop-cons row j z within in
      let marks : All (λ y. right_mark k.position y ≡ true) (x ∷ drop (suc j) row) = rw split at (all_drop (λ y. right_mark k.position y ≡ true) row j old) in
      let is-dead : x.live ≡ false = dead_place row j z (omega arith) in
      rw (dead, live, kept, last_before row j z within)
      record {
        range = h.range;
        room = let left = length-drop j row in let some_left = h.room in omega arith;
        rise = rise_drop 0 k.largest row j h.rise;
        position = grind (arith, nat_tests, split, first_stands x (drop (suc j) row));
        marks =
            all_every (right_mark x.key) (drop j row)
            (rw split (
              mark_again k.position x.key x marks.0 (λ l. absurd cc),
              all_zip (λ y e above. mark_again k.position x.key y e (λ l. above)) (drop (suc j) row) marks.1
                  (above_place 0 k.largest row j z h.rise within),
            ));
      }

  insert_held : (key value : ℕ) → is_key k.largest key ≡ true → (o : Option StandingKey) → standing_at key k.row ≡ o → Held D (insert_book key value k o).left
  unfolding insert_book
  insert_held key value good None absent = at (ltb (suc (length k.row)) k.cells) refl
    where
      at : (t : Bool) → ltb (suc (length k.row)) k.cells ≡ t →
          Held D
          (cond t (accepted key 0 0 (with_row k (put_key (standing_key key value true) k.row) (position_with key k))) (refused (NoFreeCell key 0) k)).left
      at true e = new_held key value good absent (ltb-true (suc (length k.row)) k.cells e)
      at false e = h
  insert_held key value good (Some x) there = at x.live
    where
      at : (t : Bool) → Held D (cond t (refused (KeyLive key 0) k) (accepted key 0 0 (with_row k (marked key value true k.row) (position_with key k)))).left
      at true = h
      at false =
          let q = inserted_position key (leb-true 1 key (both (leb 1 key) (leb key k.largest) good).0) in
          let lower = q.1.1 in
          marked_held key value true (position_with key k) q.0 (lt-ltb (position_with key k) key q.1.0)
          (all_map (λ y e ne l. let above = live_above k.position y e l in omega arith) k.row old)

  take_held : (live : List StandingKey) → live_on k.row ≡ live → Held D (take_book k live).left
  unfolding take_book
  take_held [] e = h
  take_held (x ∷ later) e =
      let f = first_live 0 k.largest k.row x later h.rise e in
      marked_held x.key 0 false x.key (grind (arith, nat_tests)) refl f.1

  pub stays_held : (operation : Operation) → Held D (operation_book operation k).left
  unfolding operation_book on_book_key sweep_book
  stays_held (Insert key value) = at (is_key k.largest key) refl
    where
      at : (t : Bool) → is_key k.largest key ≡ t → Held D (cond t (insert_book key value k (standing_at key k.row)) (refused BadKey k)).left
      at true good = insert_held key value good (standing_at key k.row) refl
      at false bad = h
  stays_held (Find key) = rw (find_left key k) h
  stays_held (Finish key) = rw (finish_left key k) h
  stays_held Take = take_held (live_on k.row) refl
  stays_held Sweep = swept_held (length (dead_before k.row)) refl
