-- Each way out of the six calls meets the call's outcome, by what the code found on the words.
use mathlib.Core.Path.{◌≡◌, refl, sym, ap, ◌∙◌}
use mathlib.Core.Bool.{Bool, true, false}
use mathlib.Core.List.{List, [], ◌∷◌, ◌++◌}
use Prim.Native.Nat.{ℕ, suc, ◌+◌, ◌-◌, ◌≤◌, ◌<◌}
use native.Mathlib.Numerals.{add-one}
use native.Mathlib.Omega.{arith}
use lib.ListN.{length, get_or, take, drop, set, replicate}
use lib.Seq.{take_all, sets}
use borrow.Author.Tests.{lt-ltb, le-ltb, eq-eqb, ne_eqb}
use Rattle.settings.specs.Numbers.{in_range, is_key}
use Rattle.answers.specs.declared.Answer.{Answer}
use Rattle.answers.specs.declared.Operation.{Operation}
use Rattle.answers.specs.declared.Operation.TheVariants.{Insert, Find, Finish, Take, Sweep}
use Rattle.answers.specs.Refusals.{Meets, answer, answer_of, accepted, refused}
use Rattle.answers.specs.declared.Refusal.{Refusal}
use Rattle.answers.specs.declared.Refusal.TheVariants.{NotAList, BadKey, KeyLive, NoFreeCell, NothingLive, KeyNotLive, KeyNotStanding}
use Rattle.book.specs.Book.{standing_key, Book, fresh_book, with_row, last_in, on_book_key, put_key, marked, position_with, insert_book, find_book, finish_book, dead_before, live_on, standing_above, standing_between, take_book, last_only, sweep_book, operation_book}
use Rattle.row.specs.Row.{row_length, row_words, key_in, book_in, ascending, is_row, row_set_up_out, in_words, row_out}
use Rattle.row.specs.Places.{word_of, place_at, place_of, Found, Missing, position_after, with_keys}
use Rattle.row.proofs.Written.{row_written, row_holds, read_length, read_at, read_from_lem}
use Rattle.row.proofs.Searching.{place_put, place_below, marked_at, last_before, last_kept, others_length, between_up_to, dead_taken, live_dropped, dead_within}
use Rattle.row.proofs.Found.{found_there, found_nowhere}
use Rattle.row.proofs.Turns.{keys_end}
use Rattle.row.proofs.Checking.{held}
use Rattle.row.proofs.Changed.{row_put_at, row_placed, position_put, fresh_words_lem}

-- the outcome of words set up, and of an operation on words that are no row, or are one

pub set_up_out_lem : (D K C : ℕ) (ws : List ℕ) → in_range D K C ≡ true → length ws ≡ row_length C → row_set_up_out D K C ws ≡ accepted 0 0 0 (row_words D (fresh_book K C))
unfolding row_set_up_out
set_up_out_lem D K C ws range long = rw (range, eq-eqb (length ws) (row_length C) long) refl

pub no_row_out : (operation : Operation) (ws : List ℕ) → is_row ws ≡ false → row_out operation ws ≡ refused NotAList ws
unfolding row_out
no_row_out operation ws e = rw e refl

pub on_row : (operation : Operation) (ws : List ℕ) → is_row ws ≡ true → row_out operation ws ≡ in_words (get_or ws 0 0) (operation_book operation (book_in ws))
unfolding row_out
on_row operation ws e = rw e refl

-- Set up

module _ (D K C : ℕ) (ws : List ℕ) (r : Answer) where
  pub set_up_bad : in_range D K C ≡ false → r ≡ answer 1 0 0 0 → Meets (row_set_up_out D K C ws) r ws
  unfolding row_set_up_out
  set_up_bad range a = rw range record { answered = a; left = refl }

  pub set_up_length : in_range D K C ≡ true → (length ws ≡ row_length C → ⊥) → r ≡ answer 2 0 0 0 → Meets (row_set_up_out D K C ws) r ws
  unfolding row_set_up_out
  set_up_length range other a = rw (range, ne_eqb (length ws) (row_length C) other) record { answered = a; left = refl }

  pub set_up_done :
      in_range D K C ≡ true → length ws ≡ row_length C → r ≡ answer 0 0 0 0 →
      Meets (row_set_up_out D K C ws) r (set (set (set (replicate (length ws) 0) 0 D) 1 K) 2 C)
  set_up_done range long a = rw (set_up_out_lem D K C ws range long) record { answered = a; left = fresh_words_lem D K C (length ws) long }

-- 3

pub no_row : (operation : Operation) (ws : List ℕ) (r : Answer) → is_row ws ≡ false → r ≡ answer 3 0 0 0 → Meets (row_out operation ws) r ws
no_row operation ws r e a = rw (no_row_out operation ws e) record { answered = a; left = refl }

module _ (ws : List ℕ) (e : is_row ws ≡ true) where
  pub rise : ascending 0 (get_or ws 1 0) (book_in ws).row ≡ true
  unfolding book_in
  rise = (held (get_or ws 0 0) (book_in ws) (row_holds ws e)).rise

  -- a call that is refused, and one that leaves another book
  refuses :
      (operation : Operation) (x : Refusal) (r : Answer) → operation_book operation (book_in ws) ≡ refused x (book_in ws) → r ≡ answer_of x →
      Meets (row_out operation ws) r ws
  refuses operation x r is a = rw (on_row operation ws e, is) record { answered = a; left = row_written ws e }

  does :
      (operation : Operation) (key value count : ℕ) (k : Book) (r : Answer) (left : List ℕ) →
      operation_book operation (book_in ws) ≡ accepted key value count k → r ≡ answer 0 key value count → left ≡ row_words (get_or ws 0 0) k →
      Meets (row_out operation ws) r left
  does operation key value count k r left is a l = rw (on_row operation ws e, is) record { answered = a; left = l }

  -- 4

  module _ (key : ℕ) (r : Answer) (bad : is_key (get_or ws 1 0) key ≡ false) (a : r ≡ answer 4 0 0 0) where
    pub insert_bad : (value : ℕ) → Meets (row_out (Insert key value) ws) r ws
    unfolding operation_book on_book_key book_in
    insert_bad value = refuses (Insert key value) BadKey r (rw bad refl) a

    pub find_bad : Meets (row_out (Find key) ws) r ws
    unfolding operation_book on_book_key book_in
    find_bad = refuses (Find key) BadKey r (rw bad refl) a

    pub finish_bad : Meets (row_out (Finish key) ws) r ws
    unfolding operation_book on_book_key book_in
    finish_bad = refuses (Finish key) BadKey r (rw bad refl) a

  -- a key that is one, by where it stands or would

  module _ (key : ℕ) (good : is_key (get_or ws 1 0) key ≡ true) (i : ℕ) (r : Answer) where
    there_marked : Found ws key i → (value : ℕ) (live : Bool) → marked key value live (book_in ws).row ≡ set (book_in ws).row i (standing_key key value live)
    there_marked f value live =
        let is : (get_or (book_in ws).row i (key_in ws i)).key ≡ key = ap (λ x. x.key) (read_at ws i (key_in ws i) f.within) ∙ f.is in
        rw is at (marked_at 0 (get_or ws 1 0) (book_in ws).row i value live (key_in ws i) rise (omega (arith, read_length ws, f.within)))

    position_is : i ≡ place_of key (book_in ws).row → position_with key (book_in ws) ≡ position_after ws i key
    unfolding position_with book_in
    position_is is = rw (is, place_below key 0 (get_or ws 1 0) (book_in ws).row rise) refl

    pub insert_live : (value : ℕ) → Found ws key i → (place_at ws i).mark ≡ 1 → r ≡ answer 5 key 0 0 → Meets (row_out (Insert key value) ws) r ws
    unfolding operation_book on_book_key book_in insert_book
    insert_live value f live a = refuses (Insert key value) (KeyLive key 0) r (rw (good, found_there ws key i f, live) refl) a

    pub insert_dead :
        (value position : ℕ) (put : List ℕ) → Found ws key i → ((place_at ws i).mark ≡ 1 → ⊥) → r ≡ answer 0 key 0 0 →
        put ≡ sets ws (word_of i) (key ∷ value ∷ 1 ∷ []) → position ≡ position_after ws i key → Meets (row_out (Insert key value) ws) r (set put 4 position)
    unfolding operation_book on_book_key book_in insert_book
    insert_dead value position put f dead a is at =
        does (Insert key value) key 0 0 (with_row (book_in ws) (set (book_in ws).row i (standing_key key value true)) (position_after ws i key)) r (set put 4 position)
        (rw (good, found_there ws key i f, ne_eqb (place_at ws i).mark 1 dead, there_marked f value true, position_is f.place) refl)
        a (rw (is, at) (row_put_at ws e i (standing_key key value true) (position_after ws i key) f.within))

    pub insert_full :
        (value : ℕ) → Missing ws key i → get_or ws 2 0 ≤ get_or ws 3 0 + 1 → r ≡ answer 6 key 0 0 → Meets (row_out (Insert key value) ws) r ws
    unfolding operation_book on_book_key book_in insert_book
    insert_full value m full a =
        let none_left : get_or ws 2 0 ≤ suc (length (book_in ws).row) = omega (arith, read_length ws) in
        refuses (Insert key value) (NoFreeCell key 0) r
        (rw (good, found_nowhere ws key (get_or ws 1 0) rise i m, le-ltb (suc (length (book_in ws).row)) (get_or ws 2 0) none_left) refl) a

    pub insert_new_lem :
        (value position : ℕ) (added : List ℕ) → Missing ws key i → get_or ws 3 0 + 1 < get_or ws 2 0 → r ≡ answer 0 key 0 0 →
        added ≡ with_keys ws (take i (book_in ws).row ++ (standing_key key value true ∷ drop i (book_in ws).row)) → position ≡ position_after ws i key →
        Meets (row_out (Insert key value) ws) r (set added 4 position)
    unfolding operation_book on_book_key book_in insert_book
    insert_new_lem value position added m room a is at =
        let some_left : suc (length (book_in ws).row) < get_or ws 2 0 = omega (arith, read_length ws) in
        let x = standing_key key value true in
        let keys = take i (book_in ws).row ++ (x ∷ drop i (book_in ws).row) in
        let put : put_key x (book_in ws).row ≡ keys = rw m.place (place_put x (book_in ws).row) in
        does (Insert key value) key 0 0 (with_row (book_in ws) keys (position_after ws i key)) r (set added 4 position)
        (rw (
          good,
          found_nowhere ws key (get_or ws 1 0) rise i m,
          lt-ltb (suc (length (book_in ws).row)) (get_or ws 2 0) some_left,
          put,
          position_is m.place,
        ) refl)
        a (rw (is, at) (position_put (get_or ws 0 0) (with_row (book_in ws) keys (book_in ws).position) (position_after ws i key)))

    pub find_none : Missing ws key i → r ≡ answer 8 key 0 0 → Meets (row_out (Find key) ws) r ws
    unfolding operation_book on_book_key book_in find_book
    find_none m a = refuses (Find key) (KeyNotLive key 0) r (rw (good, found_nowhere ws key (get_or ws 1 0) rise i m) refl) a

    pub find_dead : Found ws key i → ((place_at ws i).mark ≡ 1 → ⊥) → r ≡ answer 8 key 0 0 → Meets (row_out (Find key) ws) r ws
    unfolding operation_book on_book_key book_in find_book
    find_dead f dead a = refuses (Find key) (KeyNotLive key 0) r (rw (good, found_there ws key i f, ne_eqb (place_at ws i).mark 1 dead) refl) a

    pub find_live : Found ws key i → (place_at ws i).mark ≡ 1 → r ≡ answer 0 key (place_at ws i).value 0 → Meets (row_out (Find key) ws) r ws
    unfolding operation_book on_book_key book_in find_book
    find_live f live a =
        does (Find key) key (place_at ws i).value 0 (book_in ws) r ws (rw (good, found_there ws key i f, live) refl) a (row_written ws e)

    pub finish_none : Missing ws key i → r ≡ answer 8 key 0 0 → Meets (row_out (Finish key) ws) r ws
    unfolding operation_book on_book_key book_in finish_book
    finish_none m a = refuses (Finish key) (KeyNotStanding key) r (rw (good, found_nowhere ws key (get_or ws 1 0) rise i m) refl) a

    pub finish_there : Found ws key i → r ≡ answer 0 key 0 0 → Meets (row_out (Finish key) ws) r ws
    unfolding operation_book on_book_key book_in finish_book
    finish_there f a = does (Finish key) key 0 0 (book_in ws) r ws (rw (good, found_there ws key i f) refl) a (row_written ws e)

  -- take and sweep, by how many dead keys stand before the first live one

  module _ (i : ℕ) (is : length (dead_before (book_in ws).row) ≡ i) (r : Answer) where
    live_on_lem : live_on (book_in ws).row ≡ drop i (book_in ws).row
    live_on_lem = rw (sym is) (live_dropped (book_in ws).row)

    dead_before_lem : dead_before (book_in ws).row ≡ take i (book_in ws).row
    dead_before_lem = rw (sym is) (dead_taken (book_in ws).row)

    pub take_none :
        i ≡ get_or ws 3 0 → r ≡ answer 7 0 0 (standing_above (get_or ws 4 0) (take i (book_in ws).row)) → Meets (row_out Take ws) r ws
    unfolding operation_book book_in take_book
    take_none all a =
        refuses Take (NothingLive (standing_above (get_or ws 4 0) (take i (book_in ws).row))) r
        (rw (live_on_lem, keys_end ws i (omega arith), take_all i (book_in ws).row (omega (arith, read_length ws))) refl) a

    pub take_live :
        (put : List ℕ) → i < get_or ws 3 0 →
        let key = (place_at ws i).key in
        r ≡ answer 0 key (place_at ws i).value (standing_above (get_or ws 4 0) (take (i + 1) (book_in ws).row)) →
        put ≡ sets ws (word_of i) (key ∷ 0 ∷ 2 ∷ []) → Meets (row_out Take ws) r (set put 4 key)
    unfolding operation_book book_in take_book
    take_live put h a put_is =
        let row = (book_in ws).row in
        let key = (place_at ws i).key in
        let within : i < length row = omega (arith, read_length ws) in
        let key_is : (get_or row i (key_in ws i)).key ≡ key = ap (λ x. x.key) (read_at ws i (key_in ws i) h) in
        let passed : standing_between (get_or ws 4 0) key row ≡ standing_above (get_or ws 4 0) (take (i + 1) row) =
        rw (add-one i) (rw key_is at (between_up_to 0 (get_or ws 4 0) (get_or ws 1 0) row i (key_in ws i) rise within)) in
        let taken : marked key 0 false row ≡ set row i (standing_key key 0 false) =
        rw key_is at (marked_at 0 (get_or ws 1 0) row i 0 false (key_in ws i) rise within) in
        does Take key (place_at ws i).value (standing_above (get_or ws 4 0) (take (i + 1) row)) (with_row (book_in ws) (set row i (standing_key key 0 false)) key) r
        (set put 4 key) (rw (live_on_lem, read_from_lem ws i h, passed, taken) refl) a (rw put_is (row_put_at ws e i (standing_key key 0 false) key h))

    pub sweep_none : i ≡ 0 → r ≡ answer 0 0 0 0 → Meets (row_out Sweep ws) r (set ws 4 0)
    unfolding operation_book sweep_book last_only last_in
    sweep_none zero_is a =
        does Sweep 0 0 0 (with_row (book_in ws) (book_in ws).row 0) r (set ws 4 0) (rw (dead_before_lem, live_on_lem, zero_is) refl) a (row_placed ws e 0)

    pub sweep_some :
        (position : ℕ) (freed : List ℕ) → 0 < i → r ≡ answer 0 0 0 (i - 1) → freed ≡ with_keys ws (drop (i - 1) (book_in ws).row) →
        position ≡ (place_at ws (i - 1)).key → Meets (row_out Sweep ws) r (set freed 4 position)
    unfolding operation_book sweep_book
    sweep_some position freed some_dead a freed_is at =
        let j = i - 1 in
        let row = (book_in ws).row in
        let next : i ≡ suc j = omega arith in
        let within : j < length row = omega (arith, dead_within row) in
        let key_is : (get_or row j (key_in ws j)).key ≡ (place_at ws j).key = ap (λ x. x.key) (read_at ws j (key_in ws j) (omega (arith, read_length ws))) in
        let dead : dead_before row ≡ take (suc j) row = dead_before_lem ∙ ap (λ m. take m row) next in
        let live : live_on row ≡ drop (suc j) row = live_on_lem ∙ ap (λ m. drop m row) next in
        does Sweep 0 0 j (with_row (book_in ws) (drop j row) (place_at ws j).key) r (set freed 4 position)
        (rw (dead, live, others_length row j within, last_kept row j within, last_before row j (key_in ws j) within, key_is) refl) a
        (rw (freed_is, at) (position_put (get_or ws 0 0) (with_row (book_in ws) (drop j row) (book_in ws).position) (place_at ws j).key))
