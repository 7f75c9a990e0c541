-- What each call does to a state in order, and what it answers: the words after it are the picture of a state in order of the same length, and its book
-- is what the call's effect makes of the book; the answer is the book's, but for looked and the links moved.
use Rattle.std.specs.Prelude.{Option, None, Some}
use mathlib.Core.Path.{◌≡◌, refl, sym, ◌∙◌, ap, subst}
use mathlib.Core.Bool.{Bool, true, false, cond, ◌&&◌, false≢true}
use mathlib.Core.List.{List, [], ◌∷◌, map}
use Prim.Native.Nat.{ℕ, suc, ◌≤◌, ◌<◌}
use native.Mathlib.Omega.{arith}
use lib.Dec.{eqb}
use lib.ListN.{length}
use borrow.Author.Tests.{eq-eqb, ne_eqb, eqb-true, eqb-false, le-leb, lt-leb}
use Rattle.settings.specs.Numbers.{in_range, is_key, length_of}
use Rattle.settings.specs.declared.Settings.{Settings}
use Rattle.lists.specs.Lists.{those}
use Rattle.lists.proofs.Tests.{cond_has}
use Rattle.answers.specs.declared.Answer.{Answer}
use Rattle.answers.specs.Refusals.{Outcome, answer, answer_of}
use Rattle.answers.specs.declared.Refusal.TheVariants.{OutOfRange, WrongLength}
use Rattle.answers.specs.declared.Operation.{Operation}
use Rattle.answers.specs.declared.Operation.TheVariants.{Insert, Find, Finish, Take, Sweep}
use Rattle.book.specs.Book.{StandingKey, standing_key, Book, standing_at, on_book_key, find_book, finish_book, operation_book}
use Rattle.files.specs.Files as files
use Rattle.files.specs.Files.{Pair, file_length, settings_in, contents_of}
use Rattle.files.proofs.Files.{file_keeps}
use Rattle.files.proofs.Written.{file_length_lem}
use Rattle.meaning.specs.State.{State, key_of}
use Rattle.meaning.specs.Picture.{picture}
use Rattle.meaning.specs.Reading.{settings_at, is_list}
use Rattle.meaning.specs.Operations.{fresh, set_up_out, operation_out}
use Rattle.calls.specs.Pairs.{live_pairs}
use Rattle.calls.specs.Records.{Lent, Asked, nothing, insertion, asked_out}
use Rattle.calls.specs.Saved.{FileLent, file_lent, write_out, read_out}
use Rattle.calls.specs.Calls.{outcome, Made, lending, made_on}
use Rattle.calls.specs.Effects.{Effect, keeping, renewing, operation_effect, asked_effect, file_effect, effect_of, asked_in}
use Rattle.calls.specs.Effects.{effect, keeps_settings}
use Rattle.calls.specs.Book.{booked_by, uncounted, without_search, call_without_search, set_up_reply, asked_reply, write_reply, read_reply, reply_to_call, reply_to}
use Rattle.calls.specs.Layer.ReadState.{nodes_from, read_state}
use Rattle.calls.specs.declared.Call.TheVariants.{SetUp, Operate, Record, Write, Read}
use Rattle.calls.specs.declared.Call.{Call}
use Rattle.meaning.proofs.Pictures.State.{Sound}
use Rattle.meaning.proofs.Pictures.Picture.{picture_length}
use Rattle.meaning.proofs.Pictures.ReadBack.{read_of_picture, picture_is_list}
use Rattle.meaning.proofs.Kept.KeepsState.{position_head}
use Rattle.meaning.proofs.Kept.KeepsSetUp.{fresh_sound}
use Rattle.meaning.proofs.Outcomes.{set_up_outcome_out_of_range, set_up_outcome_wrong_length, set_up_outcome}
use Rattle.calls.proofs.Ends.{record_asks}
use Rattle.calls.proofs.Booked.BookRow.{standing_in, pairs_in, pairs_counted}
use Rattle.calls.proofs.Booked.BookOperations.{book_in, state_booked}
use Rattle.calls.proofs.Restarted.ReadIn.{read_state_sound}
use Rattle.calls.proofs.Restarted.Saved.{file_for, write_keeps_words, write_outcome_no_room, write_outcome, room_cases, read_outcome_bad_file}
use Rattle.calls.proofs.Restarted.Saved.{read_outcome_wrong_length, read_outcome, read_cases, read_leaves}

-- The words that a call of this effect leaves are those of a state in order, with the book that it makes, and with the settings that it had if it keeps
-- them; and what it answers, without a search, is the book's reply.
pub record Booking (s : State) (effect : Effect) (words : List ℕ) (answered reply : Answer) : Type 0 where
  pub after : State
  pub sound : Sound after
  pub left : words ≡ picture after
  pub long : length (picture after) ≡ length (picture s)
  pub book : book_in after ≡ booked_by effect (book_in s)
  pub settings : keeps_settings effect ≡ true → after.settings ≡ s.settings
  pub replies : answered ≡ reply

-- a call that writes nothing
still : (s : State) → Sound s → (words : List ℕ) (answered reply : Answer) → words ≡ picture s → answered ≡ reply → Booking s keeping words answered reply
unfolding booked_by
still s v words answered reply same replies =
    record { after = s; sound = v; left = same; long = refl; book = refl; settings = λ e. refl; replies = replies }

-- a call that keeps the settings keeps the length
same_length : (s t : State) → t.settings ≡ s.settings → length (picture t) ≡ length (picture s)
same_length s t e = picture_length t ∙ ap (λ n. length_of n.dimensions n.cells) e ∙ sym (picture_length s)

-- Set up

module _ (D K C : ℕ) (s : State) (v : Sound s) where
  abbrev long : ℕ
  long = length (picture s)

  abbrev o : Outcome (List ℕ)
  o = set_up_out D K C (picture s)

  set_up_booked : Booking s (cond (in_range D K C && eqb long (length_of D C)) (renewing K C []) keeping) o.left o.answered (set_up_reply D K C long)
  unfolding booked_by fresh key_of
  set_up_booked = at (in_range D K C) (eqb long (length_of D C)) refl refl
    where
      at : (t u : Bool) → in_range D K C ≡ t → eqb long (length_of D C) ≡ u →
          Booking s (cond (t && u) (renewing K C []) keeping) o.left o.answered (cond t (cond u (answer 0 0 0 0) (answer_of WrongLength)) (answer_of OutOfRange))
      at false u e f =
          let q = set_up_outcome_out_of_range D K C (picture s) e in
          still s v o.left o.answered (answer_of OutOfRange) (ap (λ p. p.left) q) (ap (λ p. p.answered) q)
      at true false e f =
          let q = set_up_outcome_wrong_length D K C (picture s) e (eqb-false long (length_of D C) f) in
          still s v o.left o.answered (answer_of WrongLength) (ap (λ p. p.left) q) (ap (λ p. p.answered) q)
      at true true e f =
          let exact = eqb-true long (length_of D C) f in
          let q = set_up_outcome D K C (picture s) e exact in
          record {
            after = fresh D K C;
            sound = fresh_sound D K C e;
            left = ap (λ p. p.left) q;
            long = picture_length (fresh D K C) ∙ sym exact;
            book = refl;
            settings = λ keeps. absurd (false≢true keeps);
            replies = ap (λ p. p.answered) q;
          }

-- Any of the five

find_keeps : (key : ℕ) (k : Book) → (operation_book (Find key) k).left ≡ k
unfolding operation_book on_book_key find_book
find_keeps key k = cond_has (λ (o : Outcome Book). o.left ≡ k) (is_key k.largest key) _ _ (at (standing_at key k.row)) refl
  where
    at : (x : Option StandingKey) → (find_book key k x).left ≡ k
    at None = refl
    at (Some x) = cond_has (λ (o : Outcome Book). o.left ≡ k) x.live _ _ refl refl

finish_keeps : (key : ℕ) (k : Book) → (operation_book (Finish key) k).left ≡ k
unfolding operation_book on_book_key finish_book
finish_keeps key k = cond_has (λ (o : Outcome Book). o.left ≡ k) (is_key k.largest key) _ _ (at (standing_at key k.row)) refl
  where
    at : (x : Option StandingKey) → (finish_book key k x).left ≡ k
    at None = refl
    at (Some x) = refl

-- what an operation leaves of a book is what its effect makes of it
pub operation_effect_lem : (operation : Operation) (k : Book) → (operation_book operation k).left ≡ booked_by (operation_effect operation) k
unfolding booked_by
operation_effect_lem (Insert key value) k = refl
operation_effect_lem (Find key) k = find_keeps key k
operation_effect_lem (Finish key) k = finish_keeps key k
operation_effect_lem Take k = refl
operation_effect_lem Sweep k = refl

operated_booked : (operation : Operation) (s : State) → Sound s →
    let o = operation_out operation (picture s) in
    Booking s (operation_effect operation) o.left (without_search operation o.answered) (operation_book operation (book_in s)).answered
operated_booked operation s v =
    let r = state_booked operation s v in
    record {
      after = r.after;
      sound = r.sound;
      left = r.left;
      long = same_length s r.after r.settings;
      book = r.book ∙ operation_effect_lem operation (book_in s);
      settings = λ keeps. r.settings;
      replies = r.answered;
    }

-- Record

asked_booked : (made : Made) (asked : Asked) (s : State) → Sound s →
    let o = asked_out (lending made (picture s)) asked in
    Booking s (asked_effect asked) o.left.words (uncounted o.answered) (asked_reply asked (book_in s))
asked_booked made (nothing refusal) s v = still s v (picture s) (uncounted (answer_of refusal)) (uncounted (answer_of refusal)) refl refl
asked_booked made (insertion key number) s v = operated_booked (Insert key number) s v

-- Write

module _ (bytes : List ℕ) (s : State) (v : Sound s) where
  abbrev lent : FileLent
  lent = file_lent (picture s) bytes

  abbrev size : ℕ
  size = file_length (length (those (λ x. x.live) (standing_in s.row)))

  -- the file is as long as the live keys say
  file_size : length (file_for (picture s)) ≡ size
  file_size =
      file_length_lem (settings_at (picture s)) (live_pairs (picture s))
      ∙ ap (λ t. file_length (length (pairs_in t.row))) (read_of_picture s v)
      ∙ ap file_length (sym (pairs_counted s.row))

  write_booked : Booking s keeping (write_out lent).left.words (write_out lent).answered (write_reply size (length bytes))
  write_booked = still s v _ _ _ (write_keeps_words lent) (room_cases lent small enough)
    where
      list : is_list (picture s) ≡ true
      list = picture_is_list s v

      small : length bytes < length (file_for (picture s)) → (write_out lent).answered ≡ write_reply size (length bytes)
      small h = ap (λ o. o.answered) (write_outcome_no_room lent list h) ∙ rw (lt-leb size (length bytes) (omega (arith, file_size, h))) refl

      enough : length (file_for (picture s)) ≤ length bytes → (write_out lent).answered ≡ write_reply size (length bytes)
      enough h =
          ap (λ o. o.answered) (write_outcome lent list h) ∙ ap (answer 0 0 0) file_size
          ∙ rw (le-leb size (length bytes) (omega (arith, file_size, h))) refl

-- Read

-- the nodes of some pairs, as a book tells of them
nodes_standing : (c : ℕ) (pairs : List Pair) → standing_in (nodes_from c pairs) ≡ map (λ p. standing_key p.key p.value true) pairs
unfolding nodes_from
nodes_standing c [] = refl
nodes_standing c (p ∷ pairs) = ap {B = List StandingKey} (λ r. standing_key p.key p.value true ∷ r) (nodes_standing (suc c) pairs)

read_booked : (bytes : List ℕ) (s : State) → Sound s →
    let o = read_out (file_lent (picture s) bytes) in
    Booking s (file_effect (contents_of bytes) (files.pairs_in bytes) (length (picture s))) o.left.words o.answered (read_reply (contents_of bytes) (length (picture s)))
unfolding booked_by contents_of read_state
read_booked bytes s v =
    read_cases lent
    (λ e. let q = read_outcome_bad_file lent e in rw e (still s v _ _ _ (ap (λ o. o.left.words) q) (ap (λ o. o.answered) q)))
    (λ e ne.
    let q = read_outcome_wrong_length lent e ne in
    rw (e, ne_eqb (length (picture s)) (length_of kept.dimensions kept.cells) ne)
    (still s v _ _ _ (ap (λ o. o.left.words) q) (ap (λ o. o.answered) q)))
    (λ e exact.
    let t = read_state kept pairs in
    rw (e, eq-eqb (length (picture s)) (length_of kept.dimensions kept.cells) exact)
    (record {
      after = t;
      sound = read_state_sound kept pairs (file_keeps bytes e) refl;
      left = read_leaves lent e exact;
      long = picture_length t ∙ sym exact;
      book = λ i. record { largest = kept.largest; cells = kept.cells; row = nodes_standing 1 pairs i; position = position_head t refl i };
      settings = λ keeps. absurd (false≢true keeps);
      replies = ap (λ o. o.answered) (read_outcome lent e exact);
    }))
  where
    lent : FileLent
    lent = file_lent (picture s) bytes

    kept : Settings
    kept = settings_in bytes

    pairs : List Pair
    pairs = files.pairs_in bytes

-- Every call

pub call_booked : (made : Made) (s : State) → Sound s →
    let o = made_on made (picture s) in
    let long = length (picture s) in
    Booking s (effect made long) o.left.words (call_without_search made.call o.answered) (reply_to made long (book_in s))
unfolding outcome reply_to_call
call_booked made s v = at made.call
  where
    at : (call : Call) →
        let o = outcome call (lending made (picture s)) in
        let long = length (picture s) in
        Booking s (effect_of call (asked_in made) made.bytes long) o.left.words (call_without_search call o.answered)
        (reply_to_call call (asked_in made) made.bytes long (book_in s))
    at (SetUp D K C) = set_up_booked D K C s v
    at (Operate operation) = operated_booked operation s v
    at Record =
        subst (λ (o : Outcome Lent). Booking s (asked_effect (asked_in made)) o.left.words (uncounted o.answered) (asked_reply (asked_in made) (book_in s)))
        (sym (record_asks (lending made (picture s)) (picture_is_list s v)))
        (asked_booked made (asked_in made) s v)
    at Write = write_booked made.bytes s v
    at Read = read_booked made.bytes s v
