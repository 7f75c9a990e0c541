-- What a run of takes costs, by the book. A take moves the position up and passes the standing keys on the way; no other call of a run moves it, and none
-- changes which keys stand, so what is passed from one position to the next adds up. An insert adds to what is ahead; how much one at or below the
-- position adds follows from the take that would come next, which passes the key alone.
use Rattle.settings.specs.declared.Settings.{Settings}
use Rattle.std.specs.Prelude.{None, Some, Option}
use mathlib.Core.Path.{◌≡◌, refl, sym, ap, ◌∙◌, subst, subst₂}
use mathlib.Core.Bool.{Bool, true, false, cond, ◌&&◌, ◌||◌, not, false≢true, true≢false}
use mathlib.Core.List.{List, [], ◌∷◌, cons≢nil}
use Prim.Native.Nat.{ℕ, suc, ◌+◌, ◌≤◌, ◌<◌}
use native.Mathlib.Decide.{ℕ_discrete, dec_le}
use native.Mathlib.Omega.{arith}
use lib.Dec.{eqb, leb, ltb}
use lib.ListN.{length, length-map}
use borrow.Author.Tests.{eq-eqb, ne_eqb, eqb-true, lt-ltb, le-ltb, le-leb, lt-leb}
use Rattle.settings.specs.Numbers.{is_key, in_range, length_of}
use Rattle.lists.specs.Lists.{those}
use Rattle.lists.proofs.All.{All, all_each, all_mapped}
use Rattle.lists.proofs.Tests.{both}
use Rattle.lists.proofs.Those.{those_map, those_most, those_same}
use Rattle.answers.specs.declared.Answer.{Answer}
use Rattle.answers.specs.Refusals.{Outcome, accepted, answer, refused}
use Rattle.answers.specs.declared.Refusal.TheVariants.{BadKey, KeyLive, NoFreeCell}
use Rattle.answers.specs.declared.Operation.{Operation}
use Rattle.answers.specs.declared.Operation.TheVariants.{Insert, Find, Finish, Take, Sweep}
use Rattle.book.specs.Book.{StandingKey, standing_key, Book, standing_at, on_book_key, put_key, marked, position_with, insert_book, live_on, standing_above, standing_between}
use Rattle.book.specs.Book.{key_below, with_row, take_book, operation_book}
use Rattle.files.specs.Files.{pairs_in, contents_of}
use Rattle.meaning.specs.Words.{key_at, position_at}
use Rattle.meaning.specs.Reading.{read, is_list}
use Rattle.meaning.specs.Operations.{insert_out, operation_out}
use Rattle.calls.specs.Records.{Lent, Asked, nothing, insertion, asked_out}
use Rattle.calls.specs.Calls.{outcome, Made, operated, lending, made_on, after_calls}
use Rattle.calls.specs.Effects.{Effect, keeping, inserting, taking, sweeping, renewing, operation_effect, asked_effect, file_effect, effect_of, asked_in}
use Rattle.calls.specs.Effects.{effect}
use Rattle.calls.specs.Book.{standing_key_of, book_of, booked_by, booked_all}
use Rattle.calls.specs.Runs.{passed_in, passed_sum, only_of, of_run, of_run_with_inserts, keys_ahead, adds_above, insert_adds, effect_adds, added_sum}
use Rattle.calls.specs.Promises.{RunPasses, RunPassesAtMost, RunWithInsertsPasses}
use Rattle.calls.specs.declared.Call.TheVariants.{SetUp, Operate, Record, Write, Read}
use Rattle.calls.specs.declared.Call.{Call}
use Rattle.meaning.proofs.Pictures.ReadBack.{list_sound, list_is_picture}
use Rattle.meaning.proofs.BothWays.Sentences.{position_key_is}
use Rattle.meaning.proofs.Promised.FallsBack.{late_inserts}
use Rattle.calls.proofs.Ends.{record_asks, refused_alters_nothing}
use Rattle.calls.proofs.Booked.Book.{calls_keep_lists, operation_booked, calls_are_booked}

-- Counting standing keys

-- those above p are those up to q and those above q
above_split : (p q : ℕ) (row : List StandingKey) → p ≤ q → standing_above p row ≡ standing_between p q row + standing_above q row
unfolding those
above_split p q [] h = refl
above_split p q (x ∷ row) h = at (dec_le x.key p) (dec_le x.key q) (above_split p q row h)
  where
    at : Dec (x.key ≤ p) → Dec (x.key ≤ q) → standing_above p row ≡ standing_between p q row + standing_above q row →
        standing_above p (x ∷ row) ≡ standing_between p q (x ∷ row) + standing_above q (x ∷ row)
    at (yes a) (yes b) more = rw (le-ltb p x.key a, le-ltb q x.key b) more
    at (yes a) (no b) more = absurd (omega arith)
    at (no a) (yes b) more =
        let l : p < x.key = omega arith in
        rw (lt-ltb p x.key l, le-leb x.key q b, le-ltb q x.key b) (omega arith)
    at (no a) (no b) more =
        let l : p < x.key = omega arith in
        let m : q < x.key = omega arith in
        rw (lt-ltb p x.key l, lt-leb x.key q m, lt-ltb q x.key m) (omega arith)

-- so what lies between positions adds up,
between_adds : (p q r : ℕ) (row : List StandingKey) → p ≤ q → q ≤ r → standing_between p q row + standing_between q r row ≡ standing_between p r row
between_adds p q r row h l =
    omega (arith, above_split p q row h, above_split q r row l, above_split p r row (omega arith))

-- .. and nothing lies between a position and itself
between_none : (p : ℕ) (row : List StandingKey) → standing_between p p row ≡ 0
between_none p row = omega (arith, above_split p p row (omega arith))

-- a member counts if the test holds for it
counts_first : (test : StandingKey → Bool) (x : StandingKey) (row : List StandingKey) → length (those test (x ∷ row)) ≡ cond (test x) 1 0 + length (those test row)
unfolding those
counts_first test x row = at (test x)
  where
    at : (t : Bool) → length (cond t (x ∷ those test row) (those test row)) ≡ cond t 1 0 + length (those test row)
    at true = omega arith
    at false = omega arith

-- .. wherever it is put
counts_put : (test : StandingKey → Bool) (x : StandingKey) (row : List StandingKey) →
    length (those test (put_key x row)) ≡ cond (test x) 1 0 + length (those test row)
unfolding put_key
counts_put test x [] = counts_first test x []
counts_put test x (y ∷ row) = at (leb x.key y.key) (counts_put test x row)
  where
    at : (t : Bool) → length (those test (put_key x row)) ≡ cond (test x) 1 0 + length (those test row) →
        length (those test (cond t (x ∷ y ∷ row) (y ∷ put_key x row))) ≡ cond (test x) 1 0 + length (those test (y ∷ row))
    at true more = counts_first test x (y ∷ row)
    at false more = omega (arith, counts_first test y (put_key x row), counts_first test y row)

-- another value and mark change no key
counts_marked : (test : ℕ → Bool) (key value : ℕ) (live : Bool) (row : List StandingKey) →
    length (those (λ x. test x.key) (marked key value live row)) ≡ length (those (λ x. test x.key) row)
unfolding marked
counts_marked test key value live row =
    ap (λ (r : List StandingKey). length r) (those_map mark (λ x. test x.key) row)
    ∙ length-map (those (λ x. test (mark x).key) row) mark
    ∙ ap (λ (r : List StandingKey). length r) (those_same (λ x. test (mark x).key) (λ x. test x.key) row
    (all_each (λ x. ap test (same x (eqb x.key key) refl)) row))
  where
    mark : StandingKey → StandingKey
    mark x = cond (eqb x.key key) (standing_key key value live) x

    same : (x : StandingKey) (t : Bool) → eqb x.key key ≡ t → (cond t (standing_key key value live) x).key ≡ x.key
    same x true e = sym (eqb-true x.key key e)
    same x false e = refl

-- A call of a run, and a whole run: the same keys stand, the position does not fall, and what is passed are the keys from where it was to where
-- it is.
record Moved (k j : Book) (passed : ℕ) : Type 0 where
  keys : (test : ℕ → Bool) → length (those (λ x. test x.key) j.row) ≡ length (those (λ x. test x.key) k.row)
  onward : k.position ≤ j.position
  sum : passed ≡ standing_between k.position j.position k.row

moved_nowhere : (k j : Book) (passed : ℕ) → j ≡ k → passed ≡ 0 → Moved k j passed
moved_nowhere k j passed same nothing-passed =
    subst₂ (Moved k) (sym same) (sym nothing-passed)
    (record { keys = λ test. refl; onward = omega arith; sum = sym (between_none k.position k.row) })

-- one after the other
moved_onward : (k j i : Book) (m n : ℕ) → Moved k j m → Moved j i n → Moved k i (m + n)
moved_onward k j i m n a c =
    let first = a.onward in
    let second = c.onward in
    let more = c.sum ∙ a.keys (λ key. ltb j.position key && leb key i.position) in
    record {
      keys = λ test. c.keys test ∙ a.keys test;
      onward = omega arith;
      sum = omega (arith, a.sum, more, between_adds k.position j.position i.position k.row first second);
    }

-- Take

-- The position 1: keys up to the position are dead
Dead : Book → StandingKey → Type 0
Dead k x = x.key ≤ k.position → x.live ≡ false

list_dead : (ws : List ℕ) → is_list ws ≡ true → All (Dead (book_of ws)) (book_of ws).row
unfolding Dead
list_dead ws list = all_mapped (Dead (book_of ws)) standing_key_of (read ws).row (list_sound ws list).dead

-- so the first live key is above it
first_above_lem : (k : Book) (row : List StandingKey) → All (Dead k) row → (x : StandingKey) (later : List StandingKey) → live_on row ≡ x ∷ later → k.position < x.key
unfolding live_on Dead
first_above_lem k [] dead x later e = absurd (cons≢nil (sym e))
first_above_lem k (y ∷ row) dead x later e = at y.live refl e (first_above_lem k row dead.1 x later) (dec_le y.key k.position)
  where
    at : (t : Bool) → y.live ≡ t → cond t (y ∷ row) (live_on row) ≡ x ∷ later → (live_on row ≡ x ∷ later → k.position < x.key) → Dec (y.key ≤ k.position) →
        k.position < x.key
    at true live q more (yes h) = absurd (true≢false (sym live ∙ dead.0 h))
    at true live q more (no h) = let same : y ≡ x = cc in subst (λ z. k.position < z.key) same (omega arith)
    at false live q more d = more q

-- what a successful take passes
abbrev passed_by : Answer → ℕ
passed_by a = passed_in taking a

take_moved : (k : Book) → All (Dead k) k.row → Moved k (operation_book Take k).left (passed_by (operation_book Take k).answered)
unfolding operation_book take_book
take_moved k dead = at (live_on k.row) refl
  where
    at : (rest : List StandingKey) → live_on k.row ≡ rest → Moved k (take_book k rest).left (passed_by (take_book k rest).answered)
    at [] e = moved_nowhere k k 0 refl refl
    at (x ∷ later) e =
        let up = first_above_lem k k.row dead x later e in
        record { keys = λ test. counts_marked test x.key 0 false k.row; onward = omega arith; sum = refl }

-- Every call of a run

-- an accepted call is of the kinds that a sequence is restricted to
kind_accepted : (kind : Bool) (refusal : ℕ) → (kind || not (eqb refusal 0)) ≡ true → refusal ≡ 0 → kind ≡ true
kind_accepted true refusal ok z = refl
kind_accepted false refusal ok z = sym (ap not (eq-eqb refusal 0 z)) ∙ ok

-- What a call of this effect on the words ws answers. Of the other effects no run needs to know anything.
abbrev Says : Effect → List ℕ → Answer → Type 0
Says keeping ws a = ws ≡ ws
Says (inserting key value) ws a = a.refusal ≡ (insert_out ws key value).answered.refusal
Says taking ws a = a ≡ (operation_book Take (book_of ws)).answered
Says sweeping ws a = ws ≡ ws
Says (renewing largest cells pairs) ws a = ws ≡ ws

operation_says : (operation : Operation) (ws : List ℕ) → is_list ws ≡ true → Says (operation_effect operation) ws (operation_out operation ws).answered
operation_says (Insert key value) ws list = refl
operation_says (Find key) ws list = refl
operation_says (Finish key) ws list = refl
operation_says Take ws list = (operation_booked Take ws list).1
operation_says Sweep ws list = refl

asked_says : (lent : Lent) (asked : Asked) → Says (asked_effect asked) lent.words (asked_out lent asked).answered
asked_says lent (nothing r) = refl
asked_says lent (insertion key number) = refl

call_says : (made : Made) (ws : List ℕ) → is_list ws ≡ true → Says (effect made (length ws)) ws (made_on made ws).answered
unfolding outcome
call_says made ws list = at made.call
  where
    lent : Lent
    lent = lending made ws

    renews : (t : Bool) (e : Effect) (a : Answer) → Says e ws a → Says (cond t e keeping) ws a
    renews true e a says = says
    renews false e a says = refl

    reads : (c : Option (Settings × ℕ)) (a : Answer) → Says (file_effect c (pairs_in made.bytes) (length ws)) ws a
    reads (Some (s, n)) a = renews (eqb (length ws) (length_of s.dimensions s.cells)) (renewing s.largest s.cells (pairs_in made.bytes)) a refl
    reads None a = refl

    at : (call : Call) → Says (effect_of call (asked_in made) made.bytes (length ws)) ws (outcome call lent).answered
    at (SetUp D K C) = renews (in_range D K C && eqb (length ws) (length_of D C)) (renewing K C []) _ refl
    at (Operate operation) = operation_says operation ws list
    at Record =
        subst (λ (o : Outcome Lent). Says (asked_effect (asked_in made)) ws o.answered) (sym (record_asks lent list)) (asked_says lent (asked_in made))
    at Write = refl
    at Read = reads (contents_of made.bytes) _

-- the book after a call
call_book : (made : Made) (ws : List ℕ) → is_list ws ≡ true → book_of (made_on made ws).left.words ≡ booked_by (effect made (length ws)) (book_of ws)
unfolding after_calls booked_all
call_book made ws list = calls_are_booked (made ∷ []) ws list

-- a refused call passes nothing
passed_refused : (e : Effect) (a : Answer) → (a.refusal ≡ 0 → ⊥) → passed_in e a ≡ 0
passed_refused keeping a ne = refl
passed_refused (inserting key value) a ne = refl
passed_refused taking a ne = ap (λ t. cond t a.count 0) (ne_eqb a.refusal 0 ne)
passed_refused sweeping a ne = refl
passed_refused (renewing largest cells pairs) a ne = refl

refused_moved : (made : Made) (ws : List ℕ) (e : Effect) → ((made_on made ws).answered.refusal ≡ 0 → ⊥) →
    Moved (book_of ws) (book_of (made_on made ws).left.words) (passed_in e (made_on made ws).answered)
refused_moved made ws e ne =
    moved_nowhere (book_of ws) _ _ (ap (λ (l : Lent). book_of l.words) (refused_alters_nothing made.call (lending made ws) ne))
    (passed_refused e (made_on made ws).answered ne)

-- takes, finds, finishes and writes
effect_moved : (e : Effect) (ws : List ℕ) (a : Answer) → is_list ws ≡ true → of_run e ≡ true → Says e ws a → Moved (book_of ws) (booked_by e (book_of ws)) (passed_in e a)
unfolding booked_by
effect_moved keeping ws a list kind says = moved_nowhere (book_of ws) (book_of ws) 0 refl refl
effect_moved (inserting key value) ws a list kind says = absurd (false≢true kind)
effect_moved taking ws a list kind says =
    subst (λ n. Moved (book_of ws) (operation_book Take (book_of ws)).left n) (ap passed_by (sym says)) (take_moved (book_of ws) (list_dead ws list))
effect_moved sweeping ws a list kind says = absurd (false≢true kind)
effect_moved (renewing largest cells pairs) ws a list kind says = absurd (false≢true kind)

call_moved : (made : Made) (ws : List ℕ) → is_list ws ≡ true → (of_run (effect made (length ws)) || not (eqb (made_on made ws).answered.refusal 0)) ≡ true →
    Moved (book_of ws) (book_of (made_on made ws).left.words) (passed_in (effect made (length ws)) (made_on made ws).answered)
call_moved made ws list ok = at (ℕ_discrete (made_on made ws).answered.refusal 0)
  where
    e : Effect
    e = effect made (length ws)

    at : Dec ((made_on made ws).answered.refusal ≡ 0) →
        Moved (book_of ws) (book_of (made_on made ws).left.words) (passed_in e (made_on made ws).answered)
    at (yes z) =
        subst (λ k. Moved (book_of ws) k (passed_in e (made_on made ws).answered)) (sym (call_book made ws list))
        (effect_moved e ws _ list (kind_accepted (of_run e) (made_on made ws).answered.refusal ok z) (call_says made ws list))
    at (no ne) = refused_moved made ws e ne

run_moved : (calls : List Made) (ws : List ℕ) → is_list ws ≡ true → only_of of_run calls ws ≡ true →
    Moved (book_of ws) (book_of (after_calls calls ws)) (passed_sum calls ws)
unfolding after_calls passed_sum only_of
run_moved [] ws list ok = moved_nowhere (book_of ws) (book_of ws) 0 refl refl
run_moved (made ∷ calls) ws list ok =
    let us = (made_on made ws).left.words in
    let (first, others) = both (of_run (effect made (length ws)) || not (eqb (made_on made ws).answered.refusal 0)) (only_of of_run calls us) ok in
    moved_onward (book_of ws) (book_of us) (book_of (after_calls calls us)) _ _ (call_moved made ws list first)
    (run_moved calls us (calls_keep_lists made ws list) others)

pub run_passes : RunPasses
run_passes calls ws list ok = (run_moved calls ws list ok).sum

pub run_passes_at_most : RunPassesAtMost
run_passes_at_most calls ws list ok =
    omega (
      arith,
      run_passes calls ws list ok,
      those_most (λ x. ltb (book_of ws).position x.key && leb x.key (book_of (after_calls calls ws)).position) (book_of ws).row,
    )

-- With inserts

-- how many standing keys above q an accepted insert adds: its key, if that is new and above q
abbrev adds_at : ℕ → ℕ → Option StandingKey → ℕ
adds_at q key None = cond (ltb q key) 1 0
adds_at q key (Some x) = 0

record Inserts (key : ℕ) (k j : Book) : Type 0 where
  counted : (q : ℕ) → standing_above q j.row ≡ adds_at q key (standing_at key k.row) + standing_above q k.row
  position : j.position ≡ position_with key k

book_inserts : (key value : ℕ) (k : Book) → (operation_book (Insert key value) k).answered.refusal ≡ 0 → Inserts key k (operation_book (Insert key value) k).left
unfolding operation_book on_book_key insert_book
book_inserts key value k z = at (is_key k.largest key) (standing_at key k.row) refl z
  where
    given : StandingKey
    given = standing_key key value true

    new : standing_at key k.row ≡ None → (t : Bool) →
        let o = cond t (accepted key 0 0 (with_row k (put_key given k.row) (position_with key k))) (refused (NoFreeCell key 0) k) in
        o.answered.refusal ≡ 0 → Inserts key k o.left
    new e false z = absurd (omega arith)
    new e true z =
        record {
          counted = λ q. counts_put (λ x. ltb q x.key) given k.row ∙ ap (λ o. adds_at q key o + standing_above q k.row) (sym e);
          position = refl;
        }

    again : (x : StandingKey) → standing_at key k.row ≡ Some x → (t : Bool) →
        let o = cond t (refused (KeyLive key 0) k) (accepted key 0 0 (with_row k (marked key value true k.row) (position_with key k))) in
        o.answered.refusal ≡ 0 → Inserts key k o.left
    again x e true z = absurd (omega arith)
    again x e false z =
        record {
          counted = λ q. omega (arith, counts_marked (λ i. ltb q i) key value true k.row, ap (adds_at q key) e);
          position = refl;
        }

    at : (t : Bool) (o : Option StandingKey) → standing_at key k.row ≡ o → (cond t (insert_book key value k o) (refused BadKey k)).answered.refusal ≡ 0 →
        Inserts key k (cond t (insert_book key value k o) (refused BadKey k)).left
    at false o e z = absurd (omega arith)
    at true None e z = new e (ltb (suc (length k.row)) k.cells) z
    at true (Some x) e z = again x e x.live z

-- what a take passes, where it answers this key
take_passes : (k : Book) (key value passed : ℕ) → (operation_book Take k).answered ≡ answer 0 key value passed → standing_between k.position key k.row ≡ passed
unfolding operation_book take_book
take_passes k key value passed = at (live_on k.row)
  where
    at : (rest : List StandingKey) → (take_book k rest).answered ≡ answer 0 key value passed → standing_between k.position key k.row ≡ passed
    at [] e = absurd (let r = ap (λ (a : Answer). a.refusal) e in omega arith)
    at (x ∷ later) e =
        sym (ap (λ (a : Answer). standing_between k.position a.key k.row) e) ∙ ap (λ (a : Answer). a.count) e

-- the position's key, on the words
position_words : (ws : List ℕ) → is_list ws ≡ true → key_at ws (position_at ws) ≡ (book_of ws).position
position_words ws list = ap (λ us. key_at us (position_at us)) (sym (list_is_picture ws list)) ∙ position_key_is (list_sound ws list)

-- what an accepted insert adds to the keys ahead
insert_adds_lem : (key value : ℕ) (ws : List ℕ) → is_list ws ≡ true → (insert_out ws key value).answered.refusal ≡ 0 →
    keys_ahead (operation_book (Insert key value) (book_of ws)).left ≡ keys_ahead (book_of ws) + insert_adds key (book_of ws)
unfolding outcome position_with
insert_adds_lem key value ws list z = at (dec_le key p)
  where
    k : Book
    k = book_of ws

    us : List ℕ
    us = (insert_out ws key value).left

    j : Book
    j = (operation_book (Insert key value) k).left

    p : ℕ
    p = k.position

    o : Option StandingKey
    o = standing_at key k.row

    inserts : Inserts key k j
    inserts = book_inserts key value k (sym (ap (λ (a : Answer). a.refusal) (operation_booked (Insert key value) ws list).1) ∙ z)

    -- above the position: the position stays
    later : p < key → standing_above j.position j.row ≡ standing_above p k.row + adds_above o
    later h =
        ap (λ q. standing_above q j.row) (inserts.position ∙ ap (λ t. cond t (key_below key k.row) p) (lt-leb key p h))
        ∙ omega (arith, inserts.counted p, counts o)
      where
        counts : (x : Option StandingKey) → adds_at p key x ≡ adds_above x
        counts None = ap {B = ℕ} (λ t. cond t 1 0) (lt-ltb p key h)
        counts (Some x) = refl

    -- at or below it: a take would pass the key alone, so what is ahead is the key and what is above it
    late : key ≤ p → standing_above j.position j.row ≡ standing_above p k.row + suc (standing_between key p k.row)
    late h =
        let back = late_inserts ws list key value z (omega (arith, position_words ws list)) in
        let kept : is_list us ≡ true = calls_keep_lists (operated (Insert key value)) ws list in
        let same : book_of us ≡ j = (operation_booked (Insert key value) ws list).0 in
        let one = take_passes j key value 1 (subst (λ b. (operation_book Take b).answered ≡ answer 0 key value 1) same
        (sym (operation_booked Take us kept).1 ∙ back.taken)) in
        let below : j.position < key = omega (arith, back.below, position_words us kept, ap (λ (b : Book). b.position) same) in
        omega (arith, one, above_split j.position key j.row (omega arith), inserts.counted key, not_itself o, above_split key p k.row h)
      where
        not_itself : (x : Option StandingKey) → adds_at key key x ≡ 0
        not_itself None = ap {B = ℕ} (λ t. cond t 1 0) (le-ltb key key (omega arith))
        not_itself (Some x) = refl

    at : Dec (key ≤ p) → standing_above j.position j.row ≡ standing_above p k.row + insert_adds key k
    at (yes h) = rw (le-leb key p h) (late h)
    at (no n) = let h : p < key = omega arith in rw (lt-leb key p h) (later h)

-- A call of a run with inserts: what it passes and what is ahead after it is what was ahead before it and what it adds.
abbrev Adds : Book → Book → ℕ → ℕ → Type 0
Adds k j passed adds = passed + keys_ahead j ≡ keys_ahead k + adds

moved_adds : (k j : Book) (passed : ℕ) → Moved k j passed → Adds k j passed 0
moved_adds k j passed m =
    omega (arith, m.sum, m.keys (λ key. ltb j.position key), above_split k.position j.position k.row m.onward)

effect_adds_lem : (e : Effect) (ws : List ℕ) (a : Answer) → is_list ws ≡ true → of_run_with_inserts e ≡ true → a.refusal ≡ 0 → Says e ws a →
    Adds (book_of ws) (booked_by e (book_of ws)) (passed_in e a) (effect_adds e (book_of ws))
unfolding booked_by
effect_adds_lem keeping ws a list kind z says = omega arith
effect_adds_lem (inserting key value) ws a list kind z says = omega (arith, insert_adds_lem key value ws list (sym says ∙ z))
effect_adds_lem taking ws a list kind z says = moved_adds (book_of ws) _ (passed_by a) (effect_moved taking ws a list refl says)
effect_adds_lem sweeping ws a list kind z says = absurd (false≢true kind)
effect_adds_lem (renewing largest cells pairs) ws a list kind z says = absurd (false≢true kind)

call_adds : (made : Made) (ws : List ℕ) → is_list ws ≡ true → (of_run_with_inserts (effect made (length ws)) || not (eqb (made_on made ws).answered.refusal 0)) ≡ true →
    Adds (book_of ws) (book_of (made_on made ws).left.words) (passed_in (effect made (length ws)) (made_on made ws).answered)
    (cond (eqb (made_on made ws).answered.refusal 0) (effect_adds (effect made (length ws)) (book_of ws)) 0)
call_adds made ws list ok = at (ℕ_discrete refusal 0)
  where
    refusal : ℕ
    refusal = (made_on made ws).answered.refusal

    e : Effect
    e = effect made (length ws)

    at : Dec (refusal ≡ 0) →
        Adds (book_of ws) (book_of (made_on made ws).left.words) (passed_in e (made_on made ws).answered) (cond (eqb refusal 0) (effect_adds e (book_of ws)) 0)
    at (yes z) =
        rw (eq-eqb refusal 0 z)
        (subst (λ j. Adds (book_of ws) j (passed_in e (made_on made ws).answered) (effect_adds e (book_of ws))) (sym (call_book made ws list))
        (effect_adds_lem e ws _ list (kind_accepted (of_run_with_inserts e) refusal ok z) z (call_says made ws list)))
    at (no ne) = rw (ne_eqb refusal 0 ne) (moved_adds (book_of ws) _ _ (refused_moved made ws e ne))

pub run_with_inserts_passes : RunWithInsertsPasses
unfolding after_calls passed_sum added_sum only_of
run_with_inserts_passes [] ws list ok = omega arith
run_with_inserts_passes (made ∷ calls) ws list ok =
    let us = (made_on made ws).left.words in
    let (first, others) = both (of_run_with_inserts (effect made (length ws)) || not (eqb (made_on made ws).answered.refusal 0)) (only_of of_run_with_inserts calls us) ok in
    omega (arith, call_adds made ws list first, run_with_inserts_passes calls us (calls_keep_lists made ws list) others)
