-- A list after a few calls, with one debt, a dead key and a position, computed: the premises of the promises are met by it. And runs of takes.
use Rattle.std.specs.Prelude.{None}
use mathlib.Core.Path.{◌≡◌, refl}
use mathlib.Core.Bool.{true, false}
use mathlib.Core.List.{List, [], ◌∷◌, map}
use Prim.Native.Nat.{ℕ}
use native.Mathlib.Omega.{arith}
use lib.ListN.{replicate}
use Rattle.settings.specs.Numbers.{length_of}
use Rattle.meaning.specs.Row.{node_at}
use Rattle.meaning.specs.State.{position_key}
use Rattle.meaning.specs.Reading.{read, is_list}
use Rattle.meaning.specs.Words.{key_at, owed_at, link_at}
use Rattle.meaning.specs.Walk.{walk}
use Rattle.meaning.specs.Operations.{set_up_out, insert_out, finish_out}
use Rattle.book.specs.Book.{standing_key, standing_between}
use Rattle.calls.specs.Calls.{Made, operated, made_on, after_calls}
use Rattle.calls.specs.Book.{book_of}
use Rattle.calls.specs.Runs.{passed_sum, only_of, of_run, of_run_with_inserts, keys_ahead, added_sum}
use Rattle.calls.specs.Promises.{FromFresh}
use Rattle.meaning.specs.Promises.{Live}
use Rattle.answers.specs.declared.Operation.TheVariants.{Insert, Find, Finish, Take, Sweep}
use Rattle.answers.specs.declared.Operation.{Operation}
use Rattle.calls.proofs.Computing.{computing}

calls : List Operation
calls = Insert 2 20 ∷ Take ∷ Insert 6 60 ∷ Insert 5 50 ∷ []

-- D = 2, K = 15, C = 8, so b = 4: key 2 (cell 1) is dead and the position, key 5 (cell 3) owes from key 6 (cell 2)
pub example : List ℕ
example = after_calls (map operated calls) (set_up_out 2 15 8 (replicate (length_of 2 8) 0)).left

pub example_from_fresh : FromFresh example
unfolding example calls computing
example_from_fresh = record { D = 2; K = 15; C = 8; lent = replicate (length_of 2 8) 0; calls = map operated calls; accepted = refl; left = refl }

pub example_is_list : is_list example ≡ true
unfolding example calls computing
example_is_list = refl

pub example_owes : owed_at example 3 ≡ 2
unfolding example calls computing
example_owes = refl

pub example_position : position_key (read example) ≡ 2
unfolding example calls computing
example_position = refl

pub example_live : Live example 5
unfolding example calls computing
example_live = record { cell = 3; within = omega arith; mark = refl; same = refl }

-- each call is accepted: a find that looks, a new key, a dead key again, a finish that moves a link, a take, a sweep
pub example_answers : map (λ c. (made_on (operated c) example).answered.refusal) (Find 5 ∷ Insert 9 90 ∷ Insert 2 21 ∷ Finish 5 ∷ Take ∷ Sweep ∷ []) ≡ replicate 6 0
unfolding example calls computing
example_answers = refl

pub example_moved : (finish_out example 5).answered.count ≡ 1
unfolding example calls computing
example_moved = refl

pub example_absent : node_at 9 (read example).row ≡ None
unfolding example calls computing
example_absent = refl

pub example_walk : map (key_at example) (walk example 6) ≡ 5 ∷ 6 ∷ []
unfolding example calls computing
example_walk = refl

-- Key 5 (cell 3) owes link 0 from key 7 (cell 1), where it leads to key 9 (cell 2).
pub owing : List ℕ
owing = after_calls (map operated (Insert 7 70 ∷ Insert 9 90 ∷ Insert 5 50 ∷ [])) (set_up_out 2 15 8 (replicate (length_of 2 8) 0)).left

abbrev pub links_0 : List ℕ → List ℕ
links_0 ws = link_at ws 3 0 ∷ link_at ws 1 0 ∷ []

-- The link moves with an insert of key 6, whose parent key 5 is, and with one of key 4, whose c it is and which then owes from it.
pub example_links_moved : map links_0 (owing ∷ (insert_out owing 6 60).left ∷ (insert_out owing 4 40).left ∷ []) ≡
    (0 ∷ 2 ∷ []) ∷ (2 ∷ 0 ∷ []) ∷ (2 ∷ 0 ∷ []) ∷ []
unfolding owing computing
example_links_moved = refl

-- A list before a run of takes: keys 5 and 9 are live, 2 and 6 dead, and the late key 5 has put the position back on 2.
pub before_run : List ℕ
before_run =
    after_calls (map operated (Insert 2 20 ∷ Insert 6 60 ∷ Insert 9 90 ∷ Take ∷ Take ∷ Insert 5 50 ∷ []))
    (set_up_out 2 15 8 (replicate (length_of 2 8) 0)).left

pub before_run_is_list : is_list before_run ≡ true
unfolding before_run computing
before_run_is_list = refl

pub before_run_book :
    book_of before_run ≡ record {
      largest = 15;
      cells = 8;
      row = standing_key 2 0 false ∷ standing_key 5 50 true ∷ standing_key 6 0 false ∷ standing_key 9 90 true ∷ [];
      position = 2;
    }
unfolding before_run computing
before_run_book = refl

-- A find, a finish and an insert of a live key, which is refused, between the takes; the last take answers 7.
pub run : List Made
run = map operated (Take ∷ Find 9 ∷ Finish 5 ∷ Insert 9 91 ∷ Take ∷ Take ∷ [])

pub run_is_run : only_of of_run run before_run ≡ true
unfolding before_run run computing
run_is_run = refl

-- The takes pass 1 for key 5 and 2 for key 9, the dead key 6 among them: the standing keys above 2 and up to 9.
pub run_passed : passed_sum run before_run ≡ 3
unfolding before_run run computing
run_passed = refl

pub run_keys : standing_between (book_of before_run).position (book_of (after_calls run before_run)).position (book_of before_run).row ≡ 3
unfolding before_run run computing
run_keys = refl

-- With inserts: after key 9 the late key 4, which puts the position back below 5, 6 and 9 and so adds 4; the new key 12, which adds 1; and the
-- dead key 6 again, below 9 and 12, which adds 3.
pub run_with_inserts : List Made
run_with_inserts = map operated (Take ∷ Take ∷ Insert 4 40 ∷ Take ∷ Insert 12 120 ∷ Take ∷ Insert 6 61 ∷ Take ∷ Take ∷ [])

pub inserts_is_run : only_of of_run_with_inserts run_with_inserts before_run ≡ true
unfolding before_run run_with_inserts computing
inserts_is_run = refl

pub inserts_passed : passed_sum run_with_inserts before_run ≡ 9
unfolding before_run run_with_inserts computing
inserts_passed = refl

-- 9 passed and 2 ahead at the end (9 and 12) are 3 ahead at the start (5, 6 and 9) and 8 added
pub inserts_ahead :
    keys_ahead (book_of before_run) ∷ added_sum run_with_inserts before_run ∷ keys_ahead (book_of (after_calls run_with_inserts before_run)) ∷ [] ≡ 3 ∷ 8 ∷ 2 ∷ []
unfolding before_run run_with_inserts computing
inserts_ahead = refl
