-- What is promised of the operations with a class record, each statement with its sentence. proofs/Promises.antt proves every one of them.
use Rattle.std.specs.Prelude.{◌≡◌, Bool, true, false, List, [], ◌∷◌, map, ℕ, ◌+◌, ◌≤◌, ◌<◌, length, get_or}
use Rattle.lists.specs.Lists.{occurrences, numbers_from}
use Rattle.answers.specs.Refusals.{accepted}
use Rattle.entries.specs.Entries.{InRange, entry_key}
use Rattle.entries.specs.declared.Entry.{Entry}
use Rattle.meaning.specs.Reading.{is_list}
use Rattle.calls.specs.Records.{Lent}
use Rattle.calls.specs.Calls.{outcome, alone}
use Rattle.calls.specs.Pairs.{live_pairs}
use Rattle.calls.specs.Batch.{BatchLent, batch_out}
use Rattle.calls.specs.declared.Call.{Call}
use Rattle.calls.specs.declared.Call.TheVariants.{SetUp, Operate, Record, Write, Read}
use Rattle.classes.specs.Classes.{class_of, number_of_classes, record_words, live_keys, keys_in, least_of, classes_of, count_at, least_at, class_out}
use Rattle.counted.specs.Counted.{Beside, words_beside, counted_out, counted_batch_out}
use Rattle.counted.specs.Calls.{CountedList, CountedMade, single, after_counted, after_all_counted}

-- a list, and beside it the record that a full reading of it gives
pub record Agreed (p : CountedList) : Type 0 where
  pub list : is_list p.lent ≡ true
  pub full : p.classes ≡ classes_of p.lent

-- 1. The record stays that of the list: a counted call takes a pair that agrees to a pair that agrees, however it came about, refused or not.
abbrev pub ClassesStay : Type 0
ClassesStay = (made : CountedMade) (p : CountedList) → Agreed p → Agreed (after_counted made p)

-- a pair after an accepted set up and any counted calls since, batches and reads among them
pub record FromFreshCounted (p : CountedList) : Type 0 where
  pub D : ℕ
  pub K : ℕ
  pub C : ℕ
  pub lent : CountedList
  pub calls : List CountedMade
  pub accepted : (counted_out (SetUp D K C) (words_beside lent.lent lent.classes)).answered.refusal ≡ 0
  pub left : p ≡ after_all_counted (single (alone (SetUp D K C)) ∷ calls) lent

-- .. so after any sequence of them from a fresh pair.
abbrev pub ClassesStayFromFresh : Type 0
ClassesStayFromFresh = (p : CountedList) → FromFreshCounted p → Agreed p

-- 2. A counted call answers and leaves what the call alone does, unless the record refuses it: by 15, or at set up by 2 for its length. So all that is
-- promised of the calls of a list is promised of the counted ones.
abbrev pub is_set_up : Call → Bool
is_set_up (SetUp D K C) = true
is_set_up (Operate operation) = false
is_set_up Record = false
is_set_up Write = false
is_set_up Read = false

abbrev pub CountedIsCall : Type 0
CountedIsCall =
    (call : Call) (b : Beside Lent) → ((counted_out call b).answered.refusal ≡ 15 → ⊥) → (is_set_up call ≡ true → length b.classes ≡ record_words)
    → ((counted_out call b).answered ≡ (outcome call b.lent).answered) × ((counted_out call b).left.lent ≡ (outcome call b.lent).left)

abbrev pub CountedBatchIsBatch : Type 0
CountedBatchIsBatch =
    (calls : List ℕ) (b : Beside BatchLent) → ((counted_batch_out calls b).answered.refusal ≡ 15 → ⊥)
    → ((counted_batch_out calls b).answered ≡ (batch_out calls b.lent).answered) × ((counted_batch_out calls b).left.lent ≡ (batch_out calls b.lent).left)

-- 3. A refused counted call alters nothing of what was lent: words, record, bytes, last number; a refused batch no answer's word.
abbrev pub RefusedCountedAltersNothing : Type 0
RefusedCountedAltersNothing =
    ((call : Call) (b : Beside Lent) → ((counted_out call b).answered.refusal ≡ 0 → ⊥) → (counted_out call b).left ≡ b)
    × ((calls : List ℕ) (b : Beside BatchLent) → ((counted_batch_out calls b).answered.refusal ≡ 0 → ⊥) → (counted_batch_out calls b).left ≡ b)

-- 4. The counts of all classes, added up, are the number of live keys.
unfoldable pub sum_of : List ℕ → ℕ
sum_of [] = 0
sum_of (n ∷ ns) = n + sum_of ns

abbrev pub counts_in : List ℕ → List ℕ
counts_in classes = map (λ class. get_or classes (count_at class) 0) (numbers_from 0 number_of_classes)

abbrev pub ClassesTotal : Type 0
ClassesTotal = (ws : List ℕ) → is_list ws ≡ true → sum_of (counts_in (classes_of ws)) ≡ length (live_pairs ws)

-- 5. The question about a class reads its two words and no others: two records of 32 words that agree there are answered the same.
abbrev pub ClassReadsTwoWords : Type 0
ClassReadsTwoWords =
    (class : ℕ) (one other : List ℕ) → length one ≡ record_words → length other ≡ record_words
    → get_or one (count_at class) 0 ≡ get_or other (count_at class) 0 → get_or one (least_at class) 0 ≡ get_or other (least_at class) 0
    → (class_out class one).answered ≡ (class_out class other).answered

-- .. After any sequence of counted calls from a fresh pair it answers the class's least live key and how many of its keys are live.
abbrev pub ClassAnswered : Type 0
ClassAnswered =
    (p : CountedList) → FromFreshCounted p → (class : ℕ) → class < number_of_classes
    → let keys = keys_in class (live_keys p.lent) in class_out class p.classes ≡ accepted (least_of keys) 0 (length keys) p.classes

-- .. On a list that least key is one of the class's live keys, if there are any, and no other is less.
abbrev pub LeastIsLeast : Type 0
LeastIsLeast =
    (ws : List ℕ) → is_list ws ≡ true → (class key : ℕ) → let keys = keys_in class (live_keys ws) in
    0 < occurrences key keys → (least_of keys ≤ key) × (0 < occurrences (least_of keys) keys)

-- 6. The class of an entry's key is the entry's class.
abbrev pub ClassOfEntry : Type 0
ClassOfEntry = (e : Entry) → InRange e → class_of (entry_key e) ≡ e.class
