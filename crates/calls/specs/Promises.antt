-- What is promised over sequences of calls, in one place: each statement with its sentence. proofs/Promises.antt proves every one of them,
-- for every D, K and C in range at once. What is promised of one call on a list is the page of the same name in crate meaning.
use Rattle.std.specs.Prelude.{◌≡◌, true, false, List, [], ◌∷◌, ◌++◌, map, ◌↔◌, ℕ, zero, suc, ◌+◌, ◌*◌, ◌≤◌, eqb, ltb, length, take, drop}
use Rattle.lists.specs.Lists.{every}
use Rattle.notes.specs.Notes.{note_by}
use Rattle.answers.specs.declared.Answer.{Answer}
use Rattle.meaning.specs.Reading.{settings_at, is_list, standing_keys}
use Rattle.answers.specs.Refusals.{answer, Outcome, accepted, Meets, answer_of, refused}
use Rattle.answers.specs.declared.Refusal.{Refusal}
use Rattle.answers.specs.declared.Refusal.TheVariants.{NotAList, BadBatch}
use Rattle.meaning.specs.Words.{owed_at, position_at}
use Rattle.meaning.specs.Operations.{set_up_out, insert_out, take_out}
use Rattle.calls.specs.Records.{Lent, insertion, note_asks, record_out}
use Rattle.calls.specs.Saved.{FileLent, file_lent, write_out, read_out}
use Rattle.calls.specs.Calls.{outcome, Made, alone, operated, made_on, after_calls}
use Rattle.calls.specs.Effects.{effect, keeps_settings}
use Rattle.calls.specs.Batch.{BatchLent, calls_in, answer_words, fits, batch_out}
use Rattle.meaning.specs.Sentences.{Standing}
use Rattle.calls.specs.Runs.{passed_sum, only_of, of_run, of_run_with_inserts, keys_ahead, added_sum}
use Rattle.settings.specs.declared.Settings.{Settings}
use Rattle.files.specs.Files.{Pair, settings_in, pairs_in}
use Rattle.calls.specs.Pairs.{live_pairs}
use Rattle.book.specs.Book.{standing_between}
use Rattle.calls.specs.Book.{book_of, booked_all, call_without_search, reply_to}
use Rattle.answers.specs.declared.Operation.{Operation}
use Rattle.answers.specs.declared.Operation.TheVariants.{Insert, Finish}
use Rattle.calls.specs.declared.Call.TheVariants.{SetUp}
use Rattle.calls.specs.declared.Call.{Call}
use Rattle.meaning.specs.Promises.{OwedStand, CountsWalk}

-- a buffer after an accepted set up and any calls since
pub record FromFresh (ws : List ℕ) : Type 0 where
  pub D : ℕ
  pub K : ℕ
  pub C : ℕ
  pub lent : List ℕ
  pub calls : List Made
  pub accepted : (set_up_out D K C lent).answered.refusal ≡ 0
  pub left : ws ≡ after_calls calls (set_up_out D K C lent).left

-- 1. Lists stay lists: after any sequence of calls from a fresh list, set up and refused calls among them, the buffer is a list.
abbrev pub ListsStayLists : Type 0
ListsStayLists = (ws : List ℕ) → FromFresh ws → is_list ws ≡ true

-- .. and each call takes a list to a list, however it came about.
abbrev pub CallsKeepLists : Type 0
CallsKeepLists = (made : Made) (ws : List ℕ) → is_list ws ≡ true → is_list (made_on made ws).left.words ≡ true

-- .. with the dimensions, largest key, cells and base that it had, unless it is set up or read anew.
abbrev pub CallsKeepSettings : Type 0
CallsKeepSettings =
    (made : Made) (ws : List ℕ) → is_list ws ≡ true → keeps_settings (effect made (length ws)) ≡ true
    → settings_at (made_on made ws).left.words ≡ settings_at ws

-- 2. A refused call alters nothing of what was lent: every operation, all words, bytes and numbers.
abbrev pub RefusedAltersNothing : Type 0
RefusedAltersNothing = (call : Call) (lent : Lent) → ((outcome call lent).answered.refusal ≡ 0 → ⊥) → (outcome call lent).left ≡ lent

-- 3. Demand 3: after any sequence of calls from a fresh list, the count of a next insert or find that answers looked is the number of cells
-- that the walk meets, and their keys are the rule's.
abbrev pub LookedIsWalk : Type 0
LookedIsWalk = (ws : List ℕ) → FromFresh ws → CountsWalk ws

-- .. and so is that of a record's insert: the answer and the words are those of the insert that it asks for.
abbrev pub RecordIsInsert : Type 0
RecordIsInsert =
    (lent : Lent) → is_list lent.words ≡ true → (key number : ℕ) → note_asks lent.last (note_by lent.bytes) ≡ insertion key number
    → ((record_out lent).answered ≡ (insert_out lent.words key number).answered)
    × ((record_out lent).left.words ≡ (insert_out lent.words key number).left)

-- .. An accepted record makes the last number the value that it inserts.
abbrev pub LastIsValue : Type 0
LastIsValue =
    (lent : Lent) (key number : ℕ) → note_asks lent.last (note_by lent.bytes) ≡ insertion key number
    → (record_out lent).answered.refusal ≡ 0 → (record_out lent).left.last ≡ number

-- 4. Each node once, in its turn: n takes hand out the first n live pairs, ascending, and all of them if there are no more than n.
unfoldable pub takes : ℕ → List ℕ → List Pair
takes zero ws = []
takes (suc n) ws =
    elim (eqb (take_out ws).answered.refusal 0) [
      | true ↦ record { key = (take_out ws).answered.key; value = (take_out ws).answered.value } ∷ takes n (take_out ws).left
      | false ↦ []
    ]

abbrev pub TakesInTurn : Type 0
TakesInTurn = (ws : List ℕ) → is_list ws ≡ true → (n : ℕ) → takes n ws ≡ take n (live_pairs ws)

-- .. and a take answers 7 exactly if nothing is live.
abbrev pub TakesEnd : Type 0
TakesEnd = (ws : List ℕ) → is_list ws ≡ true → ((take_out ws).answered.refusal ≡ 7) ↔ (live_pairs ws ≡ [])

-- 5. The book: what a sequence of calls does to the standing keys, their values and marks and the position is what an ordered map would do.
abbrev pub CallsAreBooked : Type 0
CallsAreBooked =
    (calls : List Made) (ws : List ℕ) → is_list ws ≡ true → book_of (after_calls calls ws) ≡ booked_all calls (length ws) (book_of ws)

-- .. and each call answers what an ordered map would: every figure but looked and the links moved, passed and freed among them, follows from the book.
abbrev pub AnswersAreBooked : Type 0
AnswersAreBooked =
    (made : Made) (ws : List ℕ) → is_list ws ≡ true → call_without_search made.call (made_on made ws).answered ≡ reply_to made (length ws) (book_of ws)

-- 6. A batch does what its calls do, one after the other: these are the words left, each call's answer is the one that it would have been
-- given alone on the words that those before it leave, and the words past the answers are kept.
pub record BatchIs (calls : List Operation) (before after : BatchLent) : Type 0 where
  pub words : after.words ≡ after_calls (map operated calls) before.words
  pub answers :
      (front : List Operation) (call : Operation) (later : List Operation) → calls ≡ front ++ (call ∷ later) →
      take 4 (drop (4 * length front) after.answers) ≡ answer_words (made_on (operated call) (after_calls (map operated front) before.words)).answered
  pub kept : drop (4 * length calls) after.answers ≡ drop (4 * length calls) before.answers

abbrev pub BatchIsCalls : Type 0
BatchIsCalls =
    (calls : List ℕ) (lent : BatchLent) → (batch_out calls lent).answered.refusal ≡ 0
    → ((batch_out calls lent).answered.count ≡ length (calls_in calls)) × BatchIs (calls_in calls) lent (batch_out calls lent).left

-- .. and a refused batch alters nothing.
abbrev pub RefusedBatchAltersNothing : Type 0
RefusedBatchAltersNothing =
    (calls : List ℕ) (lent : BatchLent) → ((batch_out calls lent).answered.refusal ≡ 0 → ⊥) → (batch_out calls lent).left ≡ lent

-- .. 3 comes before 19: on words that are no list it is answered whatever the calls are.
abbrev pub BatchRefusals : Type 0
BatchRefusals =
    (calls : List ℕ) (lent : BatchLent) →
    (is_list lent.words ≡ false → batch_out calls lent ≡ refused NotAList lent) ×
    (is_list lent.words ≡ true → fits calls lent.answers ≡ false → batch_out calls lent ≡ refused BadBatch lent)

-- .. so it holds after any calls from a fresh list,
abbrev pub OwedCellsStandFromFresh : Type 0
OwedCellsStandFromFresh = (ws : List ℕ) → FromFresh ws → OwedStand ws

-- .. and 9 is no number of the table, and no call's and no batch's.
abbrev pub NineIsRetired : Type 0
NineIsRetired =
    ((r : Refusal) → (answer_of r).refusal ≡ 9 → ⊥) × (((call : Call) (lent : Lent) → (outcome call lent).answered.refusal ≡ 9 → ⊥) ×
    ((calls : List ℕ) (lent : BatchLent) → (batch_out calls lent).answered.refusal ≡ 9 → ⊥))

-- 7. What a run of takes costs. Where every call is a take, a find, a finish or a write, or is refused, the passed figures add up to exactly the
-- standing keys above the position at the start and up to the position at the end;
abbrev pub RunPasses : Type 0
RunPasses =
    (calls : List Made) (ws : List ℕ) → is_list ws ≡ true → only_of of_run calls ws ≡ true
    → passed_sum calls ws ≡ standing_between (book_of ws).position (book_of (after_calls calls ws)).position (book_of ws).row

-- .. so they never exceed the standing keys at the start.
abbrev pub RunPassesAtMost : Type 0
RunPassesAtMost =
    (calls : List Made) (ws : List ℕ) → is_list ws ≡ true → only_of of_run calls ws ≡ true → passed_sum calls ws ≤ length (book_of ws).row

-- .. With inserts between, what is passed and what is still ahead at the end is what was ahead at the start and what the inserts added.
abbrev pub RunWithInsertsPasses : Type 0
RunWithInsertsPasses =
    (calls : List Made) (ws : List ℕ) → is_list ws ≡ true → only_of of_run_with_inserts calls ws ≡ true
    → passed_sum calls ws + keys_ahead (book_of (after_calls calls ws)) ≡ keys_ahead (book_of ws) + added_sum calls ws

-- 8. A list over a restart. Reading leaves what the calls leave that it stands for: set up, the file's pairs inserted in ascending order, and
-- each finished.
abbrev pub file_calls : Settings → List Pair → List Made
file_calls s pairs =
    alone (SetUp s.dimensions s.largest s.cells)
    ∷ (map (λ p. operated (Insert p.key p.value)) pairs ++ map (λ p. operated (Finish p.key)) pairs)

abbrev pub ReadIsCalls : Type 0
ReadIsCalls =
    (lent : FileLent) → (read_out lent).answered.refusal ≡ 0
    → ((read_out lent).answered ≡ answer 0 0 0 (length (pairs_in lent.file)))
    × (((read_out lent).left.words ≡ after_calls (file_calls (settings_in lent.file) (pairs_in lent.file)) lent.words)
    × ((read_out lent).left.file ≡ lent.file))

-- .. The list that they leave is settled, its pairs are the file's and all that stands, and its position is the head.
pub record ReadList (ws : List ℕ) (s : Settings) (pairs : List Pair) : Type 0 where
  pub list : is_list ws ≡ true
  pub settings : settings_at ws ≡ s
  pub live : live_pairs ws ≡ pairs
  pub standing : standing_keys ws ≡ map (λ p. p.key) pairs
  pub settled : (x : ℕ) → Standing ws x → owed_at ws x ≡ 0
  pub position : position_at ws ≡ 0

abbrev pub ReadGivesList : Type 0
ReadGivesList =
    (lent : FileLent) → (read_out lent).answered.refusal ≡ 0 → ReadList (read_out lent).left.words (settings_in lent.file) (pairs_in lent.file)

-- .. and whatever lay in the words before, it is as if they had been set up: all that is promised from a fresh list on (1, 5, 13) is promised of it.
abbrev pub ReadIsFresh : Type 0
ReadIsFresh = (lent : FileLent) → (read_out lent).answered.refusal ≡ 0 → FromFresh (read_out lent).left.words

-- Each value that waits is a number of 32 bits: every lent word is one, and a file has no room for more.
abbrev pub ValuesFit : List ℕ → Type 0
ValuesFit ws = every (λ p. ltb p.value 4294967296) (live_pairs ws) ≡ true

-- .. Write then read gives a list with the same settings and live pairs, and the same takes, whatever the bytes past the file and the words held.
pub record Restarted (ws us : List ℕ) : Type 0 where
  pub list : ReadList us (settings_at ws) (live_pairs ws)
  pub takes_same : (n : ℕ) → takes n us ≡ takes n ws

abbrev pub WriteThenRead : Type 0
WriteThenRead =
    (lent : FileLent) (words : List ℕ) → ValuesFit lent.words → (write_out lent).answered.refusal ≡ 0 → length words ≡ length lent.words
    → let file = take (write_out lent).answered.count (write_out lent).left.file in
    ((read_out (file_lent words file)).answered ≡ answer 0 0 0 (length (live_pairs lent.words)))
    × Restarted lent.words (read_out (file_lent words file)).left.words

-- .. Each accepted file is what writing its list gives, into bytes of whatever content that are enough.
abbrev pub FileIsWritten : Type 0
FileIsWritten =
    (lent : FileLent) (file : List ℕ) → (read_out lent).answered.refusal ≡ 0 → length lent.file ≤ length file
    → let ws = (read_out lent).left.words in
    let written = lent.file ++ drop (length lent.file) file in
    write_out (file_lent ws file) ≡ accepted 0 0 (length lent.file) (file_lent ws written)

-- Any two outcomes that a contract allows are equal: the exported functions all ensure `Meets o r lent`, of the outcome o of their call
-- and whatever was lent to it.
abbrev pub OneOutcome : Type 1
OneOutcome =
    (Lent : Type 0) (o : Outcome Lent) (r s : Answer) (one other : Lent) → Meets o r one → Meets o s other → (r ≡ s) × (one ≡ other)
