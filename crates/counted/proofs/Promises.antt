-- The promises of specs/Promises.antt, each proved. Every counted call either leaves all as it was, or what the call alone leaves with the record read anew.
use mathlib.Core.Path.{◌≡◌, refl, sym, ap, ◌∙◌, subst}
use mathlib.Core.Bool.{Bool, true, false, cond}
use mathlib.Core.List.{List, [], ◌∷◌}
use Prim.Native.Nat.{ℕ, ◌<◌}
use native.Mathlib.Decide.{ℕ_discrete}
use native.Mathlib.Omega.{arith}
use lib.Dec.{eqb, ltb}
use lib.ListN.{length, get_or}
use borrow.Author.Tests.{eq-eqb, eqb-true, eqb-false, lt-ltb}
use Rattle.answers.specs.Refusals.{Outcome, answer, accepted, refused, answer_of}
use Rattle.answers.specs.declared.Refusal.{Refusal}
use Rattle.answers.specs.declared.Refusal.TheVariants.{WrongLength, NotAList, BadKey, BadClasses}
use Rattle.answers.specs.declared.Operation.{Operation}
use Rattle.answers.specs.declared.Operation.TheVariants.{Insert, Find, Finish, Take, Sweep}
use Rattle.meaning.specs.Reading.{is_list}
use Rattle.meaning.specs.Operations.{set_up_out, operation_out}
use Rattle.meaning.proofs.Outcomes.{insert_outcome_not_a_list, find_outcome_not_a_list, finish_outcome_not_a_list, take_outcome_not_a_list, sweep_outcome_not_a_list}
use Rattle.notes.specs.Notes.{note_by}
use Rattle.calls.specs.Records.{Lent, lent_of, note_on, note_out, record_out}
use Rattle.calls.specs.Saved.{file_lent}
use Rattle.calls.specs.Calls.{outcome, alone, lending, after_calls, on_words, on_file}
use Rattle.calls.specs.Batch.{BatchLent, batch_lent, calls_in, batch_out}
use Rattle.calls.specs.declared.Call.{Call}
use Rattle.calls.specs.declared.Call.TheVariants.{SetUp, Operate, Record, Write, Read}
use Rattle.calls.proofs.Promises.{lists_stay_lists, calls_keep_lists, refused_alters_nothing, batch_is_calls, refused_batch_alters_nothing, batch_refusals}
use Rattle.calls.proofs.Restarted.Saved.{write_outcome_not_a_list}
use Rattle.is_list.proofs.Answered.{reading_none}
use Rattle.batch.proofs.Whole.{operations_listed}
use Rattle.classes.specs.Classes.{number_of_classes, record_words, live_keys, classes_of, agrees, count_at, least_at, class_out}
use Rattle.classes.proofs.Classes.{classes_length, count_word, least_word}
use Rattle.classes.proofs.Least as leasts
use Rattle.counted.specs.Counted.{Beside, beside, words_beside, read_anew, counted_on, anew_on, lent_words, batch_words, counted_out, counted_batch_out}
use Rattle.counted.specs.Calls.{CountedList, CountedMade, single, batched, made_on_counted, batch_on_counted, after_counted, after_all_counted}
use Rattle.counted.specs.Promises.{Agreed, ClassesStay, ClassesStayFromFresh, CountedIsCall, CountedBatchIsBatch}
use Rattle.counted.specs.Promises.{RefusedCountedAltersNothing, ClassesTotal, ClassReadsTwoWords, ClassAnswered, LeastIsLeast, ClassOfEntry}
use Rattle.counted.proofs.Outcomes.{agree_full}
use Rattle.counted.proofs.Totals as totals

-- The two ends of a counted call

data Ends {L : Type 0} (words : L → List ℕ) (call : L → Outcome L) (b : Beside L) (o : Outcome (Beside L)) : Type 0 where
  anew : o ≡ read_anew words (call b.lent) → Ends words call b o
  kept : o.left ≡ b → Ends words call b o

module _ {L : Type 0} (words : L → List ℕ) (call : L → Outcome L) (b : Beside L) where
  counted_on_ends : Ends words call b (counted_on words call b)
  unfolding counted_on
  counted_on_ends = at (is_list (words b.lent)) (agrees (words b.lent) b.classes)
    where
      at : (t u : Bool) → Ends words call b (cond t (cond u (read_anew words (call b.lent)) (refused BadClasses b)) (refused NotAList b))
      at true true = anew refl
      at true false = kept refl
      at false u = kept refl

  anew_on_ends : (other : Refusal) → Ends words call b (anew_on words other call b)
  unfolding anew_on
  anew_on_ends other = at (eqb (call b.lent).answered.refusal 0) (eqb (length b.classes) record_words)
    where
      at : (t u : Bool) →
          Ends words call b (cond t (cond u (read_anew words (call b.lent)) (refused other b)) (record { answered = (call b.lent).answered; left = b }))
      at true true = anew refl
      at true false = kept refl
      at false u = kept refl

counted_ends : (call : Call) (b : Beside Lent) → Ends lent_words (outcome call) b (counted_out call b)
unfolding counted_out
counted_ends (SetUp D K C) b = anew_on_ends lent_words (outcome (SetUp D K C)) b WrongLength
counted_ends (Operate operation) b = counted_on_ends lent_words (outcome (Operate operation)) b
counted_ends Record b = counted_on_ends lent_words (outcome Record) b
counted_ends Write b = counted_on_ends lent_words (outcome Write) b
counted_ends Read b = anew_on_ends lent_words (outcome Read) b BadClasses

counted_batch_ends : (calls : List ℕ) (b : Beside BatchLent) → Ends batch_words (batch_out calls) b (counted_batch_out calls b)
unfolding counted_batch_out
counted_batch_ends calls b = counted_on_ends batch_words (batch_out calls) b

-- 1. The record stays that of the list

-- .. at either end
module _ {L : Type 0} (words : L → List ℕ) (call : L → Outcome L) (b : Beside L) (list : is_list (words b.lent) ≡ true) (full : b.classes ≡ classes_of (words b.lent))
    (stays : is_list (words (call b.lent).left) ≡ true) where
  agreed_after_lem : (o : Outcome (Beside L)) → Ends words call b o → Agreed (beside (words o.left.lent) o.left.classes)
  agreed_after_lem o (anew e) =
      record {
        list = ap (λ (p : Outcome (Beside L)). is_list (words p.left.lent)) e ∙ stays;
        full =
            ap (λ (p : Outcome (Beside L)). p.left.classes) e ∙ ap (λ (p : Outcome (Beside L)). classes_of (words p.left.lent)) (sym e);
      }
  agreed_after_lem o (kept e) =
      record {
        list = ap (λ (c : Beside L). is_list (words c.lent)) e ∙ list;
        full = ap (λ (c : Beside L). c.classes) e ∙ full ∙ ap (λ (c : Beside L). classes_of (words c.lent)) (sym e);
      }

-- a batch takes a list to a list
batch_keeps_list : (calls : List ℕ) (lent : BatchLent) → is_list lent.words ≡ true → is_list (batch_out calls lent).left.words ≡ true
batch_keeps_list calls lent list = at (ℕ_discrete (batch_out calls lent).answered.refusal 0)
  where
    at : Dec ((batch_out calls lent).answered.refusal ≡ 0) → is_list (batch_out calls lent).left.words ≡ true
    at (yes z) = ap is_list (batch_is_calls calls lent z).1.words ∙ (operations_listed (calls_in calls) (record { list = list; settings = refl })).list
    at (no ne) = ap (λ (l : BatchLent). is_list l.words) (refused_batch_alters_nothing calls lent ne) ∙ list

pub classes_stay : ClassesStay
unfolding after_counted
classes_stay (single made) p agreed =
    let b = beside (lending made p.lent) p.classes in
    agreed_after_lem lent_words (outcome made.call) b agreed.list agreed.full (calls_keep_lists made p.lent agreed.list) (made_on_counted made p)
    (counted_ends made.call b)
classes_stay (batched calls answers) p agreed =
    let lent = batch_lent p.lent answers in
    let b = beside lent p.classes in
    agreed_after_lem batch_words (batch_out calls) b agreed.list agreed.full (batch_keeps_list calls lent agreed.list) (batch_on_counted calls answers p)
    (counted_batch_ends calls b)

all_stay : (calls : List CountedMade) (p : CountedList) → Agreed p → Agreed (after_all_counted calls p)
unfolding after_all_counted
all_stay [] p agreed = agreed
all_stay (made ∷ calls) p agreed = all_stay calls (after_counted made p) (classes_stay made p agreed)

-- an accepted set up makes a list ..
set_up_list : (D K C : ℕ) (ws : List ℕ) → (set_up_out D K C ws).answered.refusal ≡ 0 → is_list (set_up_out D K C ws).left ≡ true
unfolding after_calls
set_up_list D K C ws z =
    lists_stay_lists (set_up_out D K C ws).left (record { D = D; K = K; C = C; lent = ws; calls = []; accepted = z; left = refl })

-- .. and its record
fresh_agreed : (D K C : ℕ) (p : CountedList) → (counted_out (SetUp D K C) (words_beside p.lent p.classes)).answered.refusal ≡ 0 →
    Agreed (after_counted (single (alone (SetUp D K C))) p)
unfolding after_counted counted_out anew_on outcome
fresh_agreed D K C p z = at (eqb o.answered.refusal 0) (eqb (length p.classes) record_words) refl z
  where
    o : Outcome Lent
    o = outcome (SetUp D K C) (lent_of p.lent [] 0)

    by : Bool → Bool → Outcome (Beside Lent)
    by t u =
        cond t (cond u (read_anew lent_words o) (refused WrongLength (words_beside p.lent p.classes)))
        (record { answered = o.answered; left = words_beside p.lent p.classes })

    at : (t u : Bool) → eqb o.answered.refusal 0 ≡ t → (by t u).answered.refusal ≡ 0 → Agreed (beside (by t u).left.lent.words (by t u).left.classes)
    at true true e y = record { list = set_up_list D K C p.lent y; full = refl }
    at true false e y = absurd (omega arith)
    at false u e y = absurd (eqb-false o.answered.refusal 0 e y)

pub classes_stay_from_fresh : ClassesStayFromFresh
unfolding after_all_counted
classes_stay_from_fresh p from =
    subst Agreed (sym from.left)
    (all_stay from.calls (after_counted (single (alone (SetUp from.D from.K from.C))) from.lent) (fresh_agreed from.D from.K from.C from.lent from.accepted))

-- 2. A counted call is the call

-- on words that are no list every call but set up and read is refused by 3
operation_no_list : (operation : Operation) (ws : List ℕ) → is_list ws ≡ false → operation_out operation ws ≡ refused NotAList ws
operation_no_list (Insert key value) ws none = insert_outcome_not_a_list ws key value none
operation_no_list (Find key) ws none = find_outcome_not_a_list ws key none
operation_no_list (Finish key) ws none = finish_outcome_not_a_list ws key none
operation_no_list Take ws none = take_outcome_not_a_list ws none
operation_no_list Sweep ws none = sweep_outcome_not_a_list ws none

-- the answer and what is left of what the call alone is lent
abbrev Same : {L : Type 0} → Outcome (Beside L) → Outcome L → Type 0
Same o alone-o = (o.answered ≡ alone-o.answered) × (o.left.lent ≡ alone-o.left)

counted_on_same :
    {L : Type 0} (words : L → List ℕ) (call : L → Outcome L) (b : Beside L) →
    (is_list (words b.lent) ≡ false → call b.lent ≡ refused NotAList b.lent) →
    ((counted_on words call b).answered.refusal ≡ 15 → ⊥) → Same (counted_on words call b) (call b.lent)
unfolding counted_on
counted_on_same {L} words call b three ne = at (is_list (words b.lent)) (agrees (words b.lent) b.classes) refl ne
  where
    by : Bool → Bool → Outcome (Beside L)
    by t u = cond t (cond u (read_anew words (call b.lent)) (refused BadClasses b)) (refused NotAList b)

    at : (t u : Bool) → is_list (words b.lent) ≡ t → ((by t u).answered.refusal ≡ 15 → ⊥) → Same (by t u) (call b.lent)
    at true true e n = (refl, refl)
    at true false e n = absurd (n refl)
    at false u e n = (ap (λ (o : Outcome L). o.answered) (sym (three e)), ap (λ (o : Outcome L). o.left) (sym (three e)))

anew_on_same :
    (other : Refusal) (call : Call) (b : Beside Lent) →
    ((anew_on lent_words other (outcome call) b).answered.refusal ≡ (answer_of other).refusal → length b.classes ≡ record_words) →
    Same (anew_on lent_words other (outcome call) b) (outcome call b.lent)
unfolding anew_on
anew_on_same other call b long = at (eqb o.answered.refusal 0) (eqb (length b.classes) record_words) refl refl long
  where
    o : Outcome Lent
    o = outcome call b.lent

    by : Bool → Bool → Outcome (Beside Lent)
    by t u = cond t (cond u (read_anew lent_words o) (refused other b)) (record { answered = o.answered; left = b })

    at : (t u : Bool) → eqb o.answered.refusal 0 ≡ t → eqb (length b.classes) record_words ≡ u →
        ((by t u).answered.refusal ≡ (answer_of other).refusal → length b.classes ≡ record_words) → Same (by t u) o
    at true true e f n = (refl, refl)
    at true false e f n = absurd (eqb-false (length b.classes) record_words f (n refl))
    at false u e f n = (refl, sym (refused_alters_nothing call b.lent (eqb-false o.answered.refusal 0 e)))

pub counted_is_call : CountedIsCall
unfolding counted_out outcome record_out note_out
counted_is_call (SetUp D K C) b ne long = anew_on_same WrongLength (SetUp D K C) b (λ e. long refl)
counted_is_call (Operate operation) b ne long =
    counted_on_same lent_words (outcome (Operate operation)) b (λ none. ap (on_words b.lent) (operation_no_list operation b.lent.words none)) ne
counted_is_call Record b ne long =
    counted_on_same lent_words (outcome Record) b (λ none. ap (note_on b.lent (note_by b.lent.bytes)) (reading_none b.lent.words none)) ne
counted_is_call Write b ne long =
    counted_on_same lent_words (outcome Write) b
    (λ none. ap (on_file b.lent) (write_outcome_not_a_list (file_lent b.lent.words b.lent.bytes) none)) ne
counted_is_call Read b ne long = anew_on_same BadClasses Read b (λ e. absurd (ne e))

pub counted_batch_is_batch : CountedBatchIsBatch
unfolding counted_batch_out
counted_batch_is_batch calls b ne = counted_on_same batch_words (batch_out calls) b (λ none. (batch_refusals calls b.lent).0 none) ne

-- 3. A refused counted call alters nothing

counted_on_alters_nothing :
    {L : Type 0} (words : L → List ℕ) (call : L → Outcome L) (b : Beside L) →
    (((call b.lent).answered.refusal ≡ 0 → ⊥) → (call b.lent).left ≡ b.lent) →
    ((counted_on words call b).answered.refusal ≡ 0 → ⊥) → (counted_on words call b).left ≡ b
unfolding counted_on
counted_on_alters_nothing {L} words call b alters ne = at (is_list (words b.lent)) (agrees (words b.lent) b.classes) refl ne
  where
    by : Bool → Bool → Outcome (Beside L)
    by t u = cond t (cond u (read_anew words (call b.lent)) (refused BadClasses b)) (refused NotAList b)

    at : (t u : Bool) → agrees (words b.lent) b.classes ≡ u → ((by t u).answered.refusal ≡ 0 → ⊥) → (by t u).left ≡ b
    at true true e n =
        let same = alters n in
        λ i. beside (same i) ((ap (λ l. classes_of (words l)) same ∙ sym (agree_full (words b.lent) b.classes e)) i)
    at true false e n = refl
    at false u e n = refl

anew_on_alters_nothing :
    {L : Type 0} (words : L → List ℕ) (other : Refusal) (call : L → Outcome L) (b : Beside L) →
    ((anew_on words other call b).answered.refusal ≡ 0 → ⊥) → (anew_on words other call b).left ≡ b
unfolding anew_on
anew_on_alters_nothing {L} words other call b ne = at (eqb (call b.lent).answered.refusal 0) (eqb (length b.classes) record_words) refl ne
  where
    by : Bool → Bool → Outcome (Beside L)
    by t u = cond t (cond u (read_anew words (call b.lent)) (refused other b)) (record { answered = (call b.lent).answered; left = b })

    at : (t u : Bool) → eqb (call b.lent).answered.refusal 0 ≡ t → ((by t u).answered.refusal ≡ 0 → ⊥) → (by t u).left ≡ b
    at true true e n = absurd (n (eqb-true (call b.lent).answered.refusal 0 e))
    at true false e n = refl
    at false u e n = refl

counted_alters_nothing : (call : Call) (b : Beside Lent) → ((counted_out call b).answered.refusal ≡ 0 → ⊥) → (counted_out call b).left ≡ b
unfolding counted_out
counted_alters_nothing (SetUp D K C) b ne = anew_on_alters_nothing lent_words WrongLength (outcome (SetUp D K C)) b ne
counted_alters_nothing (Operate operation) b ne = counted_on_alters_nothing lent_words (outcome (Operate operation)) b (refused_alters_nothing (Operate operation) b.lent) ne
counted_alters_nothing Record b ne = counted_on_alters_nothing lent_words (outcome Record) b (refused_alters_nothing Record b.lent) ne
counted_alters_nothing Write b ne = counted_on_alters_nothing lent_words (outcome Write) b (refused_alters_nothing Write b.lent) ne
counted_alters_nothing Read b ne = anew_on_alters_nothing lent_words BadClasses (outcome Read) b ne

batch_alters_nothing : (calls : List ℕ) (b : Beside BatchLent) → ((counted_batch_out calls b).answered.refusal ≡ 0 → ⊥) → (counted_batch_out calls b).left ≡ b
unfolding counted_batch_out
batch_alters_nothing calls b ne = counted_on_alters_nothing batch_words (batch_out calls) b (refused_batch_alters_nothing calls b.lent) ne

pub refused_counted_alters_nothing : RefusedCountedAltersNothing
refused_counted_alters_nothing = (counted_alters_nothing, batch_alters_nothing)

-- 4. The counts add up

pub classes_total : ClassesTotal
classes_total = totals.classes_total

-- 5. The question about one class

class_known : (class : ℕ) (classes : List ℕ) → length classes ≡ record_words → class < number_of_classes →
    class_out class classes ≡ accepted (get_or classes (least_at class) 0) 0 (get_or classes (count_at class) 0) classes
unfolding class_out
class_known class classes long h = rw (eq-eqb (length classes) record_words long, lt-ltb class number_of_classes h) refl

pub class_reads_two_words : ClassReadsTwoWords
unfolding class_out
class_reads_two_words class one other long long-other counts leasts =
    rw (eq-eqb (length one) record_words long, eq-eqb (length other) record_words long-other) (at (ltb class number_of_classes))
  where
    at : (t : Bool) →
        (cond t (accepted (get_or one (least_at class) 0) 0 (get_or one (count_at class) 0) one) (refused BadKey one)).answered ≡
        (cond t (accepted (get_or other (least_at class) 0) 0 (get_or other (count_at class) 0) other) (refused BadKey other)).answered
    at true = λ i. answer 0 (leasts i) 0 (counts i)
    at false = refl

pub class_answered : ClassAnswered
class_answered p from class h =
    let full = (classes_stay_from_fresh p from).full in
    let long = ap length full ∙ classes_length (live_keys p.lent) in
    let least = ap (λ l. get_or l (least_at class) 0) full ∙ least_word (live_keys p.lent) class h in
    let count = ap (λ l. get_or l (count_at class) 0) full ∙ count_word (live_keys p.lent) class h in
    class_known class p.classes long h ∙ (λ i. accepted (least i) 0 (count i) p.classes)

pub least_is_least : LeastIsLeast
least_is_least = leasts.least_is_least

-- 6. The class of an entry

pub class_of_entry : ClassOfEntry
class_of_entry e within = omega (arith, within.class_most, within.unit_most, within.serial_most)
