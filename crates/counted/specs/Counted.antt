-- The operations with a class record beside the list, in one definition over any call: The class record.
use Rattle.std.specs.Prelude.{cond, List, [], ℕ, eqb, length}
use Rattle.answers.specs.Refusals.{Outcome, refused}
use Rattle.answers.specs.declared.Refusal.{Refusal}
use Rattle.answers.specs.declared.Refusal.TheVariants.{WrongLength, NotAList, BadClasses}
use Rattle.meaning.specs.Reading.{is_list}
use Rattle.calls.specs.Records.{Lent, lent_of}
use Rattle.calls.specs.Calls.{outcome}
use Rattle.calls.specs.Batch.{BatchLent, batch_out}
use Rattle.calls.specs.declared.Call.{Call}
use Rattle.calls.specs.declared.Call.TheVariants.{SetUp, Operate, Record, Write, Read}
use Rattle.classes.specs.Classes.{record_words, classes_of, agrees}

-- What is lent to a counted call: what is lent to the call alone, and beside it the class record.
pub record Beside (L : Type 0) : Type 0 where
  pub lent : L
  pub classes : List ℕ

abbrev pub beside : {L : Type 0} → L → List ℕ → Beside L
beside lent classes = record { lent = lent; classes = classes }

-- .. where the call is lent the words of a list alone
abbrev pub words_beside : List ℕ → List ℕ → Beside Lent
words_beside ws classes = beside (lent_of ws [] 0) classes

-- what a call leaves, and the record that a full reading of the words then gives; `words` are those of the list among what is lent
abbrev pub read_anew : {L : Type 0} → (L → List ℕ) → Outcome L → Outcome (Beside L)
read_anew words o = record { answered = o.answered; left = beside o.left (classes_of (words o.left)) }

-- A call on a list: 3, then 15 if the record is not what a full reading gives, then what the call alone answers and leaves.
unfoldable pub counted_on : {L : Type 0} → (L → List ℕ) → (L → Outcome L) → Beside L → Outcome (Beside L)
counted_on words call b =
    cond (is_list (words b.lent))
    (cond (agrees (words b.lent) b.classes) (read_anew words (call b.lent)) (refused BadClasses b))
    (refused NotAList b)

-- A call that makes a list anew, whatever words and record held: what it refuses by itself, then a record that has not 32 words.
unfoldable pub anew_on : {L : Type 0} → (L → List ℕ) → Refusal → (L → Outcome L) → Beside L → Outcome (Beside L)
anew_on words otherLength call b =
    cond (eqb (call b.lent).answered.refusal 0)
    (cond (eqb (length b.classes) record_words) (read_anew words (call b.lent)) (refused otherLength b))
    (record { answered = (call b.lent).answered; left = b })

-- the words among what is lent
abbrev pub lent_words : Lent → List ℕ
lent_words lent = lent.words

abbrev pub batch_words : BatchLent → List ℕ
batch_words lent = lent.words

-- Any call: set up answers 2 for either length; read 15 for the record's length alone.
unfoldable pub counted_out : Call → Beside Lent → Outcome (Beside Lent)
counted_out (SetUp D K C) b = anew_on lent_words WrongLength (outcome (SetUp D K C)) b
counted_out (Operate operation) b = counted_on lent_words (outcome (Operate operation)) b
counted_out Record b = counted_on lent_words (outcome Record) b
counted_out Write b = counted_on lent_words (outcome Write) b
counted_out Read b = anew_on lent_words BadClasses (outcome Read) b

-- A batch is checked and compared once, and its record is written once.
unfoldable pub counted_batch_out : List ℕ → Beside BatchLent → Outcome (Beside BatchLent)
counted_batch_out calls b = counted_on batch_words (batch_out calls) b
