-- The two ways of an exported function: words that are no list are refused by number 3, and a list goes to the inner function.
use Rattle.std.specs.Prelude.{None}
use mathlib.Core.Path.{◌≡◌, ◌∙◌, sym, ap}
use mathlib.Core.List.{List}
use Prim.Native.Nat.{ℕ}
use Rattle.notes.specs.Notes.{note_by}
use Rattle.meaning.specs.Reading.{reading_of}
use Rattle.answers.specs.Refusals.{Outcome, Meets, answer, refused}
use Rattle.answers.specs.declared.Refusal.TheVariants.{NotAList}
use Rattle.answers.specs.declared.Answer.{Answer}
use Rattle.calls.specs.Records.{lent_of, note_on, note_out, record_out}
use Rattle.calls.specs.Batch.{BatchLent, batch_on, batch_out}

-- words that are no list
pub refused_meets : {L : Type 0} {o : Outcome L} {lent : L} {r : Answer} → o ≡ refused NotAList lent → r ≡ answer 3 0 0 0 → Meets o r lent
refused_meets {L} e q = record { answered = q ∙ sym (ap (λ (p : Outcome L). p.answered) e); left = sym (ap (λ (p : Outcome L). p.left) e) }

-- a record on such words
pub no_record_meets :
    {ws bytes : List ℕ} {last : ℕ} {r : Answer} → reading_of ws ≡ None → r ≡ answer 3 0 0 0 →
    Meets (record_out (lent_of ws bytes last)) r (lent_of ws bytes last)
unfolding record_out note_out
no_record_meets {ws} {bytes} {last} none = refused_meets (ap (note_on (lent_of ws bytes last) (note_by bytes)) none)

-- a batch on such words
pub no_list_batch :
    (calls : List ℕ) (lent : BatchLent) {r : Answer} → reading_of lent.words ≡ None → r ≡ answer 3 0 0 0 → Meets (batch_out calls lent) r lent
unfolding batch_out
no_list_batch calls lent none = refused_meets (ap (batch_on calls lent) none)
