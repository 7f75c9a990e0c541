-- A counted call that needs no bytes and no last number, or no last number, leaves what it does not need: its outcome is that with other bytes and
-- another last number lent.
use mathlib.Core.Path.{◌≡◌, refl, sym, ap, ◌∙◌}
use mathlib.Core.Bool.{Bool, true, false, cond, false≢true}
use mathlib.Core.List.{List, []}
use Prim.Native.Nat.{ℕ}
use lib.Dec.{eqb}
use lib.ListN.{length}
use Rattle.answers.specs.Refusals.{Outcome, Meets, refused}
use Rattle.answers.specs.declared.Refusal.{Refusal}
use Rattle.answers.specs.declared.Refusal.TheVariants.{NotAList, BadClasses, WrongLength}
use Rattle.answers.specs.declared.Answer.{Answer}
use Rattle.meaning.specs.Reading.{is_list}
use Rattle.calls.specs.Records.{Lent, lent_of}
use Rattle.calls.specs.Calls.{outcome}
use Rattle.calls.specs.declared.Call.{Call}
use Rattle.calls.specs.declared.Call.TheVariants.{SetUp, Operate, Record, Write, Read}
use Rattle.classes.specs.Classes.{record_words, agrees}
use Rattle.trace_step.specs.Printed.{on_bytes}
use Rattle.counted.specs.Counted.{Beside, beside, read_anew, counted_on, anew_on, lent_words, counted_out}

-- what is lent with other bytes and another last number
module _ (bytes_of : Lent → List ℕ) (last_of : Lent → ℕ) where
  abbrev pub other : Lent → Lent
  other l = lent_of l.words (bytes_of l) (last_of l)

  abbrev pub through : Outcome Lent → Outcome Lent
  through o = record { answered = o.answered; left = other o.left }

  abbrev pub through_beside : Outcome (Beside Lent) → Outcome (Beside Lent)
  through_beside o = record { answered = o.answered; left = beside (other o.left.lent) o.left.classes }

  module _ (call : Lent → Outcome Lent) (l : Lent) (classes : List ℕ) (same : call (other l) ≡ through (call l)) where
    on_other : counted_on lent_words call (beside (other l) classes) ≡ through_beside (counted_on lent_words call (beside l classes))
    unfolding counted_on
    on_other = rw same (at (is_list l.words) (agrees l.words classes))
      where
        at : (list agree : Bool) →
            cond list (cond agree (read_anew lent_words (through (call l))) (refused BadClasses (beside (other l) classes))) (refused NotAList (beside (other l) classes))
            ≡ through_beside (cond list (cond agree (read_anew lent_words (call l)) (refused BadClasses (beside l classes))) (refused NotAList (beside l classes)))
        at true true = refl
        at true false = refl
        at false agree = refl

    anew_other : (length-refusal : Refusal) →
        anew_on lent_words length-refusal call (beside (other l) classes) ≡ through_beside (anew_on lent_words length-refusal call (beside l classes))
    unfolding anew_on
    anew_other r = rw same (at (eqb (call l).answered.refusal 0) (eqb (length classes) record_words))
      where
        at : (accepts long : Bool) →
            cond accepts (cond long (read_anew lent_words (through (call l))) (refused r (beside (other l) classes)))
            (record { answered = (call l).answered; left = beside (other l) classes })
            ≡ through_beside (cond accepts (cond long (read_anew lent_words (call l)) (refused r (beside l classes)))
            (record { answered = (call l).answered; left = beside l classes }))
        at true true = refl
        at true false = refl
        at false long = refl

  meets_other :
      (call : Call) (l : Lent) (classes : List ℕ) {after : Lent} {now : List ℕ} {r : Answer} →
      counted_out call (beside (other l) classes) ≡ through_beside (counted_out call (beside l classes)) →
      Meets (counted_out call (beside l classes)) r (beside after now) → Meets (counted_out call (beside (other l) classes)) r (beside (other after) now)
  meets_other call l classes same m =
      record {
        answered = m.answered ∙ sym (ap (λ (o : Outcome (Beside Lent)). o.answered) same);
        left = ap (λ (d : Beside Lent). beside (other d.lent) d.classes) m.left ∙ sym (ap (λ (o : Outcome (Beside Lent)). o.left) same);
      }

-- a call on the words alone
pub words_meets :
    (call : Call) (l : Lent) (ws classes : List ℕ) {us now : List ℕ} {r : Answer} → on_bytes call ≡ false →
    Meets (counted_out call (beside (lent_of ws [] 0) classes)) r (beside (lent_of us [] 0) now) →
    Meets (counted_out call (beside (lent_of ws l.bytes l.last) classes)) r (beside (lent_of us l.bytes l.last) now)
unfolding counted_out outcome
words_meets (SetUp D K C) l ws classes {us} alone m =
    meets_other (λ x. l.bytes) (λ x. l.last) (SetUp D K C) (lent_of ws [] 0) classes {after = lent_of us [] 0}
    (anew_other (λ x. l.bytes) (λ x. l.last) (outcome (SetUp D K C)) (lent_of ws [] 0) classes refl WrongLength) m
words_meets (Operate operation) l ws classes {us} alone m =
    meets_other (λ x. l.bytes) (λ x. l.last) (Operate operation) (lent_of ws [] 0) classes {after = lent_of us [] 0}
    (on_other (λ x. l.bytes) (λ x. l.last) (outcome (Operate operation)) (lent_of ws [] 0) classes refl) m
words_meets Record l ws classes alone m = absurd (false≢true (sym alone))
words_meets Write l ws classes alone m = absurd (false≢true (sym alone))
words_meets Read l ws classes alone m = absurd (false≢true (sym alone))

-- .. and a write and a read, which leave the last number
module _ (last : ℕ) (ws bytes classes : List ℕ) {us file now : List ℕ} {r : Answer} where
  pub write_meets :
      Meets (counted_out Write (beside (lent_of ws bytes 0) classes)) r (beside (lent_of us file 0) now) →
      Meets (counted_out Write (beside (lent_of ws bytes last) classes)) r (beside (lent_of us file last) now)
  unfolding counted_out outcome
  write_meets m =
      meets_other (λ x. x.bytes) (λ x. last) Write (lent_of ws bytes 0) classes {after = lent_of us file 0}
      (on_other (λ x. x.bytes) (λ x. last) (outcome Write) (lent_of ws bytes 0) classes refl) m

  pub read_meets :
      Meets (counted_out Read (beside (lent_of ws bytes 0) classes)) r (beside (lent_of us file 0) now) →
      Meets (counted_out Read (beside (lent_of ws bytes last) classes)) r (beside (lent_of us file last) now)
  unfolding counted_out outcome
  read_meets m =
      meets_other (λ x. x.bytes) (λ x. last) Read (lent_of ws bytes 0) classes {after = lent_of us file 0}
      (anew_other (λ x. x.bytes) (λ x. last) (outcome Read) (lent_of ws bytes 0) classes refl BadClasses) m
