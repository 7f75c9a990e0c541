-- A call with a class record, case by case: refused by 3 or by 15; else what the call alone does, with the record read anew.
use Rattle.std.proofs.lemmas.Option.{none-some, same_Some}
use Rattle.std.specs.Prelude.{Some, None}
use mathlib.Core.Path.{◌≡◌, refl, sym, ap, ◌∙◌}
use mathlib.Core.Bool.{Bool, true, false, cond}
use mathlib.Core.List.{List}
use Prim.Native.Nat.{ℕ}
use native.Mathlib.Decide.{ℕ_discrete}
use lib.Dec.{eqb}
use lib.ListN.{length}
use borrow.Author.Tests.{eq-eqb, ne_eqb}
use Rattle.lists.proofs.Same.{same_eq}
use Rattle.settings.specs.declared.Settings.{Settings}
use Rattle.answers.specs.Refusals.{Outcome, Meets, answer_of, refused}
use Rattle.answers.specs.declared.Refusal.TheVariants.{NotAList, BadClasses}
use Rattle.answers.specs.declared.Answer.{Answer}
use Rattle.meaning.specs.Reading.{is_list}
use Rattle.classes.specs.Classes.{record_words, live_keys, classes_of, agrees}
use Rattle.classes.proofs.Classes.{classes_length}
use Rattle.counted.specs.Counted.{Beside, beside, read_anew, counted_on}
use Rattle.counted.specs.Checked.{Agreeing, refusal_of, Renewed}
use Rattle.answers.specs.declared.Refusal.{Refusal}

-- a record that agrees is the full reading, and has its length
pub agree_full : (ws classes : List ℕ) → agrees ws classes ≡ true → classes ≡ classes_of ws
agree_full ws classes e = same_eq classes (classes_of ws) e

pub agree_length : (ws classes : List ℕ) → agrees ws classes ≡ true → length classes ≡ record_words
agree_length ws classes e = ap length (agree_full ws classes e) ∙ classes_length (live_keys ws)

module _ {L : Type 0} (words : L → List ℕ) (call : L → Outcome L) (b : Beside L) {r : Answer} where
  -- 3 or 15, as the check of words and record answered
  pub refused_so :
      {e : Refusal} → refusal_of (words b.lent) b.classes ≡ Some e → r ≡ answer_of e →
      Meets (counted_on words call b) r b
  unfolding counted_on
  refused_so {e} so is = at (is_list (words b.lent)) (agrees (words b.lent) b.classes) so
    where
      at : (t u : Bool) → cond t (cond u None (Some BadClasses)) (Some NotAList) ≡ Some e →
          Meets (cond t (cond u (read_anew words (call b.lent)) (refused BadClasses b)) (refused NotAList b)) r b
      at true true f = absurd (none-some e f)
      at true false f = record { answered = is ∙ ap answer_of (sym (same_Some BadClasses e f)); left = refl }
      at false u f = record { answered = is ∙ ap answer_of (sym (same_Some NotAList e f)); left = refl }

  module _ {s : Settings} (agreeing : Agreeing (words b.lent) b.classes s) {after : L} where
    -- what the call alone does, where the record is the full reading of the words left
    pub done_so :
        {classes : List ℕ} → Meets (call b.lent) r after → classes ≡ classes_of (words after) → Meets (counted_on words call b) r (beside after classes)
    unfolding counted_on
    done_so met full =
        rw (agreeing.listed.list, agreeing.agree)
        (record {
          answered = met.answered;
          left = λ i. beside (met.left i) ((full ∙ ap (λ l. classes_of (words l)) met.left) i);
        })

    -- .. or was kept, and so are the words: a refused call alters nothing
    pub renewed_so :
        {a : Answer} {classes : List ℕ} → Meets (call b.lent) a after → ((a.refusal ≡ 0 → ⊥) → after ≡ b.lent) →
        Renewed a (words after) b.classes r classes → Meets (counted_on words call b) r (beside after classes)
    renewed_so {a} {classes} met alters renewed =
        done_so (record { answered = renewed.answer ∙ met.answered; left = met.left }) (renewed.classes ∙ at (ℕ_discrete a.refusal 0))
      where
        at : Dec (a.refusal ≡ 0) → cond (eqb a.refusal 0) (classes_of (words after)) b.classes ≡ classes_of (words after)
        at (yes z) = rw (eq-eqb a.refusal 0 z) refl
        at (no n) =
            rw (ne_eqb a.refusal 0 n)
            (agree_full (words b.lent) b.classes agreeing.agree ∙ ap (λ l. classes_of (words l)) (sym (alters n)))
