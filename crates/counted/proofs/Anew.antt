-- Set up and read, which make a list anew: what each refuses by itself, then a record of another length; else the record is read anew.
use Rattle.std.specs.Prelude.{None, Some}
use mathlib.Core.Path.{◌≡◌, refl, sym, ap, ◌∙◌}
use mathlib.Core.Bool.{Bool, true, false}
use mathlib.Core.List.{List, []}
use Prim.Native.Nat.{ℕ}
use native.Mathlib.Decide.{ℕ_discrete}
use native.Mathlib.Omega.{arith}
use lib.ListN.{length, replicate}
use borrow.Author.Tests.{eq-eqb, ne_eqb}
use Rattle.settings.specs.Numbers.{in_range, length_of}
use Rattle.settings.specs.declared.Settings.{Settings}
use Rattle.lists.specs.Lists.{those}
use Rattle.answers.specs.Refusals.{Meets, answer}
use Rattle.answers.specs.declared.Refusal.{Refusal}
use Rattle.answers.specs.declared.Refusal.TheVariants.{WrongLength, BadClasses}
use Rattle.answers.specs.declared.Answer.{Answer}
use Rattle.files.specs.Files.{contents_of}
use Rattle.meaning.specs.State.{State}
use Rattle.meaning.specs.Picture.{picture}
use Rattle.meaning.specs.Reading.{settings_at}
use Rattle.meaning.specs.Operations.{fresh, set_up_out}
use Rattle.meaning.specs.Layer.Listed.{Listed}
use Rattle.meaning.proofs.Pictures.ReadBack.{read_of_picture}
use Rattle.meaning.proofs.Kept.KeepsSetUp.{fresh_sound}
use Rattle.meaning.proofs.Outcomes.{set_up_outcome_out_of_range, set_up_outcome_wrong_length, set_up_outcome}
use Rattle.calls.specs.Records.{Lent, lent_of}
use Rattle.calls.specs.Saved.{FileLent, file_lent, read_out}
use Rattle.calls.specs.Calls.{outcome}
use Rattle.calls.specs.declared.Call.{Call}
use Rattle.calls.specs.declared.Call.TheVariants.{SetUp, Read}
use Rattle.calls.proofs.Promises.{refused_alters_nothing, read_gives_list}
use Rattle.classes.specs.Classes.{record_words, live_keys_in, classes_in, classes_of}
use Rattle.classes.proofs.Classes.{no_keys}
use Rattle.counted.specs.Counted.{beside, words_beside, lent_words, anew_on, counted_out}
use Rattle.counted.specs.Checked.{set_up_refusal, read_refusal}

-- Either of them, where it was made

module _ (call : Call) (otherLength : Refusal) (lent : Lent) {r : Answer} {after : Lent} (met : Meets (outcome call lent) r after) (classes : List ℕ) where
  -- it was refused
  anew_refused : (r.refusal ≡ 0 → ⊥) → Meets (anew_on lent_words otherLength (outcome call) (beside lent classes)) r (beside after classes)
  unfolding anew_on
  anew_refused ne =
      let refusal : (outcome call lent).answered.refusal ≡ 0 → ⊥ = λ z. ne (ap (λ (a : Answer). a.refusal) met.answered ∙ z) in
      rw (ne_eqb (outcome call lent).answered.refusal 0 refusal)
      (record { answered = met.answered; left = λ i. beside ((met.left ∙ refused_alters_nothing call lent refusal) i) classes })

  -- .. or accepted, with a record that has its length
  anew_done :
      r.refusal ≡ 0 → length classes ≡ record_words → {left : List ℕ} → left ≡ classes_of after.words →
      Meets (anew_on lent_words otherLength (outcome call) (beside lent classes)) r (beside after left)
  unfolding anew_on
  anew_done z long full =
      let accepts = ap (λ (a : Answer). a.refusal) (sym met.answered) ∙ z in
      rw (eq-eqb (outcome call lent).answered.refusal 0 accepts, eq-eqb (length classes) record_words long)
      (record {
        answered = met.answered;
        left = λ i. beside (met.left i) ((full ∙ ap (λ (l : Lent). classes_of l.words) met.left) i);
      })

-- Set up

module _ (D K C : ℕ) (ws : List ℕ) where
  set_up_met : {r : Answer} {us : List ℕ} → Meets (set_up_out D K C ws) r us → Meets (outcome (SetUp D K C) (lent_of ws [] 0)) r (lent_of us [] 0)
  unfolding outcome
  set_up_met met = record { answered = met.answered; left = ap (λ us. lent_of us [] 0) met.left }

  -- a record of another length: 1, then 2
  pub no_set_up :
      (classes : List ℕ) {r : Answer} → (length classes ≡ record_words → ⊥) → r ≡ set_up_refusal D K C →
      Meets (counted_out (SetUp D K C) (words_beside ws classes)) r (words_beside ws classes)
  unfolding counted_out anew_on outcome
  no_set_up classes {r} other is = at (in_range D K C) refl (ℕ_discrete (length ws) (length_of D C))
    where
      at : (t : Bool) → in_range D K C ≡ t → Dec (length ws ≡ length_of D C) →
          Meets (counted_out (SetUp D K C) (words_beside ws classes)) r (words_beside ws classes)
      at false e l = rw (set_up_outcome_out_of_range D K C ws e) (record { answered = rw e at is; left = refl })
      at true e (no l) = rw (set_up_outcome_wrong_length D K C ws e l) (record { answered = rw e at is; left = refl })
      at true e (yes l) =
          rw (set_up_outcome D K C ws e l, ne_eqb (length classes) record_words other) (record { answered = rw e at is; left = refl })

  -- a fresh list has nothing live
  fresh_classes : in_range D K C ≡ true → classes_of (picture (fresh D K C)) ≡ replicate record_words 0
  unfolding fresh those
  fresh_classes range = ap (λ (s : State). classes_in (live_keys_in s.row)) (read_of_picture (fresh D K C) (fresh_sound D K C range)) ∙ no_keys

  set_up_classes : (set_up_out D K C ws).answered.refusal ≡ 0 → classes_of (set_up_out D K C ws).left ≡ replicate record_words 0
  set_up_classes z = at (in_range D K C) refl (ℕ_discrete (length ws) (length_of D C))
    where
      at : (t : Bool) → in_range D K C ≡ t → Dec (length ws ≡ length_of D C) → classes_of (set_up_out D K C ws).left ≡ replicate record_words 0
      at false e l = absurd (let r = ap (λ o. o.answered.refusal) (set_up_outcome_out_of_range D K C ws e) in omega arith)
      at true e (no l) = absurd (let r = ap (λ o. o.answered.refusal) (set_up_outcome_wrong_length D K C ws e l) in omega arith)
      at true e (yes l) = ap (λ o. classes_of o.left) (set_up_outcome D K C ws e l) ∙ fresh_classes e

  module _ (classes : List ℕ) {r : Answer} {us : List ℕ} (met : Meets (set_up_out D K C ws) r us) where
    pub set_up_refused : (r.refusal ≡ 0 → ⊥) → Meets (counted_out (SetUp D K C) (words_beside ws classes)) r (words_beside us classes)
    unfolding counted_out
    set_up_refused = anew_refused (SetUp D K C) WrongLength (lent_of ws [] 0) (set_up_met met) classes

    pub set_up_done :
        r.refusal ≡ 0 → length classes ≡ record_words → {left : List ℕ} → left ≡ replicate (length classes) 0 →
        Meets (counted_out (SetUp D K C) (words_beside ws classes)) r (words_beside us left)
    unfolding counted_out
    set_up_done z long zeros =
        let accepts = ap (λ (a : Answer). a.refusal) (sym met.answered) ∙ z in
        anew_done (SetUp D K C) WrongLength (lent_of ws [] 0) (set_up_met met) classes z long
        (zeros ∙ ap (λ n. replicate n 0) long ∙ sym (set_up_classes accepts) ∙ ap classes_of (sym met.left))

-- Read

-- what a read answers to a record of another length, by what the bytes are read as
module _ (ws file : List ℕ) {r : Answer} where
  pub no_file_answer : contents_of file ≡ None → r ≡ answer 11 0 0 0 → r ≡ read_refusal (file_lent ws file)
  unfolding read_out
  no_file_answer none is = rw none is

  module _ {s : Settings} {n : ℕ} (says : contents_of file ≡ Some (s, n)) where
    pub other_words_answer : (length ws ≡ length_of s.dimensions s.cells → ⊥) → r ≡ answer 2 0 0 0 → r ≡ read_refusal (file_lent ws file)
    unfolding read_out
    other_words_answer other is = rw (says, ne_eqb (length ws) (length_of s.dimensions s.cells) other) is

    pub other_record_answer : length ws ≡ length_of s.dimensions s.cells → r ≡ answer 15 0 0 0 → r ≡ read_refusal (file_lent ws file)
    unfolding read_out
    other_record_answer long is = rw (says, eq-eqb (length ws) (length_of s.dimensions s.cells) long) is

module _ (ws file classes : List ℕ) {r : Answer} where
  pub no_read :
      (length classes ≡ record_words → ⊥) → r ≡ read_refusal (file_lent ws file) →
      Meets (counted_out Read (beside (lent_of ws file 0) classes)) r (beside (lent_of ws file 0) classes)
  unfolding counted_out anew_on outcome
  no_read other is = at (ℕ_discrete (read_out (file_lent ws file)).answered.refusal 0)
    where
      at : Dec ((read_out (file_lent ws file)).answered.refusal ≡ 0) → Meets (counted_out Read (beside (lent_of ws file 0) classes)) r (beside (lent_of ws file 0) classes)
      at (yes z) =
          let e = eq-eqb (read_out (file_lent ws file)).answered.refusal 0 z in
          rw (e, ne_eqb (length classes) record_words other) (record { answered = rw e at is; left = refl })
      at (no ne) =
          let e = ne_eqb (read_out (file_lent ws file)).answered.refusal 0 ne in
          rw e (record { answered = rw e at is; left = refl })

  module _ {us : List ℕ} (met : Meets (read_out (file_lent ws file)) r (file_lent us file)) where
    read_met : Meets (outcome Read (lent_of ws file 0)) r (lent_of us file 0)
    unfolding outcome
    read_met = record { answered = met.answered; left = λ i. lent_of (met.left i).words (met.left i).file 0 }

    pub read_refused : (r.refusal ≡ 0 → ⊥) → Meets (counted_out Read (beside (lent_of ws file 0) classes)) r (beside (lent_of us file 0) classes)
    unfolding counted_out
    read_refused = anew_refused Read BadClasses (lent_of ws file 0) read_met classes

    -- what is read is a list with the settings in its header
    pub read_listed : r.refusal ≡ 0 → Listed us (settings_at us)
    read_listed z =
        let accepts = ap (λ (a : Answer). a.refusal) (sym met.answered) ∙ z in
        let left = ap (λ (l : FileLent). l.words) met.left in
        record { list = rw left (read_gives_list (file_lent ws file) accepts).list; settings = refl }

    pub read_done :
        r.refusal ≡ 0 → length classes ≡ record_words → {left : List ℕ} → left ≡ classes_of us →
        Meets (counted_out Read (beside (lent_of ws file 0) classes)) r (beside (lent_of us file 0) left)
    unfolding counted_out
    read_done z long full = anew_done Read BadClasses (lent_of ws file 0) read_met classes z long full
