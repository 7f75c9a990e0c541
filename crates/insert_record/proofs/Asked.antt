-- Each way out of a record has the outcome of the definition, by what it asks for.
use Rattle.std.specs.Prelude.{None, Option, Some}
use mathlib.Core.Path.{◌≡◌, refl, sym, subst, ◌∙◌, ap}
use mathlib.Core.Bool.{cond}
use mathlib.Core.List.{List}
use Prim.Native.Nat.{ℕ}
use lib.Dec.{eqb}
use Rattle.settings.specs.declared.Settings.{Settings}
use Rattle.entries.specs.Entries.{entry_key}
use Rattle.entries.specs.declared.Entry.{Entry}
use Rattle.notes.specs.Notes.{NoteWithin, Within}
use Rattle.full_number.specs.FullNumber.{full_number}
use Rattle.notes.specs.Notes.{Logged}
use Rattle.meaning.specs.Reading.{reading_of}
use Rattle.answers.specs.Refusals.{Outcome, Meets, answer_of}
use Rattle.answers.specs.declared.Refusal.{Refusal}
use Rattle.answers.specs.declared.Refusal.TheVariants.{BadRecord, NumberOutside}
use Rattle.meaning.specs.Operations.{insert_out}
use Rattle.calls.specs.Records.{Lent, lent_of, nothing, insertion, number_asks, note_asks, asked_out, note_out}
use Rattle.meaning.specs.Layer.Listed.{Listed}
use Rattle.answers.specs.declared.Answer.{Answer}
use Rattle.insert_record.specs.Noted.{Noted}

-- what a note that is made asks for
pub note_within : {logged : Logged} {e : Entry} {own : ℕ} → logged ≡ Some (e, own) → Within logged → NoteWithin e own
note_within is within = subst Within is within

pub no_note_asks : {logged : Logged} (last : ℕ) → logged ≡ None → note_asks last logged ≡ nothing BadRecord
no_note_asks last is = ap (note_asks last) is

pub outside_asks :
    {logged : Logged} {e : Entry} {own : ℕ} {full : Option ℕ} (last : ℕ) → logged ≡ Some (e, own) → full ≡ full_number last own →
    full ≡ None → note_asks last logged ≡ nothing NumberOutside
outside_asks {e = e} last is number told = ap (note_asks last) is ∙ ap (number_asks e) (sym number ∙ told)

pub note_asks_lem :
    {logged : Logged} {e : Entry} {own number key : ℕ} {full : Option ℕ} (last : ℕ) → logged ≡ Some (e, own) → full ≡ full_number last own →
    full ≡ Some number → key ≡ entry_key e → note_asks last logged ≡ insertion key number
note_asks_lem {e = e} {number = number} last is numbers told keys =
    ap (note_asks last) is ∙ (ap (number_asks e) (sym numbers ∙ told) ∙ ap (λ key. insertion key number) (sym keys))

module _ {ws : List ℕ} {s : Settings} (listed : Listed ws s) (logged : Logged) (last : ℕ) where
  on_list : (bytes : List ℕ) → note_out logged (lent_of ws bytes last) ≡ asked_out (lent_of ws bytes last) (note_asks last logged)
  unfolding note_out reading_of
  on_list bytes = rw listed.list refl

  -- it asks for nothing
  pub refused_meets :
      {refusal : Refusal} {r : Answer} → note_asks last logged ≡ nothing refusal → r ≡ answer_of refusal → Noted logged ws last r ws last
  refused_meets asks answers =
      record {
        meets = λ bytes.
            let o = on_list bytes ∙ ap (asked_out (lent_of ws bytes last)) asks in
            record { answered = answers ∙ sym (ap (λ (p : Outcome Lent). p.answered) o); left = sym (ap (λ (p : Outcome Lent). p.left) o) };
      }

  -- it asks for an insert
  pub inserted_meets :
      {key number : ℕ} {r : Answer} {us : List ℕ} {after : ℕ} → note_asks last logged ≡ insertion key number →
      Meets (insert_out ws key number) r us → after ≡ cond (eqb r.refusal 0) number last → Noted logged ws last r us after
  inserted_meets {key} {number} {r} {us} {after} asks meets advances =
      record {
        meets = λ bytes.
            let o = on_list bytes ∙ ap (asked_out (lent_of ws bytes last)) asks in
            let same = advances ∙ ap (λ (a : Answer). cond (eqb a.refusal 0) number last) meets.answered in
            record {
              answered = meets.answered ∙ sym (ap (λ (p : Outcome Lent). p.answered) o);
              left = (λ i. lent_of (meets.left i) bytes (same i)) ∙ sym (ap (λ (p : Outcome Lent). p.left) o);
            };
      }
