-- By going through each call on all that may be lent: it is accepted, or it is refused by a number of the table and alters nothing.
use Rattle.settings.specs.declared.Settings.{Settings}
use Rattle.std.specs.Prelude.{None, Option, Some}
use mathlib.Core.Path.{◌≡◌, refl, sym, ap, ◌∙◌}
use mathlib.Core.Bool.{Bool, true, false, cond}
use mathlib.Core.List.{List}
use Prim.Native.Nat.{ℕ}
use native.Mathlib.Omega.{arith}
use lib.Dec.{eqb, leb}
use lib.ListN.{length}
use borrow.Author.Tests.{ne_eqb}
use Rattle.settings.specs.Numbers.{length_of}
use Rattle.lists.proofs.Tests.{cond_has}
use Rattle.notes.specs.Notes.{note_by}
use Rattle.files.specs.Files.{file_of, contents_of}
use Rattle.calls.specs.Pairs.{live_pairs}
use Rattle.meaning.specs.Reading.{settings_at, is_list, reading_of}
use Rattle.answers.specs.Refusals.{Outcome, answer_of, refused}
use Rattle.answers.specs.declared.Refusal.{Refusal}
use Rattle.answers.specs.declared.Refusal.TheVariants.{WrongLength, NotAList, BadFile, NoRoom}
use Rattle.meaning.specs.Operations.{insert_out, operation_out}
use Rattle.calls.specs.Records.{Lent, lent_of, Asked, nothing, insertion, note_asks, recorded, asked_out, note_on, note_out, record_out}
use Rattle.calls.specs.Saved.{FileLent, file_lent, write_on, write_out, read_from, read_out}
use Rattle.calls.specs.Calls.{on_words, on_file, outcome}
use Rattle.calls.specs.Promises.{RefusedAltersNothing}
use Rattle.calls.specs.declared.Call.{Call}
use Rattle.answers.specs.declared.Operation.{Operation}
use Rattle.answers.specs.declared.Operation.TheVariants.{Insert, Find, Finish, Take, Sweep}
use Rattle.calls.specs.declared.Call.TheVariants.{SetUp, Operate, Record, Write, Read}
use Rattle.meaning.proofs.Outcomes.{set_up_has, insert_has, find_has, finish_has, take_has, sweep_has}
use Rattle.answers.proofs.Refusals.{table}

data Ends {Lent : Type 0} (lent : Lent) (o : Outcome Lent) : Type 0 where
  well : o.answered.refusal ≡ 0 → Ends lent o
  refusing : (r : Refusal) → o ≡ refused r lent → Ends lent o

turned_away : {Lent : Type 0} (lent : Lent) (r : Refusal) → Ends lent (refused r lent)
turned_away lent r = refusing r refl

-- .. and so nothing else that was lent
ends_lent : (lent : Lent) (o : Outcome (List ℕ)) → Ends lent.words o → Ends lent (on_words lent o)
ends_lent lent o (well z) = well z
ends_lent lent o (refusing r e) = refusing r (ap (on_words lent) e)

ends_file : (lent : Lent) (o : Outcome FileLent) → Ends (file_lent lent.words lent.bytes) o → Ends lent (on_file lent o)
ends_file lent o (well z) = well z
ends_file lent o (refusing r e) = refusing r (ap (on_file lent) e)

insert_ends : (ws : List ℕ) (key value : ℕ) → Ends ws (insert_out ws key value)
insert_ends ws key value = insert_has (Ends ws) ws (turned_away ws) key value (λ count s. well refl)

-- a refused insert advances no last number
ends_recorded : (lent : Lent) (number : ℕ) (o : Outcome (List ℕ)) → Ends lent.words o → Ends lent (recorded lent number o)
ends_recorded lent number o (well z) = well z
ends_recorded lent number o (refusing r e) =
    refusing r (ap (recorded lent number) e ∙
    ap (λ t. record { answered = answer_of r; left = lent_of lent.words lent.bytes (cond t number lent.last) }) (ne_eqb (answer_of r).refusal 0 (table r).0))

asked_ends : (lent : Lent) (asked : Asked) → Ends lent (asked_out lent asked)
asked_ends lent (nothing r) = refusing r refl
asked_ends lent (insertion key number) = ends_recorded lent number (insert_out lent.words key number) (insert_ends lent.words key number)

write_ends : (lent : FileLent) → Ends lent (write_out lent)
unfolding write_out
write_ends lent = at (reading_of lent.words)
  where
    at : (reading : Option Settings) → Ends lent (write_on lent reading)
    at (Some s) =
        let file = file_of s (live_pairs lent.words) in
        cond_has (Ends lent) (leb (length file) (length lent.file)) _ _ (well refl) (turned_away lent NoRoom)
    at None = turned_away lent NotAList

read_ends : (lent : FileLent) → Ends lent (read_out lent)
unfolding read_out
read_ends lent = at (contents_of lent.file)
  where
    at : (contents : Option (Settings × ℕ)) → Ends lent (read_from lent contents)
    at (Some (s, n)) =
        cond_has (Ends lent) (eqb (length lent.words) (length_of s.dimensions s.cells)) _ _ (well refl) (turned_away lent WrongLength)
    at None = turned_away lent BadFile

operation_ends : (ws : List ℕ) (operation : Operation) → Ends ws (operation_out operation ws)
operation_ends ws (Insert key value) = insert_ends ws key value
operation_ends ws (Find key) = find_has (Ends ws) ws (turned_away ws) key (λ value count. well refl)
operation_ends ws (Finish key) = finish_has (Ends ws) ws (turned_away ws) key (λ count s. well refl)
operation_ends ws Take = take_has (Ends ws) ws (turned_away ws) (λ key value count s. well refl)
operation_ends ws Sweep = sweep_has (Ends ws) ws (turned_away ws) (λ count s. well refl)

ends : (call : Call) (lent : Lent) → Ends lent (outcome call lent)
unfolding outcome record_out note_out
ends (SetUp D K C) lent = ends_lent lent _ (set_up_has (Ends lent.words) lent.words (turned_away lent.words) D K C (well refl))
ends (Operate operation) lent = ends_lent lent _ (operation_ends lent.words operation)
ends Record lent = at (reading_of lent.words)
  where
    at : (reading : Option Settings) → Ends lent (note_on lent (note_by lent.bytes) reading)
    at (Some s) = asked_ends lent (note_asks lent.last (note_by lent.bytes))
    at None = refusing NotAList refl
ends Write lent = ends_file lent _ (write_ends (file_lent lent.words lent.bytes))
ends Read lent = ends_file lent _ (read_ends (file_lent lent.words lent.bytes))

pub refused_alters_nothing : RefusedAltersNothing
refused_alters_nothing call lent ne = at (ends call lent)
  where
    at : Ends lent (outcome call lent) → (outcome call lent).left ≡ lent
    at (well z) = absurd (ne z)
    at (refusing r e) = ap (λ o. o.left) e

pub call_never_nine : (call : Call) (lent : Lent) → (outcome call lent).answered.refusal ≡ 9 → ⊥
call_never_nine call lent nine = at (ends call lent)
  where
    at : Ends lent (outcome call lent) → ⊥
    at (well z) = omega arith
    at (refusing r e) = (table r).1 (sym (ap (λ o. o.answered.refusal) e) ∙ nine)

-- on a list a record does what it asks for
pub record_asks : (lent : Lent) → is_list lent.words ≡ true → record_out lent ≡ asked_out lent (note_asks lent.last (note_by lent.bytes))
unfolding record_out note_out reading_of
record_asks lent e = rw e refl

-- .. and what is accepted was asked of a list
pub accepted_on_list : (lent : Lent) → (record_out lent).answered.refusal ≡ 0 → is_list lent.words ≡ true
unfolding record_out note_out reading_of
accepted_on_list lent = at (is_list lent.words)
  where
    at :
        (t : Bool) → (note_on lent (note_by lent.bytes) (cond t (Some (settings_at lent.words)) None)).answered.refusal ≡ 0 → t ≡ true
    at true z = refl
    at false z = absurd (omega arith)
