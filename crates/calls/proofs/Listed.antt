-- A call takes a list to a list with the settings that it had, so that a caller that has checked its list once need not check it again.
use mathlib.Core.Path.{◌≡◌, refl, ◌∙◌}
use mathlib.Core.Bool.{true}
use mathlib.Core.List.{List}
use Prim.Native.Nat.{ℕ}
use lib.ListN.{length}
use Rattle.settings.specs.declared.Settings.{Settings}
use Rattle.answers.specs.declared.Operation.{Operation}
use Rattle.answers.specs.declared.Operation.TheVariants.{Insert, Find, Finish, Take, Sweep}
use Rattle.notes.specs.Notes.{Logged}
use Rattle.meaning.specs.Reading.{reading_of}
use Rattle.meaning.specs.Operations.{operation_out}
use Rattle.calls.specs.Records.{lent_of, Asked, nothing, insertion, note_asks, asked_out, note_out}
use Rattle.calls.specs.Calls.{outcome, Made, operated, made_on}
use Rattle.calls.specs.Effects.{operation_effect, effect, keeps_settings}
use Rattle.meaning.specs.Layer.Listed.{Listed}
use Rattle.calls.proofs.Booked.Book.{calls_keep_lists, calls_keep_settings}

pub made_listed :
    {ws : List ℕ} {s : Settings} (made : Made) → keeps_settings (effect made (length ws)) ≡ true → Listed ws s → Listed (made_on made ws).left.words s
made_listed {ws} made keeps listed =
    record {
      list = calls_keep_lists made ws listed.list;
      settings = calls_keep_settings made ws listed.list keeps ∙ listed.settings;
    }

operation_keeps : (operation : Operation) → keeps_settings (operation_effect operation) ≡ true
operation_keeps (Insert key value) = refl
operation_keeps (Find key) = refl
operation_keeps (Finish key) = refl
operation_keeps Take = refl
operation_keeps Sweep = refl

pub operation_listed : {ws : List ℕ} {s : Settings} (operation : Operation) → Listed ws s → Listed (operation_out operation ws).left s
unfolding outcome
operation_listed operation listed = made_listed (operated operation) (operation_keeps operation) listed

-- .. and so does a note
asked_listed : {ws : List ℕ} {s : Settings} (bytes : List ℕ) (last : ℕ) (asked : Asked) → Listed ws s → Listed (asked_out (lent_of ws bytes last) asked).left.words s
asked_listed bytes last (nothing refusal) listed = listed
asked_listed bytes last (insertion key number) listed = operation_listed (Insert key number) listed

pub note_listed :
    {ws : List ℕ} {s : Settings} (logged : Logged) (bytes : List ℕ) (last : ℕ) → Listed ws s → Listed (note_out logged (lent_of ws bytes last)).left.words s
unfolding note_out reading_of
note_listed logged bytes last listed = rw listed.list (asked_listed bytes last (note_asks last logged) listed)
