-- What each call does to what waits and to a run of takes, in one place: a new call adds a row here. What an ordered map would do (Book), what a run costs
-- (Runs) and which calls keep the settings go by it.
use Rattle.settings.specs.declared.Settings.{Settings}
use Rattle.std.specs.Prelude.{Bool, true, false, cond, ◌&&◌, List, [], ℕ, eqb, None, Option, Some}
use Rattle.settings.specs.Numbers.{in_range, length_of}
use Rattle.answers.specs.declared.Operation.{Operation}
use Rattle.answers.specs.declared.Operation.TheVariants.{Insert, Find, Finish, Take, Sweep}
use Rattle.notes.specs.Notes.{note_by}
use Rattle.files.specs.Files.{Pair, pairs_in, contents_of}
use Rattle.calls.specs.Records.{Asked, nothing, insertion, note_asks}
use Rattle.calls.specs.Calls.{Made}
use Rattle.calls.specs.declared.Call.{Call}
use Rattle.calls.specs.declared.Call.TheVariants.{SetUp, Operate, Record, Write, Read}

pub data Effect : Type 0 where
  -- what waits and where the takes stand is left alone
  keeping : Effect
  -- a key is tried to be inserted with its value
  inserting : (key value : ℕ) → Effect
  -- the least live key is taken
  taking : Effect
  -- dead keys are freed
  sweeping : Effect
  -- a list is made anew, with this largest key, these cells and these pairs
  renewing : (largest cells : ℕ) (pairs : List Pair) → Effect

abbrev pub operation_effect : Operation → Effect
operation_effect (Insert key value) = inserting key value
operation_effect (Find key) = keeping
operation_effect (Finish key) = keeping
operation_effect Take = taking
operation_effect Sweep = sweeping

-- a record inserts what it asks for
abbrev pub asked_effect : Asked → Effect
asked_effect (nothing refusal) = keeping
asked_effect (insertion key number) = inserting key number

-- a file is read into a buffer of `long` words: what it keeps is all that waits
abbrev pub file_effect : Option (Settings × ℕ) → List Pair → ℕ → Effect
file_effect (Some (s, n)) pairs long = cond (eqb long (length_of s.dimensions s.cells)) (renewing s.largest s.cells pairs) keeping
file_effect None pairs long = keeping

-- a call on a buffer of `long` words, where a record asks for this and these bytes are lent
abbrev pub effect_of : Call → Asked → List ℕ → ℕ → Effect
effect_of (SetUp D K C) asked bytes long = cond (in_range D K C && eqb long (length_of D C)) (renewing K C []) keeping
effect_of (Operate operation) asked bytes long = operation_effect operation
effect_of Record asked bytes long = asked_effect asked
effect_of Write asked bytes long = keeping
effect_of Read asked bytes long = file_effect (contents_of bytes) (pairs_in bytes) long

-- what the record asks for that is lent to a call
abbrev pub asked_in : Made → Asked
asked_in made = note_asks made.last (note_by made.bytes)

abbrev pub effect : Made → ℕ → Effect
effect made long = effect_of made.call (asked_in made) made.bytes long

-- the dimensions, largest key, cells and base stay, unless a list is made anew
abbrev pub keeps_settings : Effect → Bool
keeps_settings keeping = true
keeps_settings (inserting key value) = true
keeps_settings taking = true
keeps_settings sweeping = true
keeps_settings (renewing largest cells pairs) = false

-- .. and so do the live pairs, unless a key is inserted or taken
abbrev pub keeps_pairs : Effect → Bool
keeps_pairs keeping = true
keeps_pairs (inserting key value) = false
keeps_pairs taking = false
keeps_pairs sweeping = true
keeps_pairs (renewing largest cells pairs) = false
