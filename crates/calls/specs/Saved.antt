-- The ninth and the tenth operation, write and read: what waits in a list is kept in a file, and a list is made of a file. The operations
-- 9 and 10, Files.
use Rattle.std.specs.Prelude.{cond, List, [], ◌∷◌, ◌++◌, ℕ, eqb, leb, length, drop, None, Option, Some}
use Rattle.settings.specs.Numbers.{length_of}
use Rattle.settings.specs.declared.Settings.{Settings}
use Rattle.files.specs.Files.{Pair, file_of, pairs_in, contents_of}
use Rattle.meaning.specs.Reading.{reading_of}
use Rattle.answers.specs.Refusals.{Outcome, accepted, refused}
use Rattle.answers.specs.declared.Refusal.TheVariants.{WrongLength, NotAList, BadFile, NoRoom}
use Rattle.meaning.specs.Operations.{set_up_out, insert_out, finish_out}
use Rattle.calls.specs.Pairs.{live_pairs}

-- What is lent to write and to read: the words of a list, and the bytes for a file or of one.
pub record FileLent : Type 0 where
  pub words : List ℕ
  pub file : List ℕ

abbrev pub file_lent : List ℕ → List ℕ → FileLent
file_lent words file = record { words = words; file = file }

-- Write.

-- The operations 9: the bytes past the file are kept.
abbrev pub written : FileLent → List ℕ → Outcome FileLent
written lent file =
    cond (leb (length file) (length lent.file))
    (accepted 0 0 (length file) (file_lent lent.words (file ++ drop (length file) lent.file)))
    (refused NoRoom lent)

-- Refusals 1: 3, then 12
abbrev pub write_on : FileLent → Option Settings → Outcome FileLent
write_on lent (Some s) = written lent (file_of s (live_pairs lent.words))
write_on lent None = refused NotAList lent

unfoldable pub write_out : FileLent → Outcome FileLent
write_out lent = write_on lent (reading_of lent.words)

-- Read.

-- some pairs are inserted, one after the other; ..
unfoldable pub inserted_all : List Pair → List ℕ → List ℕ
inserted_all [] ws = ws
inserted_all (p ∷ pairs) ws = inserted_all pairs (insert_out ws p.key p.value).left

-- .. and what their keys' cells owe is finished
unfoldable pub finished_all : List Pair → List ℕ → List ℕ
finished_all [] ws = ws
finished_all (p ∷ pairs) ws = finished_all pairs (finish_out ws p.key).left

-- The operations 10: the list that is set up so, then given the pairs in ascending order, and finished.
unfoldable pub read_in : Settings → List Pair → List ℕ → List ℕ
read_in s pairs ws = finished_all pairs (inserted_all pairs (set_up_out s.dimensions s.largest s.cells ws).left)

-- Refusals 1: 11, then 2; what the words held before does not matter
abbrev pub read_from : FileLent → Option (Settings × ℕ) → Outcome FileLent
read_from lent (Some (s, n)) =
    cond (eqb (length lent.words) (length_of s.dimensions s.cells))
    (accepted 0 0 n (file_lent (read_in s (pairs_in lent.file) lent.words) lent.file))
    (refused WrongLength lent)
read_from lent None = refused BadFile lent

unfoldable pub read_out : FileLent → Outcome FileLent
read_out lent = read_from lent (contents_of lent.file)
