-- What is promised of files; proofs/Promises.antt proves it.
use Rattle.std.specs.Prelude.{◌≡◌, true, List, ◌↔◌, ℕ, length, ltb, Some}
use Rattle.settings.specs.Numbers.{base_of}
use Rattle.settings.specs.declared.Settings.{Settings}
use Rattle.lists.specs.Lists.{every}
use Rattle.files.specs.Files.{Pair, file_of, keeps, is_file, pairs_in, settings_in, contents_of}

-- settings and pairs that a file keeps: Files 5; a value is any number of 32 bits
pub record Kept (s : Settings) (pairs : List Pair) : Type 0 where
  pub keeps_them : keeps s pairs ≡ true
  pub base : s.base ≡ base_of s.dimensions s.largest
  pub values : every (λ p. ltb p.value 4294967296) pairs ≡ true

pub record FileOf (bytes : List ℕ) : Type 0 where
  pub settings : Settings
  pub pairs : List Pair
  pub kept : Kept settings pairs
  pub is : bytes ≡ file_of settings pairs

-- 1. The reading accepts exactly the bytes that are the file of settings and pairs that may be kept.
abbrev pub FilesExactly : Type 0
FilesExactly = (bytes : List ℕ) → (is_file bytes ≡ true) ↔ FileOf bytes

-- 2. What is written is what is read: so settings and pairs have one file, and a file is of one list's settings and pairs.
abbrev pub WrittenIsRead : Type 0
WrittenIsRead =
    (s : Settings) (pairs : List Pair) → Kept s pairs
    → (settings_in (file_of s pairs) ≡ s) × ((pairs_in (file_of s pairs) ≡ pairs) × (contents_of (file_of s pairs) ≡ Some (s, length pairs)))
