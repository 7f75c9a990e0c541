-- What the functions of the parser answer: the first of the fields that are left of a line, and where it ends.
use Rattle.std.specs.Prelude.{cond, ◌&&◌, List, [], ◌∷◌, ◌≡◌, ℕ, ◌+◌, ◌≤◌, ltb, length, drop, Option, None, Some}
use Rattle.text.specs.Fields.{fields_of, decimal_from, is_number}
use Rattle.entries.specs.Entries.{is_class, is_unit, is_serial, entry}
use Rattle.entries.specs.declared.Entry.{Entry}

-- the fields after the field that ends at `at`
unfoldable pub fields_after : List ℕ → ℕ → List (List ℕ)
fields_after line at = cond (ltb at (length line)) (fields_of (drop (at + 1) line)) []

-- the number that is the first of some fields, with the fields after it
unfoldable pub first_number : ℕ → ℕ → List (List ℕ) → Option (ℕ × List (List ℕ))
first_number least most [] = None
first_number least most (field ∷ fields) = cond (is_number least most field) (Some (decimal_from 0 field, fields)) None

-- the entry that is the first three of some fields, with the fields after it
unfoldable pub first_entry : List (List ℕ) → Option (Entry × List (List ℕ))
first_entry [] = None
first_entry (class ∷ []) = None
first_entry (class ∷ unit ∷ []) = None
first_entry (class ∷ unit ∷ serial ∷ fields) =
    cond (is_class class && (is_unit unit && is_serial serial)) (Some (entry class unit serial, fields)) None

-- What the code's values mean.

-- what is read first of the fields of a line, with those after it
abbrev pub read_in : {A : Type 0} → List ℕ → Option (A × ℕ) → Option (A × List (List ℕ))
read_in line (Some (x, end)) = Some (x, fields_after line end)
read_in line None = None

-- where the last of its fields ends
abbrev pub read_end : {A : Type 0} → Option (A × ℕ) → ℕ
read_end (Some (x, end)) = end
read_end None = 0

-- The first of some fields of a line, and where the last of its fields ends.
pub record ReadAfter {A : Type 0} (line : List ℕ) (first : Option (A × List (List ℕ))) (r : Option (A × ℕ)) : Type 0 where
  pub is : read_in line r ≡ first
  pub within : read_end r ≤ length line
