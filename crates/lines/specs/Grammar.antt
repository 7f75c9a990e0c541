-- The grammar of a line: The order program 1 to 4.
use Rattle.std.specs.Prelude.{Bool, cond, ◌&&◌, List, [], ◌∷◌, ℕ, leb, length, Option, None, Some}
use Rattle.lists.specs.Lists.{same}
use Rattle.text.specs.Fields.{fields_of, decimal_from, is_number}
use Rattle.text.specs.Lines.{most_bytes}
use Rattle.entries.specs.Entries.{is_class, is_unit, is_serial, InRange, entry}
use Rattle.entries.specs.declared.Entry.{Entry}
use Rattle.lines.specs.declared.Kind.{Kind}
use Rattle.lines.specs.declared.Line.{Line}
use Rattle.lines.specs.declared.Kind.TheVariants.{Insert, Find, Finish, Take, Sweep}

-- Numbers 2: any value
abbrev pub least_value : ℕ
least_value = 0

abbrev pub most_value : ℕ
most_value = 4294967295

abbrev pub is_value : List ℕ → Bool
is_value field = is_number least_value most_value field

-- the entry of a kind of line, where it has one, is in range
abbrev pub KindInRange : Kind → Type 0
KindInRange (Insert e value) = InRange e
KindInRange (Find e) = InRange e
KindInRange (Finish e) = InRange e
KindInRange Take = Unit {0}
KindInRange Sweep = Unit {0}

abbrev pub readable : Bool → Kind → Option Line
readable test kind = cond test (Some (record { kind = kind })) None

-- after `N`: class, unit, serial, value
unfoldable pub insert_fields : List (List ℕ) → Option Line
insert_fields [] = None
insert_fields (class ∷ []) = None
insert_fields (class ∷ unit ∷ []) = None
insert_fields (class ∷ unit ∷ serial ∷ []) = None
insert_fields (class ∷ unit ∷ serial ∷ value ∷ []) =
    readable (is_class class && (is_unit unit && (is_serial serial && is_value value))) (Insert (entry class unit serial) (decimal_from 0 value))
insert_fields (class ∷ unit ∷ serial ∷ value ∷ further ∷ fields) = None

-- after `F` and `A`: class, unit, serial
unfoldable pub entry_fields : (Entry → Kind) → List (List ℕ) → Option Line
entry_fields kind [] = None
entry_fields kind (class ∷ []) = None
entry_fields kind (class ∷ unit ∷ []) = None
entry_fields kind (class ∷ unit ∷ serial ∷ []) =
    readable (is_class class && (is_unit unit && is_serial serial)) (kind (entry class unit serial))
entry_fields kind (class ∷ unit ∷ serial ∷ further ∷ fields) = None

-- after `T` and `S`: nothing
unfoldable pub no_fields : Kind → List (List ℕ) → Option Line
no_fields kind [] = Some (record { kind = kind })
no_fields kind (further ∷ fields) = None

-- the five kinds, by their first field: the letters N, F, A, T, S
unfoldable pub kind_of : List (List ℕ) → Option Line
kind_of [] = None
kind_of (letter ∷ fields) =
    cond (same letter (78 ∷ [])) (insert_fields fields)
    (cond (same letter (70 ∷ [])) (entry_fields Find fields)
    (cond (same letter (65 ∷ [])) (entry_fields Finish fields)
    (cond (same letter (84 ∷ [])) (no_fields Take fields)
    (cond (same letter (83 ∷ [])) (no_fields Sweep fields) None))))

-- The order program 4: every other line is unreadable
unfoldable pub parsed_of : List ℕ → Option Line
parsed_of line = cond (leb 1 (length line) && leb (length line) most_bytes) (kind_of (fields_of line)) None
