-- Entries: class, unit and serial, their ranges, and the key that they make.
use Rattle.std.specs.Prelude.{Bool, List, ℕ, ◌+◌, ◌*◌, ◌≤◌}
use Rattle.text.specs.Fields.{decimal_from, is_number}
use Rattle.entries.specs.declared.Entry.{Entry}

-- Entries 1: the ranges of class, unit and serial.
abbrev pub least_class : ℕ
least_class = 0

abbrev pub most_class : ℕ
most_class = 15

abbrev pub least_unit : ℕ
least_unit = 1

abbrev pub most_unit : ℕ
most_unit = 65535

abbrev pub least_serial : ℕ
least_serial = 0

abbrev pub most_serial : ℕ
most_serial = 4095

abbrev pub is_class : List ℕ → Bool
is_class field = is_number least_class most_class field

abbrev pub is_unit : List ℕ → Bool
is_unit field = is_number least_unit most_unit field

abbrev pub is_serial : List ℕ → Bool
is_serial field = is_number least_serial most_serial field

abbrev pub entry_of : ℕ → ℕ → ℕ → Entry
entry_of class unit serial = record { class = class; unit = unit; serial = serial }

-- the entry of three fields
abbrev pub entry : List ℕ → List ℕ → List ℕ → Entry
entry class unit serial = entry_of (decimal_from 0 class) (decimal_from 0 unit) (decimal_from 0 serial)

pub record InRange (e : Entry) : Type 0 where
  pub class_most : e.class ≤ most_class
  pub unit_least : least_unit ≤ e.unit
  pub unit_most : e.unit ≤ most_unit
  pub serial_most : e.serial ≤ most_serial

-- Entries 2: the key. A unit has a key for each serial, a class for each unit from 0 on.
abbrev pub keys_per_unit : ℕ
keys_per_unit = 4096

abbrev pub keys_per_class : ℕ
keys_per_class = 268435456

abbrev pub entry_key : Entry → ℕ
entry_key e = e.class * keys_per_class + e.unit * keys_per_unit + e.serial
