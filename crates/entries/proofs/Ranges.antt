-- The entry of three fields that are numbers in their ranges is in range.
use mathlib.Core.Path.{◌≡◌, refl}
use mathlib.Core.Bool.{true}
use mathlib.Core.List.{List}
use Prim.Native.Nat.{ℕ}
use Rattle.text.specs.Fields.{decimal_from}
use Rattle.text.specs.Answers.{number_of}
use Rattle.text.proofs.Numerals.{number_within}
use Rattle.entries.specs.Entries.{least_class, most_class, least_unit, most_unit, least_serial, most_serial, is_class, is_unit, is_serial, InRange, entry}

pub entry_in_range :
    (class unit serial : List ℕ) → is_class class ≡ true → is_unit unit ≡ true → is_serial serial ≡ true → InRange (entry class unit serial)
unfolding number_of
entry_in_range class unit serial c u s =
    let p = number_within least_class most_class class {n = decimal_from 0 class} (rw c refl) in
    let q = number_within least_unit most_unit unit {n = decimal_from 0 unit} (rw u refl) in
    let r = number_within least_serial most_serial serial {n = decimal_from 0 serial} (rw s refl) in
    record { class_most = p.1; unit_least = q.0; unit_most = q.1; serial_most = r.1 }
