-- What is promised of the full number. proofs/Promises.antt proves each.
use Rattle.std.specs.Prelude.{◌≡◌, ℕ, ◌+◌, ◌<◌, ◌≤◌, ◌↔◌, Some}
use Rattle.full_number.specs.FullNumber.{numbers_per_round, most_full, Full, round_on, full_number}

-- two numbers that are both the full number of a record's own are the same
abbrev pub OneFullNumber : Type 0
OneFullNumber = (last own n m : ℕ) → Full last own n → Full last own m → n ≡ m

-- .. and there always is one, if one counts from a round further on: the full number itself may be below 0
abbrev pub SomeFullNumber : Type 0
SomeFullNumber = (last own : ℕ) → Full (last + numbers_per_round) own (round_on last own)

-- after an accepted record the full number is what it is to be, or there is none that fits
abbrev pub FullNumberIs : Type 0
FullNumberIs = (last own n : ℕ) → last ≤ most_full → (full_number last own ≡ Some n) ↔ (Full last own n × (n ≤ most_full))

-- until a record is accepted it is the record's own and 65,536
abbrev pub FirstNumber : Type 0
FirstNumber = (last own : ℕ) → most_full < last → full_number last own ≡ Some (own + numbers_per_round)
