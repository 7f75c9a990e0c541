-- What is promised of entries and their keys: Entries 2 to 4. proofs/Promises.antt proves each.
use Rattle.std.specs.Prelude.{◌≡◌, ◌↔◌, ◌⊎◌, ℕ, ◌+◌, ◌*◌, ◌≤◌, ◌<◌}
use Rattle.settings.specs.Numbers.{most_largest}
use Rattle.entries.specs.Entries.{InRange, keys_per_unit, entry_key}
use Rattle.entries.specs.declared.Entry.{Entry}

-- two entries in range with the same key are the same entry
abbrev pub KeyTellsEntry : Type 0
KeyTellsEntry = (e f : Entry) → InRange e → InRange f → entry_key e ≡ entry_key f → e ≡ f

-- every entry's key is from 4,096 to the largest of all keys
abbrev pub KeyWithin : Type 0
KeyWithin = (e : Entry) → InRange e → (keys_per_unit ≤ entry_key e) × (entry_key e ≤ most_largest)

-- an entry comes before another: by class, then by unit, then by serial
abbrev pub Before : Entry → Entry → Type 0
Before e f = (e.class < f.class) ⊎ ((e.class ≡ f.class) × ((e.unit < f.unit) ⊎ ((e.unit ≡ f.unit) × (e.serial < f.serial))))

-- key order is that order
abbrev pub KeyOrder : Type 0
KeyOrder = (e f : Entry) → InRange e → InRange f → (entry_key e < entry_key f) ↔ Before e f

-- the key that an entry had when there were no serials
abbrev pub plain_key : Entry → ℕ
plain_key e = e.class * 65536 + e.unit

-- between two entries of one serial, 0 above all, key order is the order that those keys had
abbrev pub PlainOrder : Type 0
PlainOrder = (e f : Entry) → InRange e → InRange f → e.serial ≡ f.serial → (entry_key e < entry_key f) ↔ (plain_key e < plain_key f)
