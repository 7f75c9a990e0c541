-- The promises of specs/Promises.antt. A serial is below what a unit takes, a unit with its serial below what a class takes; so the key's
-- parts do not run into each other.
use mathlib.Core.Path.{◌≡◌}
use mathlib.Core.Logic.{inl, inr}
use Prim.Native.Nat.{◌<◌}
use native.Mathlib.Decide.{dec_lt}
use native.Mathlib.Omega.{arith}
use Rattle.entries.specs.Entries.{InRange, entry_key}
use Rattle.entries.specs.Promises.{KeyTellsEntry, KeyWithin, Before, KeyOrder, PlainOrder}
use Rattle.entries.specs.declared.Entry.{Entry}

pub key_within : KeyWithin
key_within e i = (omega (arith, i.unit_least), omega (arith, i.class_most, i.unit_most, i.serial_most))

module _ (e f : Entry) (i : InRange e) (j : InRange f) where
  before : entry_key e < entry_key f → Before e f
  before h = at (dec_lt e.class f.class) (dec_lt e.unit f.unit)
    where
      same : (e.class < f.class → ⊥) → e.class ≡ f.class
      same n = omega (arith, i.unit_most, i.serial_most, j.unit_most, j.serial_most)

      at : Dec (e.class < f.class) → Dec (e.unit < f.unit) → Before e f
      at (yes c) u = inl c
      at (no c) (yes u) = inr (same c, inl u)
      at (no c) (no u) =
          let k = same c in
          inr (k, inr (omega (arith, i.serial_most, j.serial_most), omega (arith, i.serial_most, j.serial_most)))

  key_below_lem : Before e f → entry_key e < entry_key f
  key_below_lem (inl c) = omega (arith, i.unit_most, i.serial_most)
  key_below_lem (inr (c, inl u)) = omega (arith, i.serial_most)
  key_below_lem (inr (c, inr (u, s))) = omega arith

pub key_order : KeyOrder
key_order e f i j = (before e f i j, key_below_lem e f i j)

pub plain_order : PlainOrder
plain_order e f i j s = (
  (λ h. omega (arith, i.unit_most, i.serial_most, j.unit_most, j.serial_most)),
  (λ h. omega (arith, i.unit_most, i.serial_most, j.unit_most, j.serial_most)),
)

pub key_tells_entry : KeyTellsEntry
key_tells_entry e f i j k =
    let class : e.class ≡ f.class = omega (arith, i.unit_most, i.serial_most, j.unit_most, j.serial_most) in
    let unit : e.unit ≡ f.unit = omega (arith, i.serial_most, j.serial_most) in
    let serial : e.serial ≡ f.serial = omega arith in
    λ n. record { class = class n; unit = unit n; serial = serial n }
