-- What is held of an array, told of one with room for the most that is held.
use mathlib.Core.Path.{◌∙◌}
use mathlib.Core.List.{List}
use Prim.Native.Nat.{ℕ}
use native.Mathlib.Omega.{arith}
use lib.ListN.{length}
use Rattle.trace_held.specs.Held.{Held, Holds}

-- an array with room for the most that is held is as long as that
pub as_long : {most : ℕ} {array after : List ℕ} {used r : ℕ} {what : List ℕ} → Held most array used → Holds (length array) after r what → Holds most after r what
as_long h holds = record { held = record { room = holds.held.room ∙ h.room; within = omega (arith, holds.held.within, h.room) }; is = holds.is }
