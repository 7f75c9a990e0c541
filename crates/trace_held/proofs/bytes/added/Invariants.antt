-- `trace_held::bytes::added` meets its contract: after i turns all bytes are those in the array and those that the digits from pair i on write.
use mathlib.Core.List.{◌++◌}
use mathlib.Core.Path.{◌≡◌}
use Prim.Native.Nat.{◌+◌, ◌*◌}
use lib.ListN.{length, take, drop}
use Rattle.trace_held.specs.Held.{hex_bytes}
use Rattle.trace_held.proofs.bytes.added.Given as goal

abbrev pub invariant-loop-i : goal.invariant-loop-i
invariant-loop-i l =
    (length l.bytes ≡ length l.initial.bytes) × (take l.filled l.initial.bytes ++ hex_bytes l.digits ≡ take (l.filled + l.i) l.bytes ++ hex_bytes (drop (2 * l.i) l.digits))
