-- `trace_held::bytes::added` meets its contract: after i turns all bytes are those in the array and those that the digits from pair i on write.
use mathlib.Core.Path.{◌≡◌, refl, sym, ◌∙◌, ap₂}
use Prim.Native.Nat.{◌+◌, ◌*◌, ◌/◌, ◌%◌}
use native.Mathlib.Nat.{add-zero}
use native.Mathlib.Omega.{arith}
use lib.ListN.{length}
use borrow.Author.Rules.{rules}
use Rattle.trace_held.proofs.HexBytes.{added_more, added_all, added_fit, added_not}
use Rattle.trace_held.proofs.bytes.added.Goals as goal

pub returns-then-filled-n : goal.returns-then-filled-n
returns-then-filled-n c =
    record { held = c.requires; is = sym (added_not c.args.digits.now c.requires (omega arith)) }

pub loop-i-preserved : goal.loop-i-preserved
loop-i-preserved c =
    let v = c.loop-i in
    let a = c.args in
    let byte = ap₂ (λ high low. (high * 16 + low) % 256) c.nibble_of.ensures.0 c.nibble_of-in-loop-i.ensures.0 in
    (search rules, added_more v.bytes a.digits.now a.filled v.i v.invariant.1 byte (omega arith) (omega arith))

pub returns : goal.returns
returns c =
    let v = c.loop-i in
    let digits = c.args.digits.now in
    let last : v.i ≡ length digits / 2 = omega arith in
    let all = added_all v.bytes digits c.args.filled v.i v.invariant.1 (omega arith) in
    record { held = search rules; is = rw (← last) (all ∙ sym (added_fit digits c.requires (omega arith))) }
