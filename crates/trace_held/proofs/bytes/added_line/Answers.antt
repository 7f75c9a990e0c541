-- `trace_held::bytes::added_line` meets its contract: the digits are what follows the first two bytes, and there are none in a shorter line.
use mathlib.Core.Path.{sym}
use native.Mathlib.Omega.{arith}
use lib.ListN.{drop, length-drop}
use Rattle.trace_held.proofs.HexBytes.{added_none}
use Rattle.trace_held.proofs.bytes.added_line.Goals as goal

pub returns-in_default : goal.returns-in_default
returns-in_default c =
    record { held = c.requires; is = sym (added_none (drop 2 c.args.line.now) c.requires (simp length-drop (omega arith))) }
