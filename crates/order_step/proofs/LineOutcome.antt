-- What a line of the order program meets: what is not readable is answered 10, and of what is readable the line's outcome is that of its
-- kind.
use mathlib.Core.Path.{◌≡◌, refl}
use mathlib.Core.List.{List}
use Prim.Native.Nat.{ℕ}
use Rattle.text.specs.Lines.{line, too_long}
use Rattle.answers.specs.Refusals.{Meets, answer}
use Rattle.answers.specs.declared.Answer.{Answer}
use Rattle.lines.specs.Grammar.{parsed_of}
use Rattle.lines.specs.declared.Line.{Line}
use Rattle.std.specs.Prelude.{None, Some}
use Rattle.order_step.specs.Step.{unreadable, kind_outcome, line_outcome}

unreadable_meets : {ws : List ℕ} {r : Answer} → r ≡ answer 10 0 0 0 → Meets (unreadable ws) r ws
unreadable_meets q = record { answered = q; left = refl }

-- "an empty or longer line .. is answered 10"
pub too_long_meets : {ws : List ℕ} {r : Answer} → r ≡ answer 10 0 0 0 → Meets (line_outcome too_long ws) r ws
unfolding line_outcome
too_long_meets q = unreadable_meets q

pub not_read_meets :
    (bytes ws : List ℕ) {r : Answer} → parsed_of bytes ≡ None → r ≡ answer 10 0 0 0 → Meets (line_outcome (line bytes) ws) r ws
unfolding line_outcome
not_read_meets bytes ws none q = rw none (unreadable_meets q)

-- a line that is read
pub read_meets :
    (bytes ws : List ℕ) {after : List ℕ} {r : Answer} {l : Line} → parsed_of bytes ≡ Some l → Meets (kind_outcome l.kind ws) r after →
    Meets (line_outcome (line bytes) ws) r after
unfolding line_outcome
read_meets bytes ws reads met = rw reads met
