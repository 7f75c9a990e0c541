-- `row_step::line_call` meets its contract: the call that a line makes is read off by its kind.
-- a call's answer, and the words that it leaves, are the line's
use Rattle.std.specs.Prelude.{Some}
use mathlib.Core.Path.{◌≡◌, refl, ap, ◌∙◌}
use mathlib.Core.List.{List}
use Prim.Native.Nat.{ℕ}
use Rattle.answers.specs.Refusals.{Outcome, Meets}
use Rattle.answers.specs.declared.Answer.{Answer}
use Rattle.trace.specs.declared.Kind.{Kind}
use Rattle.row_step.specs.Lines.{row_reply, row_leaves, RowCalled}
use Rattle.row_step.proofs.line_call.Goals as goal

called :
    {kind : Kind} {o : Outcome (List ℕ)} {r : Answer} {ws after : List ℕ} → Meets o r after → Some o.answered ≡ row_reply kind ws →
    o.left ≡ row_leaves kind ws → RowCalled kind ws (Some r) after
called meets reply left = record { reply = ap (λ (x : Answer). Some x) meets.answered ∙ reply; left = meets.left ∙ left }

pub returns-in-Fresh : goal.returns-in-Fresh
returns-in-Fresh c = rw c.in-Fresh.is (called c.make.ensures refl refl)

pub returns-in-Make : goal.returns-in-Make
returns-in-Make c = rw c.in-Make.is (called c.make-in-Make.ensures refl refl)

pub returns-in-Bytes : goal.returns-in-Bytes
returns-in-Bytes c = rw c.in-Bytes.is (record { reply = ap (λ (x : Answer). Some x) c.refused.ensures; left = refl })

pub returns-in-Add : goal.returns-in-Add
returns-in-Add c = rw c.in-Add.is (record { reply = ap (λ (x : Answer). Some x) c.refused-in-Add.ensures; left = refl })

pub returns-in-PutByte : goal.returns-in-PutByte
returns-in-PutByte c = rw c.in-PutByte.is (record { reply = ap (λ (x : Answer). Some x) c.refused-in-PutByte.ensures; left = refl })

pub returns-in-Last : goal.returns-in-Last
returns-in-Last c = rw c.in-Last.is (record { reply = ap (λ (x : Answer). Some x) c.refused-in-Last.ensures; left = refl })

pub returns-in-Unreadable : goal.returns-in-Unreadable
returns-in-Unreadable c = rw c.in-Unreadable.is (record { reply = ap (λ (x : Answer). Some x) c.refused-in-Unreadable.ensures; left = refl })
