-- `trace_call::call` meets its contract: a call's answer, and what it leaves, are the line's.
use Rattle.std.specs.Prelude.{Some}
use mathlib.Core.Logic.{⊎_elim}
use mathlib.Core.Path.{◌≡◌, refl, ap, ◌∙◌}
use Rattle.answers.specs.Refusals.{Outcome, Meets}
use Rattle.calls.specs.Records.{Lent}
use Rattle.answers.specs.declared.Answer.{Answer}
use Rattle.trace_call.specs.Calling.{reply_of, after_call, Called}
use Rattle.trace.specs.declared.Kind.{Kind}
use Rattle.trace_call.proofs.call.Goals as goal

called :
    {kind : Kind} {o : Outcome Lent} {r : Answer} {lent after : Lent} → Meets o r after → Some o.answered ≡ reply_of kind lent →
    o.left ≡ after_call kind lent → Called kind lent (Some r) after
called meets reply left = record { reply = ap (λ (a : Answer). Some a) meets.answered ∙ reply; left = meets.left ∙ left }

pub returns-in-Fresh : goal.returns-in-Fresh
returns-in-Fresh c =
    ⊎_elim
    (λ fresh. rw fresh.1 (called c.make.ensures refl refl))
    (λ make. rw make (called c.make.ensures refl refl))
    c.in-Fresh.is
