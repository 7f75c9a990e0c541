-- A record, once it is read, does what it notes.
use mathlib.Core.Path.{◌≡◌, subst}
use mathlib.Core.List.{List}
use Prim.Native.Nat.{ℕ}
use Rattle.notes.specs.Notes.{note_by}
use Rattle.notes.specs.Notes.{Logged}
use Rattle.answers.specs.Refusals.{Meets}
use Rattle.answers.specs.declared.Answer.{Answer}
use Rattle.calls.specs.Records.{lent_of, note_out, record_out}
use Rattle.insert_record.specs.Noted.{Noted}

-- a record that is read notes what its bytes say
pub record_meets :
    {logged : Logged} {ws us : List ℕ} {last after : ℕ} {r : Answer} (bytes : List ℕ) → logged ≡ note_by bytes →
    Noted logged ws last r us after → Meets (record_out (lent_of ws bytes last)) r (lent_of us bytes after)
unfolding record_out
record_meets {ws = ws} {us = us} {last = last} {after = after} {r = r} bytes says noted =
    subst (λ (l : Logged). Meets (note_out l (lent_of ws bytes last)) r (lent_of us bytes after)) says (noted.meets bytes)
