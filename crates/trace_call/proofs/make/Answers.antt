-- `trace_call::make` meets its contract: each call is that of its operation, and what it is not lent stays as it is.
-- a call on the words alone leaves all else that was lent
use mathlib.Core.List.{List}
use Prim.Native.Nat.{ℕ}
use Rattle.answers.specs.Refusals.{Outcome, Meets}
use Rattle.answers.specs.declared.Answer.{Answer}
use Rattle.calls.specs.Records.{Lent, lent_of}
use Rattle.calls.specs.Saved.{FileLent, file_lent}
use Rattle.calls.specs.Calls.{on_words, on_file, outcome}
use Rattle.trace_call.proofs.make.Goals as goal

words_meets :
    {o : Outcome (List ℕ)} {r : Answer} {us : List ℕ} (lent : Lent) → Meets o r us → Meets (on_words lent o) r (lent_of us lent.bytes lent.last)
words_meets lent meets = record { answered = meets.answered; left = λ i. lent_of (meets.left i) lent.bytes lent.last }

-- a write and a read leave the last number
file-meets :
    {o : Outcome FileLent} {r : Answer} {us file : List ℕ} (lent : Lent) → Meets o r (file_lent us file) → Meets (on_file lent o) r (lent_of us file lent.last)
file-meets lent meets = record { answered = meets.answered; left = λ i. lent_of (meets.left i).words (meets.left i).file lent.last }

pub returns-in-SetUp : goal.returns-in-SetUp
unfolding outcome
returns-in-SetUp c = let a = c.args in rw c.in-SetUp.is (words_meets (lent_of a.list.now a.bytes.now a.last.now) c.mdlist_set_up.ensures)

pub returns-in-Operate : goal.returns-in-Operate
unfolding outcome
returns-in-Operate c = let a = c.args in rw c.in-Operate.is (words_meets (lent_of a.list.now a.bytes.now a.last.now) c.make_operation.ensures)

pub returns-in-Record : goal.returns-in-Record
unfolding outcome
returns-in-Record c = rw c.in-Record.is c.mdlist_record.ensures

pub returns-in-Write : goal.returns-in-Write
unfolding outcome
returns-in-Write c = let a = c.args in rw c.in-Write.is (file-meets (lent_of a.list.now a.bytes.now a.last.now) c.mdlist_write.ensures)

pub returns-in-Read : goal.returns-in-Read
unfolding outcome
returns-in-Read c = let a = c.args in rw c.in-Read.is (file-meets (lent_of a.list.now a.bytes.now a.last.now) c.mdlist_read.ensures)
