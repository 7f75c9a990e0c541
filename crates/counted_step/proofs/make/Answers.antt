-- `counted_step::make` meets its contract: each call is that of its exported function, and what it is not lent stays as it is.
use mathlib.Core.Path.{refl}
use Rattle.calls.specs.Records.{lent_of}
use Rattle.counted_step.proofs.Beside.{words_meets, write_meets, read_meets}
use Rattle.counted_step.proofs.make.Goals as goal

pub returns-in-SetUp : goal.returns-in-SetUp
returns-in-SetUp c =
    let a = c.args in
    words_meets a.call (lent_of a.list.now a.bytes.now a.last.now) a.list.now a.classes.now (rw c.in-SetUp.is refl) (rw c.in-SetUp.is c.counted_set_up.ensures)

pub returns-in-Operate : goal.returns-in-Operate
returns-in-Operate c =
    let a = c.args in
    words_meets a.call (lent_of a.list.now a.bytes.now a.last.now) a.list.now a.classes.now (rw c.in-Operate.is refl) (rw c.in-Operate.is c.make_operation.ensures)

pub returns-in-Record : goal.returns-in-Record
returns-in-Record c = rw c.in-Record.is c.counted_record.ensures

pub returns-in-Write : goal.returns-in-Write
returns-in-Write c =
    let a = c.args in
    rw c.in-Write.is (write_meets a.last.now a.list.now a.bytes.now a.classes.now c.counted_write.ensures)

pub returns-in-Read : goal.returns-in-Read
returns-in-Read c =
    let a = c.args in
    rw c.in-Read.is (read_meets a.last.now a.list.now a.bytes.now a.classes.now c.counted_read.ensures)
