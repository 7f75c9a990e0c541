-- `acceptance_step::make` meets its contract: each engine makes the call of its own.
use mathlib.Core.Path.{refl}
use Rattle.acceptance_step.specs.Lines.{engines_of}
use Rattle.acceptance_step.proofs.make.Goals as goal

pub returns-in-SetUp : goal.returns-in-SetUp
returns-in-SetUp c =
    let one = c.mdlist_set_up.ensures in
    let other = c.row_set_up.ensures in
    rw c.in-SetUp.is
    (record { reply = λ i. record { list = one.answered i; row = other.answered i }; left = λ i. engines_of (one.left i) (other.left i) })

pub returns-in-Make : goal.returns-in-Make
returns-in-Make c =
    let one = c.make_operation.ensures in
    let other = c.row_operation.ensures in
    rw c.in-Make.is
    (record { reply = λ i. record { list = one.answered i; row = other.answered i }; left = λ i. engines_of (one.left i) (other.left i) })

pub returns-in-Unreadable : goal.returns-in-Unreadable
returns-in-Unreadable c = rw c.in-Unreadable.is (record { reply = λ i. record { list = c.refused.ensures i; row = c.refused-in-Unreadable.ensures i }; left = refl })
