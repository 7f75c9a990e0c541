-- `is_list::standing::owing` meets its contract: the two tests are those of the definition.
use native.Mathlib.Omega.{arith}
use Rattle.cell_tests.proofs.Tests.{holds, lacks}
use Rattle.is_list.proofs.InOrder.{owing_elsewhere, owing_not, owing_goes}
use Rattle.is_list.proofs.standing.owing.Goals as goal

pub returns-then-from-e : goal.returns-then-from-e
returns-then-from-e c = let a = c.args in owing_elsewhere a.list.now a.x a.e a.from a.count (λ e. omega arith)

pub returns-then-not-owes_right : goal.returns-then-not-owes_right
returns-then-not-owes_right c =
    let a = c.args in
    owing_not a.list.now a.x a.e a.from a.count (omega arith) (lacks c.owes_right.ensures c.if-not-owes_right.true-raw)

pub returns : goal.returns
returns c =
    let a = c.args in
    owing_goes a.list.now a.x a.e a.from a.count (omega arith) (holds c.owes_right.ensures c.if-not-owes_right.false-raw) c.word.ensures
    c.word-2.ensures
