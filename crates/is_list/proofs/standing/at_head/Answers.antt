-- `is_list::standing::at_head` meets its contract: the head is the position or not, and the run of path words that are 0 is the callee's.
use native.Mathlib.Omega.{arith}
use borrow.Author.Rules.{rules}
use Rattle.is_list.proofs.Ends.{head_elsewhere, head_position}
use Rattle.is_list.proofs.standing.at_head.Goals as goal

pub returns-then-position-ne0 : goal.returns-then-position-ne0
returns-then-position-ne0 c =
    let run = c.path_run-agreed.ensures in
    (head_elsewhere c.requires.0 run.0 (λ e. omega arith), search rules)

pub returns : goal.returns
returns c =
    let run = c.path_run-agreed.ensures in
    (head_position c.requires.0 run.0 (omega arith), search rules)
