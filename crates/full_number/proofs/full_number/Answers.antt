-- `full_number::full_number` meets its contract: the wrapped difference leads to the full number.
use Rattle.std.proofs.Common.{◌∙◌, rules}
use Rattle.full_number.proofs.Promises.{full_back, ahead_full, behind_full, wrapped}
use Rattle.full_number.proofs.full_number.Goals as goal

pub returns-then-ahead-lt-HALF_A_ROUND : goal.returns-then-ahead-lt-HALF_A_ROUND
returns-then-ahead-lt-HALF_A_ROUND c =
    let a = c.args in
    c.forward.ensures ∙ full_back a.last a.own _ (search rules) (ahead_full a.last a.own _ (wrapped a.last a.own c.requires) (search rules))

pub returns : goal.returns
returns c =
    let a = c.args in
    c.backward.ensures ∙ full_back a.last a.own _ (search rules) (behind_full a.last a.own _ (wrapped a.last a.own c.requires) (search rules) (search rules))
