-- `read_file::read_file` meets its contract: what the bytes are read as and the length decide the way out, and each has the outcome of the
-- definition; the fresh list, given the pairs, is the one that reading gives.
use mathlib.Core.Path.{sym, ◌∙◌}
use native.Mathlib.Omega.{arith}
use Rattle.read_file.proofs.Reading.{told, told_limits, set_up_left, bad_file_meets, wrong_length_meets, read_meets}
use Rattle.read_file.proofs.read_file.Goals as goal

pub returns-in_default : goal.returns-in_default
returns-in_default c =
    let a = c.args in
    bad_file_meets a.list.now a.file.now (sym c.read_contents-contents.ensures ∙ c.in_default.is) c.refused.ensures

pub length-requires : goal.length-requires
length-requires c =
    let limits = told_limits (told (sym c.read_contents-contents.ensures ∙ c.in-Some.is)) in
    (limits.0, limits.1.0)

pub returns-then-list-length : goal.returns-then-list-length
returns-then-list-length c =
    let a = c.args in
    wrong_length_meets a.list.now a.file.now (sym c.read_contents-contents.ensures ∙ c.in-Some.is)
    (λ e. omega arith) c.refused-then-list-length.ensures

pub put_pairs-requires : goal.put_pairs-requires
put_pairs-requires c =
    let a = c.args in
    let is = sym c.read_contents-contents.ensures ∙ c.in-Some.is in
    (set_up_left (told is) a.list.now (omega arith) c.set_up.ensures, is)

pub returns : goal.returns
returns c =
    let a = c.args in
    let is = sym c.read_contents-contents.ensures ∙ c.in-Some.is in
    read_meets a.list.now a.file.now is (omega arith) c.put_pairs.ensures c.accepted.ensures
