-- `files::table_right` meets its contract: the number of bodies and the two bodies are compared.
use mathlib.Core.Path.{◌≡◌}
use native.Mathlib.Omega.{arith}
use lib.ListN.{take, drop}
use Rattle.lists.specs.Lists.{same}
use Rattle.files.proofs.Table.{entries_at, table_same}
use Rattle.files.proofs.table_right.Goals as goal

pub returns-then-body_at : goal.returns-then-body_at
returns-then-body_at c =
    let bytes = c.args.file.now in
    let second = c.body_at-then-body_at in
    let is : second.result ≡ same (entries_at c.args.n) (take 9 (drop 10 bytes)) = rw (← c.tag_for-tag.ensures, ← c.count_width.ensures.0) second.ensures in
    let tests = table_same bytes c.args.n (omega (arith, c.requires.1)) in
    grind (arith, tests, is)

pub returns-else-body_at : goal.returns-else-body_at
returns-else-body_at c =
    let tests = table_same c.args.file.now c.args.n (omega (arith, c.requires.1)) in
    grind (arith, tests)
