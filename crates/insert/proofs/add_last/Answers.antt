-- `insert::add_last` meets its contract: nothing is owed and the path stays, so the new cell is all that there is to write.
use mathlib.Core.Path.{refl}
use native.Mathlib.Omega.{arith}
use Rattle.words.proofs.Listed.{listed_shaped}
use Rattle.insert.proofs.Call.{last_parent, last_link, last_cell, last_left}
use Rattle.insert.proofs.add_last.Goals as goal

pub hang-requires : goal.hang-requires
hang-requires c =
    let pre = c.requires in
    let k = pre.0 in
    let cell = last_cell k pre.1.0 pre.1.1 in
    let link = last_link k in
    (listed_shaped k.sought.list, (record { cell = cell; link = omega arith; none = λ z. refl }, (last_parent k, link)))

pub returns : goal.returns
returns c =
    last_left c.requires.0 c.requires.1.0 c.requires.1.1 c.args.value c.hang.ensures.0
