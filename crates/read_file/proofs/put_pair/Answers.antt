-- `read_file::put_pair` meets its contract: the slot is the one that a search would find, so the insert leaves the state with the pair.
use mathlib.Core.Path.{refl}
use native.Mathlib.Omega.{arith}
use Rattle.words.proofs.Listed.{listed_shaped}
use Rattle.read_file.proofs.Putting.{put_listed, next_larger, next_fits, next_cell, next_last, next_put}
use Rattle.read_file.proofs.put_pair.Goals as goal

pub shared-p-requires : goal.shared-p-requires
shared-p-requires c =
    let next = c.requires in
    ((listed_shaped (put_listed next.putting)).dimensions_most, (next_larger next.putting _ next.more, next_fits next.putting _ next.more))

pub bounds-list-4 : goal.bounds-list-4
bounds-list-4 c = omega (arith, (listed_shaped (put_listed c.requires.putting)).long)

pub add_last-requires : goal.add_last-requires
add_last-requires c =
    let p = c.shared-p.ensures in
    let next = c.requires in
    (next_last next.putting _ next.more p.0 p.1, (refl, omega (arith, next_cell next.putting _ next.more)))

pub returns : goal.returns
returns c =
    let p = c.shared-p.ensures in
    record { is = λ pairs h more. next_put h _ more p.0 p.1 c.add_last.ensures refl c.put_onward.ensures }
