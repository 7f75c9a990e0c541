-- `insert::insert_new` meets its contract: word 4 says whether there is a free cell.
use mathlib.Core.Path.{refl}
use native.Mathlib.Omega.{arith}
use Rattle.words.proofs.Listed.{listed_shaped}
use Rattle.insert.proofs.Call.{leads_meets, full_meets, new_leads}
use Rattle.insert.proofs.insert_new.Goals as goal

pub bounds-list-4 : goal.bounds-list-4
bounds-list-4 c = omega (arith, (listed_shaped c.requires.0.list).long)

pub returns-then-n-eq0 : goal.returns-then-n-eq0
returns-then-n-eq0 c =
    full_meets c.requires.0 c.requires.1 c.args.value refl c.if-n-eq0.true c.refused.ensures

pub add-requires : goal.add-requires
add-requires c =
    let pre = c.requires in
    (pre.0, (pre.1, (refl, omega arith)))

pub returns : goal.returns
returns c =
    leads_meets (new_leads c.requires.0 c.requires.1 c.args.value refl (omega arith)) c.add.ensures c.accepted.ensures
