-- `insert::insert_standing` meets its contract: the mark says whether the key is live.
use mathlib.Core.Path.{◌∙◌}
use native.Mathlib.Omega.{arith}
use Rattle.words.proofs.Shaped.{field_within}
use Rattle.words.proofs.Listed.{listed_shaped}
use Rattle.search.proofs.Slots.{standing_cell}
use Rattle.insert.proofs.Call.{leads_meets, live_meets, dead_leads}
use Rattle.insert.proofs.insert_standing.Goals as goal

pub word-requires : goal.word-requires
word-requires c =
    let pre = c.requires in
    (listed_shaped pre.0.list, field_within (standing_cell pre.0 pre.1) (omega arith))

pub returns-then-word-eq-LIVE : goal.returns-then-word-eq-LIVE
returns-then-word-eq-LIVE c =
    live_meets c.requires.0 c.requires.1 c.args.value c.word.ensures c.if-word-eq-LIVE.true c.refused.ensures

pub revive-requires : goal.revive-requires
revive-requires c =
    (c.requires.0, (c.requires.1, λ e. c.if-word-eq-LIVE.false (c.word.ensures ∙ e)))

pub returns : goal.returns
returns c =
    leads_meets (dead_leads c.requires.0 c.requires.1 c.args.value
    (λ e. c.if-word-eq-LIVE.false (c.word.ensures ∙ e)))
    c.revive.ensures
    c.accepted.ensures
