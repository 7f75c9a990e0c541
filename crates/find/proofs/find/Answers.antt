-- `find::find` meets its contract: each way out has the outcome of the definition, by what the search found and the mark of the cell.
use mathlib.Core.Path.{◌∙◌, sym}
use native.Mathlib.Omega.{arith}
use borrow.Author.Tests.{not-true, not-false}
use Rattle.settings.proofs.Numbers.{key_within}
use Rattle.meaning.specs.Operations.{find_out}
use Rattle.meaning.proofs.Outcomes.{bad_key_meets}
use Rattle.words.proofs.Shaped.{field_within}
use Rattle.words.proofs.Listed.{listed_shaped}
use Rattle.search.proofs.Slots.{standing_cell}
use Rattle.find.proofs.Finding.{missing_meets, dead_meets, live_meets}
use Rattle.find.proofs.find.Goals as goal

pub returns-then-not-has_key : goal.returns-then-not-has_key
unfolding find_out
returns-then-not-has_key c =
    let t = c.has_key in
    bad_key_meets c.requires c.args.key _ (sym t.ensures ∙ not-true t.result c.if-not-has_key.true-raw) c.refused.ensures

pub search-f-requires : goal.search-f-requires
search-f-requires c =
    let t = c.has_key in
    (c.requires, key_within (sym t.ensures ∙ not-false t.result c.if-not-has_key.false-raw))

pub returns-then-not-f : goal.returns-then-not-f
returns-then-not-f c =
    let f = c.search-f in
    missing_meets f.ensures.sought (not-true f.result.standing c.if-not-f.true) c.not_live.ensures

pub word-requires : goal.word-requires
word-requires c =
    let f = c.search-f in
    let k = f.ensures.sought in
    (listed_shaped k.list, field_within (standing_cell k (not-false f.result.standing c.if-not-f.false)) (omega arith))

pub returns-then-word-ne-LIVE : goal.returns-then-word-ne-LIVE
returns-then-word-ne-LIVE c =
    let f = c.search-f in
    dead_meets f.ensures.sought (not-false f.result.standing c.if-not-f.false) c.word.ensures
    c.if-word-ne-LIVE.true c.not_live-then-word-ne-LIVE.ensures

pub word-value-requires : goal.word-value-requires
word-value-requires c =
    let f = c.search-f in
    let k = f.ensures.sought in
    (listed_shaped k.list, field_within (standing_cell k (not-false f.result.standing c.if-not-f.false)) (omega arith))

pub returns : goal.returns
returns c =
    let f = c.search-f in
    live_meets f.ensures.sought (not-false f.result.standing c.if-not-f.false) c.word.ensures
    c.if-word-ne-LIVE.false c.word-value.ensures c.accepted.ensures
