-- `insert::insert` meets its contract: the key is one that a list may hold, and the search says whether it stands.
use mathlib.Core.Path.{◌∙◌, sym}
use borrow.Author.Tests.{not-true, not-false}
use Rattle.settings.proofs.Numbers.{key_within}
use Rattle.meaning.specs.Operations.{insert_out}
use Rattle.meaning.proofs.Outcomes.{bad_key_meets}
use Rattle.insert.proofs.insert.Goals as goal

pub returns-then-not-has_key : goal.returns-then-not-has_key
unfolding insert_out
returns-then-not-has_key c =
    let t = c.has_key in
    bad_key_meets c.requires c.args.key _ (sym t.ensures ∙ not-true t.result c.if-not-has_key.true-raw) c.refused.ensures

pub search-f-requires : goal.search-f-requires
search-f-requires c =
    let t = c.has_key in
    (c.requires, key_within (sym t.ensures ∙ not-false t.result c.if-not-has_key.false-raw))

pub insert_standing-requires : goal.insert_standing-requires
insert_standing-requires c = (c.search-f.ensures.sought, c.if-f.true)

pub insert_new-requires : goal.insert_new-requires
insert_new-requires c = (c.search-f.ensures.sought, c.if-f.false)
