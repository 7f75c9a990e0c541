-- `search::search` meets its contract: the three ways out are told apart by the key of the cell at which the walk rests, and each answers
-- what is known there.
use mathlib.Core.Path.{refl}
use native.Mathlib.Omega.{arith}
use Rattle.words.proofs.Shaped.{field_within}
use Rattle.words.proofs.Listed.{listed_shaped, listed_fits}
use Rattle.search.proofs.Resting.{answers, searched}
use Rattle.search.proofs.search.Goals as goal

pub block_starts-starts-requires : goal.block_starts-starts-requires
block_starts-starts-requires c = (listed_shaped c.requires.0).dimensions_most

pub rest_of-r-requires : goal.rest_of-r-requires
rest_of-r-requires c =
    let p = c.requires in
    (p.0, (p.1.0, (p.1.1, record { fits = listed_fits p.0 p.1.1; blocks = c.block_starts-starts.ensures; sizes = c.args.levels.now.right })))

pub word-key-requires : goal.word-key-requires
word-key-requires c = (
  listed_shaped c.requires.0,
  field_within (answers c.requires.0 c.args.k c.requires.1.0 c.requires.1.1 c.rest_of-r.ensures refl).cell (omega arith),
)

pub returns-then-key-k : goal.returns-then-key-k
returns-then-key-k c =
    let r = c.rest_of-r.ensures in
    searched c.requires.0 c.args.k c.requires.1.0 c.requires.1.1 r refl refl
    ((answers c.requires.0 c.args.k c.requires.1.0 c.requires.1.1 r c.word-key.ensures).below c.if-key-k.true)

pub returns-then-k-key : goal.returns-then-k-key
returns-then-k-key c =
    let r = c.rest_of-r.ensures in
    searched c.requires.0 c.args.k c.requires.1.0 c.requires.1.1 r c.moved.ensures refl
    ((answers c.requires.0 c.args.k c.requires.1.0 c.requires.1.1 r c.word-key.ensures).above c.if-k-key.true)

pub returns : goal.returns
returns c =
    let r = c.rest_of-r.ensures in
    searched c.requires.0 c.args.k c.requires.1.0 c.requires.1.1 r c.moved-2.ensures refl
    ((answers c.requires.0 c.args.k c.requires.1.0 c.requires.1.1 r c.word-key.ensures).here (omega arith))
