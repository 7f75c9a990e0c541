-- `take::first_live` meets its contract: at each turn the path has come past dead nodes, and the keys passed and those still to come are
-- fewer than C.
use native.Mathlib.Omega.{arith}
use Rattle.words.proofs.Shaped.{field_within}
use Rattle.words.proofs.Listed.{listed_shaped}
use Rattle.paths.proofs.Listed.{listed_walkable}
use Rattle.take.proofs.Taking.{passing_start, passing_end, passing_here, passing_past}
use Rattle.take.proofs.first_live.Goals as goal

pub read_path-path-requires : goal.read_path-path-requires
read_path-path-requires c = listed_shaped c.requires

pub loop-next-init : goal.loop-next-init
loop-next-init c = passing_start c.requires c.read_path-path.ensures.1 c.read_path-path.ensures.0

pub next-requires : goal.next-requires
next-requires c = (listed_walkable c.requires, c.loop-next.invariant.path_in)

pub word-requires : goal.word-requires
word-requires c = (listed_shaped c.requires, field_within c.in-Some.ensures.at.below (omega arith))

pub returns-then-word-eq-LIVE : goal.returns-then-word-eq-LIVE
returns-then-word-eq-LIVE c = passing_here c.requires c.loop-next.invariant c.in-Some.ensures c.word.ensures c.if-word-eq-LIVE.true

pub loop-next-preserved : goal.loop-next-preserved
loop-next-preserved c = passing_past c.requires c.loop-next.invariant c.in-Some.ensures c.word.ensures c.if-word-eq-LIVE.false

pub returns : goal.returns
returns c = rw c.in_default.ensures.1 (passing_end c.requires c.loop-next.invariant c.in_default.ensures.0)
