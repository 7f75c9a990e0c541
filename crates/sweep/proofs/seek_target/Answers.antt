-- `sweep::seek_target` meets its contract: at each turn the path has come past dead nodes only, and a key less lies above its cell's.
use native.Mathlib.Omega.{arith}
use Rattle.words.proofs.Shaped.{field_within}
use Rattle.words.proofs.Listed.{listed_shaped}
use Rattle.paths.proofs.Listed.{listed_walkable}
use Rattle.sweep.proofs.Seeking.{seeking_start, seeking_end, seeking_live, seeking_onward, seeking_less}
use Rattle.sweep.proofs.seek_target.Goals as goal

pub head_path-path-requires : goal.head_path-path-requires
head_path-path-requires c = (listed_shaped c.requires).dimensions_most

pub loop-next-init : goal.loop-next-init
loop-next-init c = seeking_start c.requires c.head_path-path.ensures.0 c.head_path-path.ensures.1

pub next_from-requires : goal.next_from-requires
next_from-requires c = (listed_walkable c.requires, c.loop-next.invariant.path_in)

pub word-requires : goal.word-requires
word-requires c = (listed_shaped c.requires, field_within c.in-Some.ensures.below (omega arith))

pub loop-next-smaller : goal.loop-next-smaller
loop-next-smaller c = seeking_less c.requires c.loop-next.invariant c.in-Some.ensures c.put_onward.ensures

pub loop-next-preserved : goal.loop-next-preserved
loop-next-preserved c = seeking_onward c.requires c.loop-next.invariant c.in-Some.ensures c.put_onward.ensures c.word.ensures c.if-word-eq-LIVE.false

pub returns-then-word-eq-LIVE : goal.returns-then-word-eq-LIVE
returns-then-word-eq-LIVE c = seeking_live c.requires c.loop-next.invariant c.in-Some.ensures c.word.ensures c.if-word-eq-LIVE.true

pub returns-in_default : goal.returns-in_default
returns-in_default c = seeking_end c.requires c.loop-next.invariant c.in_default.ensures
