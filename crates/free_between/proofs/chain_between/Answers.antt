-- `free_between::chain_between` meets its contract: the first cell after the head is the new position, or the first to be chained.
use Rattle.words.proofs.Listed.{listed_shaped}
use Rattle.paths.proofs.Listed.{listed_walkable}
use Rattle.paths.proofs.Ways.{head_starts, way_in}
use Rattle.free_between.proofs.Ways.{between_never, between_none, between_first, between_some}
use Rattle.free_between.proofs.chain_between.Goals as goal

pub head_path-path-requires : goal.head_path-path-requires
head_path-path-requires c = (listed_shaped c.requires.listed).dimensions_most

pub next-requires : goal.next-requires
next-requires c =
    let h = c.requires.listed in
    let head = c.head_path-path.ensures in
    (listed_walkable h, way_in h head.1 (head_starts h head.0))

pub chain_from-count-requires : goal.chain_from-count-requires
chain_from-count-requires c = between_first c.requires c.head_path-path.result c.head_path-path.ensures.0 c.in-Some.ensures c.if-first-position.true

pub returns-then-first-position : goal.returns-then-first-position
returns-then-first-position c = (
  c.chain_from-count.ensures,
  between_some c.requires c.head_path-path.result c.head_path-path.ensures.0 c.in-Some.ensures c.if-first-position.true,
)

pub returns-else-first-position : goal.returns-else-first-position
returns-else-first-position c = between_none c.requires c.head_path-path.result c.head_path-path.ensures.0 c.in-Some.ensures c.if-first-position.false

pub returns-in_default : goal.returns-in_default
returns-in_default c = absurd (between_never c.requires c.head_path-path.result c.head_path-path.ensures.0 c.in_default.ensures.0)
