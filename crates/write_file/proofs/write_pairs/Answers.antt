-- `write_file::write_pairs` meets its contract: at each turn the pairs of the live nodes in front of the path's cell are written, and a key
-- less lies ahead.
use Prim.Native.Nat.{ℕ, ◌<◌}
use native.Mathlib.Omega.{arith}
use Rattle.settings.specs.Numbers.{fields_before_links}
use Rattle.files.specs.Files.{before}
use Rattle.words.specs.Shaped.{Shaped, Within}
use Rattle.words.proofs.Shaped.{field_within}
use Rattle.words.proofs.Listed.{listed_shaped}
use Rattle.paths.proofs.Listed.{listed_walkable}
use Rattle.write_file.proofs.Writing.{writing_start, writing_end, writing_less, writing_past, writing_room, writing_here}
use Rattle.write_file.proofs.write_pairs.Goals as goal
use Rattle.write_file.proofs.write_pairs.Goals.{In-Some}

-- the next cell is one of the list's
within : (c : In-Some) (j : ℕ) → j < fields_before_links → Shaped c.args.list.now c.args.s × Within c.args.s c.in-Some.next.cell j
within c j h = (listed_shaped c.requires.0, field_within c.in-Some.ensures.at.below h)

pub head_path-path-requires : goal.head_path-path-requires
head_path-path-requires c = (listed_shaped c.requires.0).dimensions_most

pub loop-next-init : goal.loop-next-init
loop-next-init c =
    let head = c.head_path-path.ensures in
    writing_start c.requires.0 head.0 head.1 (before c.args.n) c.args.file.now

pub next-requires : goal.next-requires
next-requires c = (listed_walkable c.requires.0, c.loop-next.invariant.path_in)

pub word-requires : goal.word-requires
word-requires c = within (goal.at.word-requires c).In-Some 2 (omega arith)

pub word-key-requires : goal.word-key-requires
word-key-requires c = within (goal.at.word-key-requires c).In-Some 0 (omega arith)

pub word-value-requires : goal.word-value-requires
word-value-requires c = within (goal.at.word-value-requires c).In-Some 1 (omega arith)

pub write_pair-requires : goal.write_pair-requires
write_pair-requires c =
    writing_room c.requires.0 c.loop-next.invariant c.in-Some.ensures c.word.ensures c.if-word-eq-LIVE.true c.requires.1.0 c.requires.1.1

pub loop-next-smaller-then-word-eq-LIVE : goal.loop-next-smaller-then-word-eq-LIVE
loop-next-smaller-then-word-eq-LIVE c = writing_less c.requires.0 c.loop-next.invariant c.in-Some.ensures

pub loop-next-preserved-then-word-eq-LIVE : goal.loop-next-preserved-then-word-eq-LIVE
loop-next-preserved-then-word-eq-LIVE c =
    writing_here c.requires.0 c.loop-next.invariant c.in-Some.ensures c.word.ensures c.if-word-eq-LIVE.true c.word-key.ensures c.word-value.ensures
    c.write_pair.ensures

pub loop-next-smaller : goal.loop-next-smaller
loop-next-smaller c = writing_less c.requires.0 c.loop-next.invariant c.in-Some.ensures

pub loop-next-preserved : goal.loop-next-preserved
loop-next-preserved c = writing_past c.requires.0 c.loop-next.invariant c.in-Some.ensures c.word.ensures c.if-word-eq-LIVE.false

pub returns : goal.returns
returns c = writing_end c.requires.0 c.loop-next.invariant c.in_default.ensures.0
