-- `read_file::put_pairs` meets its contract: the words have been given the pairs of the file before pair i.
use native.Mathlib.Omega.{arith}
use Rattle.words.proofs.Listed.{listed_base, listed_power}
use Rattle.read_file.proofs.Reading.{told, told_limits, told_listed, put_start, put_asks, put_more, put_all}
use Rattle.read_file.proofs.put_pairs.Goals as goal

pub of-levels-requires : goal.of-levels-requires
of-levels-requires c =
    let pre = c.requires in
    let t = told pre.1 in
    let list = told_listed t pre.0 in
    ((told_limits t).0, (listed_base list, listed_power list))

pub loop-i-init : goal.loop-i-init
loop-i-init c =
    let pre = c.requires in
    let head = c.head_path-path.ensures in
    put_start (told pre.1) pre.0 head.0 head.1

pub key_at-key-requires : goal.key_at-key-requires
key_at-key-requires c = let t = told c.requires.1 in omega (arith, t.long)

pub value_at-value-requires : goal.value_at-value-requires
value_at-value-requires c = let t = told c.requires.1 in omega (arith, t.long)

pub put_pair-requires : goal.put_pair-requires
put_pair-requires c =
    rw c.of-levels.ensures
    (put_asks (told c.requires.1) c.loop-i.invariant c.loop-i-test.true c.key_at-key.ensures c.value_at-value.ensures)

pub loop-i-preserved : goal.loop-i-preserved
loop-i-preserved c =
    put_more (told c.requires.1) c.loop-i.invariant c.loop-i-test.true c.key_at-key.ensures c.value_at-value.ensures
    (rw c.of-levels.ensures at c.put_pair.ensures)

pub returns : goal.returns
returns c = put_all (told c.requires.1) c.loop-i.invariant c.loop-i.auto.i-end c.loop-i-test.false
