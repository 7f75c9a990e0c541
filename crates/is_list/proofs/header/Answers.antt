-- `is_list::header` meets its contract: the three tests are those of the header's account, and fewer than 5 words are no header.
use native.Mathlib.Omega.{arith}
use lib.ListN.{get_or}
use Rattle.settings.proofs.Numbers.{ranges}
use Rattle.cell_tests.proofs.Tests.{holds}
use Rattle.is_list.proofs.Ends.{header_short, header_range, header_length, header_base, header_list}
use Rattle.is_list.proofs.header.Goals as goal

pub returns-then-list-lt-HEADER_WORDS : goal.returns-then-list-lt-HEADER_WORDS
returns-then-list-lt-HEADER_WORDS c = header_short c.args.list.now c.if-list-lt-HEADER_WORDS.true

pub returns-then-not-in_range : goal.returns-then-not-in_range
returns-then-not-in_range c =
    let l = c.args.list.now in
    header_range l c.in_range.ensures c.if-not-in_range.true-raw

pub length-requires : goal.length-requires
length-requires c =
    let l = c.args.list.now in
    let r = c.in_range in
    let h = ranges (get_or l 0 0) (get_or l 1 0) (get_or l 2 0) (holds r.ensures c.if-not-in_range.false-raw) in
    (h.dimensions_most, h.cells_most)

pub returns-then-list-length : goal.returns-then-list-length
returns-then-list-length c =
    let l = c.args.list.now in
    header_length l (λ e. omega (arith, c.length.ensures))

pub returns-then-not-is_base : goal.returns-then-not-is_base
returns-then-not-is_base c =
    let l = c.args.list.now in
    header_base l c.is_base.ensures c.if-not-is_base.true-raw

pub returns : goal.returns
returns c =
    let l = c.args.list.now in
    let base = c.is_base in
    let range = c.in_range in
    header_list l (holds range.ensures c.if-not-in_range.false-raw)
    (omega (arith, c.length.ensures)) (holds base.ensures c.if-not-is_base.false-raw)
