-- `files::read_contents` meets its contract: each test is one of those of a file, and past the last the bytes are one.
use mathlib.Core.Path.{sym}
use native.Mathlib.Omega.{arith}
use borrow.Author.Tests.{not-true, not-false}
use Rattle.files.proofs.Reading.{too_short, no_number, number_in, out_of_range, number_small, too_many, wrong_length, wrong_table, not_rising, all_right}
use Rattle.files.proofs.read_contents.Goals as goal

pub returns-then-file : goal.returns-then-file
returns-then-file c = sym (too_short c.args.file.now (omega (arith, c.if-file.true)))

pub returns-in_err-s : goal.returns-in_err-s
returns-in_err-s c = rw c.from_residual.ensures (sym (out_of_range c.args.file.now c.settings_in.ensures c.in_err-s.was))

pub returns-then-file-start : goal.returns-then-file-start
returns-then-file-start c = sym (no_number c.args.file.now c.count_width.ensures.0 (omega (arith, c.if-file-start.true)))

pub returns-then-s-n : goal.returns-then-s-n
returns-then-s-n c =
    sym (too_many c.args.file.now c.settings_in.ensures c.in_ok-s.was (number_in c.args.file.now c.count_width.ensures.0 c.number-n.ensures) (omega (arith, c.if-s-n.true)))

pub returns-then-file-file_length : goal.returns-then-file-file_length
returns-then-file-file_length c =
    sym (wrong_length c.args.file.now c.settings_in.ensures c.in_ok-s.was (number_in c.args.file.now c.count_width.ensures.0 c.number-n.ensures) c.file_length.ensures
    (λ e. omega (arith, c.if-file-file_length.true, e)))

pub table_right-requires : goal.table_right-requires
table_right-requires c = (
  number_small c.args.file.now c.settings_in.ensures c.in_ok-s.was (omega (arith, c.if-s-n.false)),
  omega (arith, c.if-file.false),
)

pub returns-then-not-table_right : goal.returns-then-not-table_right
returns-then-not-table_right c =
    let table = c.table_right in
    sym (wrong_table c.args.file.now c.settings_in.ensures c.in_ok-s.was (number_in c.args.file.now c.count_width.ensures.0 c.number-n.ensures) table.ensures
    (not-true table.result c.if-not-table_right.true-raw))

pub returns-then-not-keys_rise : goal.returns-then-not-keys_rise
returns-then-not-keys_rise c =
    let keys = c.keys_rise in
    sym (not_rising c.args.file.now c.settings_in.ensures c.in_ok-s.was (number_in c.args.file.now c.count_width.ensures.0 c.number-n.ensures) keys.ensures
    (not-true keys.result c.if-not-keys_rise.true-raw))

pub returns : goal.returns
returns c =
    let table = c.table_right in
    let keys = c.keys_rise in
    sym (all_right c.args.file.now c.settings_in.ensures c.in_ok-s.was (number_in c.args.file.now c.count_width.ensures.0 c.number-n.ensures)
    (λ i. omega (arith, c.type_inv.file i)) c.file_length.ensures (omega (arith, c.if-file-file_length.false))
    table.ensures (not-false table.result c.if-not-table_right.false-raw) (omega (arith, c.if-s-n.false))
    keys.ensures (not-false keys.result c.if-not-keys_rise.false-raw))
