-- `report::put_number` meets its contract: the digits made are those of the number, and the byte goes to the index after them.
use native.Mathlib.Omega.{arith}
use Rattle.report.proofs.Puts.{put_length, put_byte, put_more}
use Rattle.report.proofs.Digits.{decimal_spelled}
use Rattle.report.proofs.put_number.Goals as goal

pub put-end-requires : goal.put-end-requires
put-end-requires c = omega (arith, (decimal_spelled c.decimal-n.new.out c.ranges.number.fits c.decimal-n.ensures.in_bounds c.decimal-n.ensures.len c.decimal-n.ensures.digits).most)

pub bounds-out-end : goal.bounds-out-end
bounds-out-end c =
    let put = c.put-end.ensures in
    omega (arith, (decimal_spelled c.decimal-n.new.out c.ranges.number.fits c.decimal-n.ensures.in_bounds c.decimal-n.ensures.len c.decimal-n.ensures.digits).most, put.end, put_length put)

pub overflow_add-result : goal.overflow_add-result
overflow_add-result c =
    let put = c.put-end.ensures in
    omega (arith, (decimal_spelled c.decimal-n.new.out c.ranges.number.fits c.decimal-n.ensures.in_bounds c.decimal-n.ensures.len c.decimal-n.ensures.digits).most, put.end, put_length put)

pub returns : goal.returns
returns c =
    let digits = decimal_spelled c.decimal-n.new.out c.ranges.number.fits c.decimal-n.ensures.in_bounds c.decimal-n.ensures.len c.decimal-n.ensures.digits in
    let put = c.put-end.ensures in
    (put_more (rw digits.is at put) (put_byte _ _ _), omega (arith, digits.most, put.end))
