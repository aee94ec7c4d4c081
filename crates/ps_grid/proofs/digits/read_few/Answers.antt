use Rattle.std.proofs.Common.{arith}
use Rattle.ps_grid.proofs.DigitLemmas.{next_digit, room_for_one, writes_more}
use Rattle.ps_grid.proofs.digits.read_few.Goals as goal

pub overflow_mul-number : goal.overflow_mul-number
overflow_mul-number c =
    omega (
      arith,
      room_for_one c.args.digits.now c.loop-digit.digit-index c.loop-digit.number (omega arith)
          c.loop-digit.invariant c.requires,
    )

pub returns-in_err-number : goal.returns-in_err-number
returns-in_err-number c =
    rw c.from_residual.ensures
    (λ all. (rw c.in_err-number.was at c.digit_number.ensures)
    (next_digit c.args.digits.now c.loop-digit.digit-index c.loop-digit.number (omega arith) all))

pub overflow_add-number : goal.overflow_add-number
overflow_add-number c =
    let digit = rw c.in_ok-number.was at c.digit_number.ensures in
    omega (
      arith,
      digit.0,
      digit.1,
      room_for_one c.args.digits.now c.loop-digit.digit-index c.loop-digit.number
          (omega arith) c.loop-digit.invariant c.requires,
    )

pub loop-digit-preserved : goal.loop-digit-preserved
loop-digit-preserved c =
    let digit = rw c.in_ok-number.was at c.digit_number.ensures in
    rw digit.1
    (writes_more c.args.digits.now c.loop-digit.digit-index c.loop-digit.number (omega arith) c.loop-digit.invariant
    digit.0)
