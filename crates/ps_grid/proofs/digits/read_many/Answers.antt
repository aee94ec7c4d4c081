use Rattle.std.proofs.Common.{arith}
use Rattle.ps_grid.proofs.DigitLemmas.{next_digit, no_less, writes_all, writes_more}
use Rattle.ps_grid.proofs.digits.read_many.Goals as goal

pub returns-in_err-checked_mul : goal.returns-in_err-checked_mul
returns-in_err-checked_mul c =
    rw c.from_residual.ensures
    (λ all. (rw c.in_err-checked_mul.was at c.checked_mul.ensures)
    (omega (
      arith,
      all.1,
      no_less c.args.digits.now c.loop-digit.digit-index c.loop-digit.number (omega arith)
          c.loop-digit.invariant.0,
    )))

pub returns-in_err-digit_number : goal.returns-in_err-digit_number
returns-in_err-digit_number c =
    rw c.from_residual-in_err-digit_number.ensures
    (λ all. (rw c.in_err-digit_number.was at c.digit_number.ensures)
    (next_digit c.args.digits.now c.loop-digit.digit-index c.loop-digit.number (omega arith) all.0))

pub returns-in_err-number : goal.returns-in_err-number
returns-in_err-number c =
    let product = rw c.in_ok-checked_mul.was at c.checked_mul.ensures in
    let digit = rw c.in_ok-digit_number.was at c.digit_number.ensures in
    rw c.from_residual-in_err-number.ensures
    (λ all. (rw c.in_err-number.was at c.checked_add.ensures)
    (omega (
      arith,
      product.1,
      digit.1,
      all.1,
      no_less c.args.digits.now c.loop-digit.digit-index c.loop-digit.number
          (omega arith) c.loop-digit.invariant.0,
    )))

pub loop-digit-preserved : goal.loop-digit-preserved
loop-digit-preserved c =
    let product = rw c.in_ok-checked_mul.was at c.checked_mul.ensures in
    let digit = rw c.in_ok-digit_number.was at c.digit_number.ensures in
    let sum = rw c.in_ok-number.was at c.checked_add.ensures in (
      rw (sum.1, product.1, digit.1)
          (writes_more c.args.digits.now c.loop-digit.digit-index c.loop-digit.number (omega arith)
          c.loop-digit.invariant.0 digit.0),
      omega (arith, sum.0, sum.1),
    )

pub returns : goal.returns
returns c =
    let all = writes_all c.args.digits.now c.loop-digit.digit-index c.loop-digit.number (omega arith)
    c.loop-digit.invariant.0 in
    ((all.0, omega (arith, all.1, c.loop-digit.invariant.1)), omega (arith, all.1))
