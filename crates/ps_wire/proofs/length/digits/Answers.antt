use Rattle.std.proofs.Common.{arith}
use Rattle.ps_wire.proofs.SizeLemmas.{digit_more, few_digits, one_digit, some_digits}
use Rattle.ps_wire.proofs.length.digits.Goals as goal

pub overflow_add-count : goal.overflow_add-count
overflow_add-count c =
    omega (
      arith,
      c.digits.invariant.counted,
      few_digits c.args.number (omega arith),
      some_digits c.digits.rest (omega (arith, c.digits.invariant.within)),
    )

pub digits-preserved : goal.digits-preserved
digits-preserved c =
    let within = c.digits.invariant.within in
    record {
      counted =
          omega (
            arith,
            c.digits.invariant.counted,
            digit_more c.digits.rest (omega arith) (omega (arith, within)),
          );
      within = omega (arith, within);
    }

pub returns-clause-value : goal.returns-clause-value
returns-clause-value c = omega (arith, c.digits.invariant.counted, one_digit c.digits.rest (omega arith))

pub returns-clause-few : goal.returns-clause-few
returns-clause-few c =
    omega (
      arith,
      c.digits.invariant.counted,
      one_digit c.digits.rest (omega arith),
      few_digits c.args.number (omega arith),
    )
