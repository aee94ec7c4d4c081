use Rattle.std.proofs.Common.{◌+◌, sym, arith}
use Rattle.ps_tokens.proofs.DigitValues.{digits_value-take-le, number_in-large, value_more}
use Rattle.ps_tokens.proofs.front.number.Goals as goal

pub returns-then-value-clause-value : goal.returns-then-value-clause-value
returns-then-value-clause-value c =
    let w = c.args.digits.now in
    let i = c.loop-digit.digit-index in
    let more = value_more c.loop-digit.value i w c.requires (omega arith) c.loop-digit.invariant.0 in
    sym (number_in-large w (omega (arith, more.0, digits_value-take-le (i + 1) w)))

pub overflow_sub-digit : goal.overflow_sub-digit
overflow_sub-digit c =
    (value_more c.loop-digit.value c.loop-digit.digit-index c.args.digits.now c.requires
    (omega arith) c.loop-digit.invariant.0).1.0

pub returns-then-value-gt-LARGEST-clause-value : goal.returns-then-value-gt-LARGEST-clause-value
returns-then-value-gt-LARGEST-clause-value c =
    let w = c.args.digits.now in
    let i = c.loop-digit.digit-index in
    let more = value_more c.loop-digit.value i w c.requires (omega arith) c.loop-digit.invariant.0 in
    sym (number_in-large w (omega (arith, more.0, digits_value-take-le (i + 1) w)))

pub loop-digit-preserved : goal.loop-digit-preserved
loop-digit-preserved c =
    let w = c.args.digits.now in
    let i = c.loop-digit.digit-index in
    let more = value_more c.loop-digit.value i w c.requires (omega arith) c.loop-digit.invariant.0 in
    (omega (arith, more.0), omega arith)
