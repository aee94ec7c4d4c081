use Rattle.std.proofs.Common.{◌≡◌, ◌+◌, ◌-◌, ◌++◌, ◌∷◌, ap, decimal, drop, length, arith, to_z-of_z}
use Rattle.std.proofs.lemmas.Fmt.{length-decimal-le}
use Rattle.std.proofs.lemmas.List.{drop-set}
use Rattle.std.specs.Fmt.{signed_decimal}
use Rattle.itoa.proofs.Decimal.{minus_first}
use Rattle.ps_lines.proofs.reply.write_signed.Goals as goal

pub write_digits-digits-requires : goal.write_digits-digits-requires
write_digits-digits-requires c = (
  omega (arith, length-decimal-le 19 c.unsigned_abs.result (omega arith) (omega arith) (omega arith)),
  omega (arith, c.requires.within),
)

pub overflow_sub-line : goal.overflow_sub-line
overflow_sub-line c =
    omega (arith, length-decimal-le 19 c.unsigned_abs.result (omega arith) (omega arith) (omega arith))

pub overflow_sub-result : goal.overflow_sub-result
overflow_sub-result c =
    omega (arith, length-decimal-le 19 c.unsigned_abs.result (omega arith) (omega arith) (omega arith))

pub returns-clause-start : goal.returns-clause-start
returns-clause-start c =
    let long = length-decimal-le 19 c.unsigned_abs.result (omega arith) (omega arith) (omega arith) in
    let back = to_z-of_z c.ranges.number in
    let text : 45 ∷ decimal c.unsigned_abs.result ≡ signed_decimal c.args.number =
    rw (c.unsigned_abs.ensures.value, back) (minus_first c.args.number (rw back at c.if-number-ge0.false)) in
    omega (arith, long, c.write_digits-digits.ensures.start, ap length text)

pub returns-clause-written : goal.returns-clause-written
returns-clause-written c =
    let w = c.write_digits-digits in
    let long = length-decimal-le 19 c.unsigned_abs.result (omega arith) (omega arith) (omega arith) in
    let e : w.result - 1 + 1 ≡ w.result = omega arith in
    let back = to_z-of_z c.ranges.number in
    let text : 45 ∷ decimal c.unsigned_abs.result ≡ signed_decimal c.args.number =
    rw (c.unsigned_abs.ensures.value, back) (minus_first c.args.number (rw back at c.if-number-ge0.false)) in
    rw (drop-set w.new.buf (w.result - 1) 45 (omega arith), e, w.ensures.written)
    (ap (λ t. t ++ drop c.args.end c.args.line.now) text)
