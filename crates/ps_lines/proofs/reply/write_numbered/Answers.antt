use Rattle.std.proofs.Common.{arith}
use Rattle.std.proofs.lemmas.Fmt.{length-decimal-le}
use Rattle.ps_lines.proofs.reply.write_numbered.Goals as goal

pub write_digits-digits-requires : goal.write_digits-digits-requires
write_digits-digits-requires c =
    let digits = length-decimal-le 20 c.args.number (omega arith) (omega arith) c.ranges.number.fits in
    (omega (arith, digits), omega (arith, c.requires.room))

pub write_before-requires-clause-room : goal.write_before-requires-clause-room
write_before-requires-clause-room c =
    let digits = length-decimal-le 20 c.args.number (omega arith) (omega arith) c.ranges.number.fits in
    omega (arith, c.requires.short, c.write_digits-digits.ensures.start, digits)
