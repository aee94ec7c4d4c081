use Rattle.std.proofs.Common.{arith, to_z-of_z}
use Rattle.std.proofs.lemmas.Fmt.{length_signed_le}
use Rattle.ps_lines.proofs.reply.send_signed.Goals as goal

pub write_before-start-requires-clause-room : goal.write_before-start-requires-clause-room
write_before-start-requires-clause-room g c =
    let start = rw (to_z-of_z c.ranges.number) at c.write_signed-digits.ensures.start in
    omega (
      arith,
      start,
      length_signed_le 19 c.args.number (omega (arith, c.ranges.number.sfits))
          (omega (arith, c.ranges.number.sfits)),
    )
