use Rattle.std.proofs.Common.{arith}
use Rattle.ps_wire.proofs.LineLemmas.{read_line, same_delta}
use Rattle.ps_wire.proofs.decoder.Decoder.decode.Goals as goal

pub returns-in-Some-clause-read : goal.returns-in-Some-clause-read
returns-in-Some-clause-read c =
    let reads = rw c.in-Some.is at c.in_ok-delta.ensures.reads in
    let line = read_line c.args.bytes.now c.in-Some.delta (omega (arith, c.if-bytes-gt-DELTA_LINE_LIMIT.false)) reads in
    λ d other. same_delta c.args.bytes.now d c.in-Some.delta other line
