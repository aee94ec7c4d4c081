use Rattle.std.proofs.Common.{arith, ap, length}
use Rattle.std.proofs.lemmas.List.{take_all}
use Rattle.json.specs.Print.{escape}
use Rattle.ps_wire.proofs.SizeLemmas.{escape_more, size_of_string}
use Rattle.ps_wire.proofs.length.string_size.Goals as goal

pub loop-byte-preserved : goal.loop-byte-preserved
loop-byte-preserved c =
    let more = escape_more c.args.bytes.now c.loop-byte.byte-index 0 (omega arith) in
    record {
      so_far = omega (arith, c.loop-byte.invariant.so_far, c.escaped_size-size.ensures.value, more);
      few = omega (arith, c.loop-byte.invariant.few, c.escaped_size-size.ensures.few);
    }

pub returns-clause-value : goal.returns-clause-value
returns-clause-value c =
    let all = take_all c.loop-byte.byte-index c.args.bytes.now (omega arith) in
    omega (
      arith,
      c.loop-byte.invariant.so_far,
      ap (λ bytes. length (escape bytes)) all,
      size_of_string c.args.bytes.now,
    )
