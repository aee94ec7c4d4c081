use Rattle.std.proofs.Common.{arith, refl, sym, subst}
use Rattle.std.specs.Prelude.{IsUtf8}
use Rattle.ps_wire.proofs.AsciiLemmas.{quoted_utf8}
use Rattle.ps_wire.proofs.SizeLemmas.{label_is_short}
use Rattle.ps_wire.proofs.write.send_label.Goals as goal

pub put_label-len-requires : goal.put_label-len-requires
put_label-len-requires g c =
    omega (arith, label_is_short c.args.label.now c.args.label.now c.requires refl)

pub send_text-requires : goal.send_text-requires
send_text-requires g c =
    subst IsUtf8 (sym c.put_label-len.ensures.front) (quoted_utf8 c.args.label.now c.requires)
