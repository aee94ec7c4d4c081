use Rattle.std.proofs.Common.{sym, subst}
use Rattle.std.specs.Prelude.{IsUtf8}
use Rattle.ps_wire.proofs.AsciiLemmas.{name_utf8}
use Rattle.ps_wire.proofs.write.send_name.Goals as goal

pub send_text-requires : goal.send_text-requires
send_text-requires g c = subst IsUtf8 (sym c.write-len.ensures.name) (name_utf8 c.args.cell)
