use Rattle.std.proofs.Common.{sym, subst}
use Rattle.std.specs.Prelude.{IsUtf8}
use Rattle.ps_wire.proofs.AsciiLemmas.{formula_utf8}
use Rattle.ps_wire.proofs.write.send_content.Goals as goal

pub send_text-requires : goal.send_text-requires
send_text-requires g c = subst IsUtf8 (sym c.text.ensures.canonical) (formula_utf8 c.formula.result.now)
