use Rattle.std.proofs.Common.{◌<◌, inl, inr, subst}
use Rattle.std.proofs.lemmas.Bool.{cases_lt}
use Rattle.ps_wire.specs.Length.{OutgrowsLine, lasting_size}
use Rattle.ps_wire.specs.declared.TheConstants.{DELTA_LINE_LIMIT}
use Rattle.ps_wire.proofs.GrowthLemmas.{outgrows}
use Rattle.ps_wire.proofs.length.outgrows_line.Goals as goal

pub returns-in-None-clause-outgrows : goal.returns-in-None-clause-outgrows
returns-in-None-clause-outgrows c =
    let cells = c.parts.result.now in
    let long : DELTA_LINE_LIMIT < lasting_size cells = elim (cases_lt DELTA_LINE_LIMIT (lasting_size cells)) [
      | inl lt ↦ lt
      | inr le ↦ absurd (c.in-None.ensures le)
    ] in
    subst OutgrowsLine c.parts.ensures.value (outgrows cells c.parts.ensures.delta long)
