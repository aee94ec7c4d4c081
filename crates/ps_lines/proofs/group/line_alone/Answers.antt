use Rattle.std.proofs.Common.{ℕ, subst}
use Rattle.std.specs.Global.{Vec}
use Rattle.ps_delta.specs.Deltas.{IsDelta}
use Rattle.ps_lines.proofs.GreatestGroup.{alone_line, alone_none}
use Rattle.ps_lines.proofs.group.line_alone.Goals as goal

pub returns-clause-line : goal.returns-clause-line
returns-clause-line c =
    alone_line (λ (line : Vec ℕ). line.items) c.args.delta.now c.joint_line.result
    (subst IsDelta c.parts.ensures.value c.parts.ensures.delta) c.joint_line.ensures.line c.joint_line.ensures.fits

pub returns-clause-none : goal.returns-clause-none
returns-clause-none c = λ is.
    alone_none c.args.delta.now (subst IsDelta c.parts.ensures.value c.parts.ensures.delta)
    (c.joint_line.ensures.too_long is)
