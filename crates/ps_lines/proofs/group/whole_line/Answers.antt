use Rattle.std.proofs.Common.{ℕ, subst}
use Rattle.std.specs.Global.{Vec}
use Rattle.ps_delta.specs.Deltas.{IsDelta}
use Rattle.ps_lines.proofs.JointLemmas.{group_line_of}
use Rattle.ps_lines.proofs.group.whole_line.Goals as goal

pub returns : goal.returns
returns c = record {
  line = group_line_of (λ (line : Vec ℕ). line.items) c.args.deltas.now c.args.count c.in_ok-joint.joint
      c.short_line.result c.requires.within
      (record {
        lawful = subst IsDelta c.parts.ensures.value c.parts.ensures.delta;
        joined = c.in_ok-joint.ensures.joined;
      })
      c.short_line.ensures.line c.short_line.ensures.fits;
  memory = c.short_line.ensures.memory;
}
