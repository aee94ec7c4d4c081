use Rattle.std.proofs.Common.{ap, arith, length}
use Rattle.ps_index.proofs.PartedLists.{length-parted}
use Rattle.ps_index.proofs.spans.Spans.len.Goals as goal

pub returns : goal.returns
returns c = omega (
  arith,
  length-parted c.self.inside.places.items c.self.inside.front c.self.inside.free c.self.invariant,
  ap length c.self.view_is,
)
