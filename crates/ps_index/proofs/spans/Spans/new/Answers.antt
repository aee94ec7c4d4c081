use Rattle.std.proofs.Common.{refl}
use Rattle.ps_index.specs.Inside.Parted.{parted}
use Rattle.ps_index.proofs.spans.Spans.new.Goals as goal

pub returns : goal.returns
unfolding parted
returns c = rw c.new.ensures.items refl
