use Rattle.ps_value.proofs.LabelLemmas.{padded_front}
use Rattle.ps_value.proofs.label.in_room.Goals as goal

pub returns : goal.returns
returns c = rw (c.copy_from_slice.ensures.after) (padded_front c.args.bytes.now)
