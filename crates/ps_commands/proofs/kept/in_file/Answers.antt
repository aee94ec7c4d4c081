use Rattle.std.proofs.Common.{inr, refl}
use Rattle.ps_commands.proofs.kept.in_file.Goals as goal

pub returns-in-KeptFailed : goal.returns-in-KeptFailed
returns-in-KeptFailed c = inr (c.in-KeptFailed.kept, c.moved.result, c.in-KeptFailed.is, c.moved.ensures, refl)
