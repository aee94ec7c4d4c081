use Rattle.std.proofs.Common.{inr, refl}
use Rattle.ps_commands.specs.declared.kept.KeptTrouble.TheVariants as troubles
use Rattle.ps_commands.proofs.kept.lost_file.Goals as goal

pub returns-in-Ok : goal.returns-in-Ok
returns-in-Ok c = inr (
  record { path = c.in-Ok.path; trouble = troubles.Lost c.cause.result },
  c.cause.result,
  refl,
  refl,
)
