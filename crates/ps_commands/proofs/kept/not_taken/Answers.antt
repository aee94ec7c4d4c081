use Rattle.std.proofs.Common.{inr, refl}
use Rattle.ps_commands.proofs.kept.not_taken.Goals as goal

pub returns-in-Ok : goal.returns-in-Ok
returns-in-Ok c = inr (record { path = c.in-Ok.path; trouble = c.args.trouble }, refl, refl)
