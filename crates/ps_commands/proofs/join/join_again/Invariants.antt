use Rattle.std.proofs.Common.{◌-◌}
use Rattle.ps_commands.proofs.join.join_again.Given as goal

abbrev pub decreases-losses : goal.decreases-losses
decreases-losses g l = 18446744073709551615 - l.losses
