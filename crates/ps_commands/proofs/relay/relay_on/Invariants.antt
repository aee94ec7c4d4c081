use Rattle.std.proofs.Common.{◌-◌}
use Rattle.ps_commands.specs.Commands.{AreTried}
use Rattle.ps_commands.proofs.relay.relay_on.Given as goal

abbrev pub invariant-losses : goal.invariant-losses
invariant-losses g l = record {
  tried : AreTried l.losses (g.K.Sink.contents l.fn.out) (g.K.Sink.contents l.out);
}

abbrev pub decreases-losses : goal.decreases-losses
decreases-losses g l = 18446744073709551615 - l.losses
