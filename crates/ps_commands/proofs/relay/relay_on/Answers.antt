use Rattle.std.proofs.Common.{◌≡◌, ◌+◌, arith, subst}
use Rattle.std.specs.Prelude.{suc}
use Rattle.ps_commands.specs.Commands.{AreTried}
use Rattle.ps_commands.proofs.relay.relay_on.Goals as goal

pub losses-preserved : goal.losses-preserved
losses-preserved g c =
    let old = g.K.Sink.contents c.args.out.now in
    let new = g.K.Sink.contents c.relay_anew.new.out in
    let attempt = rw c.in-Some-2.is at c.in_ok-relay_anew.ensures.attempt in
    let tried : AreTried (suc c.losses.losses) old new =
    (g.K.Sink.contents c.losses.out, c.losses.invariant.tried, attempt) in
    let one_more : suc c.losses.losses ≡ c.losses.losses + 1 = omega arith in
    record { tried = subst (λ n. AreTried n old new) one_more tried }
