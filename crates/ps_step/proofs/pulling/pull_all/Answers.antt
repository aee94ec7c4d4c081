use Rattle.std.proofs.Common.{◌∙◌, drop, refl, subst}
use Rattle.ps_device.proofs.DeviceLemmas.{rest-range}
use Rattle.ps_delta.specs.State.{state_at}
use Rattle.ps_wire.specs.Line.{IsLine}
use Rattle.ps_lines.specs.Feeding.{without_return}
use Rattle.ps_step.proofs.PullLemmas.{asked_nothing, given_more, given_none}
use Rattle.ps_step.proofs.pulling.pull_all.Goals as goal

pub returns-in-Err-clause-asked : goal.returns-in-Err-clause-asked
returns-in-Err-clause-asked g c = asked_nothing c.args.peer.now

pub pulls-init : goal.pulls-init
pulls-init g c = record {
  given = given_none c.args.peer.now _ c.in-Ok.ensures.empty;
  calm = refl;
}

pub pulls-preserved : goal.pulls-preserved
pulls-preserved g c =
    let due = rw c.in-Ok-Group.field-0-is at c.in-Ok-Group.ensures.next in
    let line = without_return c.next_due.new.from.line in
    let joined = c.in-Ok-join_line.ensures.joined in
    record {
      given = given_more c.args.peer.now c.pulls.peer c.next_due.new.from c.pulls.version (state_at c.pulls.state)
          c.pulls.invariant.given (state_at c.join_line.new.state) (drop c.in-Ok-Group.start line) joined.0
          c.in-Ok-Group.last due.0 due.1.0
          (subst (λ text. IsLine text joined.0) (rest-range line c.in-Ok-Group.start) (rw c.reply.ensures at joined.1))
          joined.2;
      calm = due.0.calm ∙ c.pulls.invariant.calm;
    }
