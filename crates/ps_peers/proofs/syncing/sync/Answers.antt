use Rattle.std.proofs.Common.{◌∙◌, drop, inl, refl, subst}
use Rattle.std.specs.Io.KnownBytes.{Appends}
use Rattle.ps_device.proofs.DeviceLemmas.{rest-range}
use Rattle.ps_lines.specs.Feeding.{without_return}
use Rattle.ps_peers.specs.Peers.{PutsSome}
use Rattle.ps_lines.specs.PushLine.{push_text}
use Rattle.ps_peers.proofs.ExchangeLemmas.{followed_end, followed_more, halted_cut}
use Rattle.ps_peers.proofs.syncing.sync.Goals as goal

pub returns-in-Err-push-clause-halted : goal.returns-in-Err-push-clause-halted
returns-in-Err-push-clause-halted g c =
    let due = rw c.in-Ok-Group.field-0-is at c.in-Ok-Group.ensures.next in
    let line = without_return c.next_due.new.from.line in
    let delta = drop c.in-Ok-Group.start line in
    halted_cut ⊥ 0 c.args.from.now c.pulls.from c.next_due.new.from c.args.to.now.asked c.pulls.to.asked
    c.push.new.to.asked
    c.pulls.version c.pulls.invariant.followed _ (push_text delta) c.in-Ok-Group.last tt
    due.0 (inl (delta, due.1.0, refl))
    (subst (λ text. PutsSome c.pulls.to.asked c.push.new.to.asked (push_text text))
    (rest-range line c.in-Ok-Group.start) (rw c.reply.ensures at c.in-Err-push.ensures.put))

pub pulls-preserved : goal.pulls-preserved
pulls-preserved g c =
    let due = rw c.in-Ok-Group.field-0-is at c.in-Ok-Group.ensures.next in
    let line = without_return c.next_due.new.from.line in
    let delta = drop c.in-Ok-Group.start line in
    record {
      followed = followed_more ⊥ 0 c.args.from.now c.pulls.from c.next_due.new.from c.args.to.now.asked
          c.pulls.to.asked c.push.new.to.asked
          c.pulls.version c.pulls.invariant.followed (push_text delta) c.in-Ok-Group.last
          due.0 (inl (delta, due.1.0, refl))
          (subst (λ text. Appends c.pulls.to.asked c.push.new.to.asked (push_text text))
          (rest-range line c.in-Ok-Group.start) (rw c.reply.ensures at c.in-Ok.ensures.pushed.asked));
      first = due.0.calm ∙ c.pulls.invariant.first;
      second = c.in-Ok.ensures.pushed.calm ∙ c.pulls.invariant.second;
    }

pub returns-in-Ok-End-clause-all : goal.returns-in-Ok-End-clause-all
returns-in-Ok-End-clause-all g c =
    let due = rw c.in-Ok-End.field-0-is at c.in-Ok-End.ensures.next in
    record {
      version = c.pulls.version;
      followed = followed_end ⊥ 0 c.args.from.now c.pulls.from c.next_due.new.from c.args.to.now.asked
          c.pulls.to.asked c.pulls.to.asked
          c.pulls.version c.pulls.invariant.followed due.0 due.1 refl;
      ended = due.1;
    }
