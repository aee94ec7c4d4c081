use Rattle.std.proofs.Common.{◌∙◌, arith, drop, subst}
use Rattle.ps_device.proofs.DeviceLemmas.{rest-range}
use Rattle.ps_join.proofs.JoinLemmas.{carried_end, reached_broken, reached_cut, reached_group}
use Rattle.ps_join.specs.Joins.{merge_text}
use Rattle.ps_lines.specs.Feeding.{without_return}
use Rattle.ps_peers.specs.Peers.{IsReplied, PutsSome}
use Rattle.ps_join.proofs.carrying.carry.Goals as goal

pub returns-in-Err-merge-clause-stopped : goal.returns-in-Err-merge-clause-stopped
returns-in-Err-merge-clause-stopped g c = λ waits from0 to0 from to j from_at to_at.
    let due = rw c.in-Ok-Group.field-0-is at c.in-Ok-Group.ensures.next in
    let line = without_return c.next_due.new.from.line in
    let first = c.in-Ok-Group.first in
    reached_cut waits to.is_whole c.pulls.at from0 c.pulls.from c.next_due.new.from to0 c.pulls.to c.merge.new.peer
    (c.pulls.invariant.reached waits from0 to0 from to j from_at to_at) (drop first line) c.in-Ok-Group.last due.0
    due.1.0
    (subst (λ text. PutsSome c.pulls.to.asked c.merge.new.peer.asked (merge_text text)) (rest-range line first)
    (rw c.reply.ensures at c.in-Err-merge.ensures.put)) c.in-Err-merge.ensures.taken

pub pulls-preserved : goal.pulls-preserved
pulls-preserved g c =
    let due = rw c.in-Ok-Group.field-0-is at c.in-Ok-Group.ensures.next in
    let line = without_return c.next_due.new.from.line in
    let first = c.in-Ok-Group.first in
    let merged = c.in-Ok.ensures.merged in
    record {
      reached = λ waits from0 to0 from to j from_at to_at.
          reached_group waits to.is_whole c.pulls.at from0 c.pulls.from c.next_due.new.from to0 c.pulls.to
          c.merge.new.peer (c.pulls.invariant.reached waits from0 to0 from to j from_at to_at)
          (record { from = c.in-Ok-Group.last; to = c.in-Ok.next }) (drop first line) due.0 due.1.0
          (subst (λ text. IsReplied (merge_text text) c.pulls.to c.merge.new.peer) (rest-range line first)
          (rw c.reply.ensures at merged.0)) merged.1;
      first = due.0.calm ∙ c.pulls.invariant.first;
      second = merged.0.calm ∙ c.pulls.invariant.second;
      falls = omega (arith, due.0.falls, c.pulls.invariant.falls);
      keeps = omega (arith, merged.0.falls, c.pulls.invariant.keeps);
    }

pub returns-in-Ok-End-clause-carried : goal.returns-in-Ok-End-clause-carried
returns-in-Ok-End-clause-carried g c = λ waits from0 to0 from to j from_at to_at.
    let due = rw c.in-Ok-End.field-0-is at c.in-Ok-End.ensures.next in
    carried_end waits to.is_whole c.pulls.at from0 c.pulls.from c.next_due.new.from to0 c.pulls.to c.pulls.to
    (c.pulls.invariant.reached waits from0 to0 from to j from_at to_at) due.0 due.1

pub returns-in-Ok-Closed-clause-stopped : goal.returns-in-Ok-Closed-clause-stopped
returns-in-Ok-Closed-clause-stopped g c = λ waits from0 to0 from to j from_at to_at.
    reached_broken waits to.is_whole c.pulls.at from0 c.pulls.from c.next_due.new.from to0 c.pulls.to c.pulls.to
    (c.pulls.invariant.reached waits from0 to0 from to j from_at to_at) c.in-Ok-Closed.ensures.put
    c.in-Ok-Closed.ensures.taken

pub returns-in-Err-clause-stopped : goal.returns-in-Err-clause-stopped
returns-in-Err-clause-stopped g c = λ waits from0 to0 from to j from_at to_at.
    reached_broken waits to.is_whole c.pulls.at from0 c.pulls.from c.next_due.new.from to0 c.pulls.to c.pulls.to
    (c.pulls.invariant.reached waits from0 to0 from to j from_at to_at) c.in-Err.ensures.put c.in-Err.ensures.taken
