use Rattle.std.proofs.Common.{◌∙◌, [], Some, ap, arith, inl, inr, sym}
use Rattle.ps_peers.proofs.AskingLemmas.{writes_cut, writes_none, writes_stop, flushed_or_failed, reply_asked}
use Rattle.ps_peers.proofs.AskingLemmas.{reply_some, reply_unflushed}
use Rattle.ps_peers.proofs.ExchangeLemmas.{replied_takes}
use Rattle.ps_peers.specs.Asking.{ended}
use Rattle.ps_peers.proofs.asking.ask_line.Goals as goal

pub returns-in-Err-clause-some : goal.returns-in-Err-clause-some
returns-in-Err-clause-some g c = writes_stop [] _ _ _ _ (writes_none _ _) _ c.in-Err.ensures.taken

pub returns-in-Err-count_due-clause-some : goal.returns-in-Err-count_due-clause-some
returns-in-Err-count_due-clause-some g c =
    writes_stop [] _ _ _ _ (writes_none _ _) _
    (replied_takes (ended c.args.line.now) c.args.peer.now c.ask.new.self
    (rw c.as_slice.ensures at c.in-Ok.ensures.replied))

pub returns-in-Err-put_line-clause-some : goal.returns-in-Err-put_line-clause-some
returns-in-Err-put_line-clause-some g c =
    writes_cut [] _ _ _ _ (writes_none _ _) c.ask.new.self.line _ _ c.in-Ok.ensures.replied.one
    c.in-Ok.ensures.replied.read (rw c.reply-3.ensures at c.put_line.ensures.put)

pub returns-in-Err-rest-clause-some : goal.returns-in-Err-rest-clause-some
returns-in-Err-rest-clause-some g c =
    reply_some c.args.line.now c.args.peer.now c.ask.new.self _ _ (rw c.as_slice.ensures at c.in-Ok.ensures.replied)
    (rw c.reply-3.ensures at c.in-Ok-put_line.ensures.sent) _ _ _ c.in-Err-rest.ensures.some
    c.hand_on-flushed.ensures.same

pub returns-in-Err-rest-clause-flushed : goal.returns-in-Err-rest-clause-flushed
returns-in-Err-rest-clause-flushed g c = λ none.
    elim (flushed_or_failed _ _ _ c.hand_on-flushed.result c.hand_on-flushed.ensures.flushed
    c.hand_on-flushed.ensures.failed) [
      | inl flushed ↦ inl flushed
      | inr failed ↦ inr (omega (arith, failed, c.put_rest-rest.ensures.rises, c.in-Ok-put_line.ensures.calm))
    ]

pub returns-in-Ok-flushed-clause-asked : goal.returns-in-Ok-flushed-clause-asked
returns-in-Ok-flushed-clause-asked g c =
    let all = c.in-Ok-rest.ensures.all in
    reply_asked c.args.line.now c.args.peer.now c.ask.new.self _ _ (rw c.as_slice.ensures at c.in-Ok.ensures.replied)
    (rw c.reply-3.ensures at c.in-Ok-put_line.ensures.sent) all.0 c.put_rest-rest.new.peer _ _ all.2
    c.put_rest-rest.ensures.unasked c.hand_on-flushed.ensures.same
    ((rw c.reply.ensures at c.in-Ok-count_due.ensures.due) ∙ ap Some (sym all.1))

pub returns-in-Err-flushed-clause-some : goal.returns-in-Err-flushed-clause-some
returns-in-Err-flushed-clause-some g c =
    let all = c.in-Ok-rest.ensures.all in
    reply_unflushed c.args.line.now c.args.peer.now c.ask.new.self _ _
    (rw c.as_slice.ensures at c.in-Ok.ensures.replied)
    (rw c.reply-3.ensures at c.in-Ok-put_line.ensures.sent) all.0 _ _ _ all.2
    c.hand_on-flushed.ensures.same
