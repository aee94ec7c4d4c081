use Rattle.std.proofs.Common.{◌∙◌, ◌<◌, drop, inl, inr, refl, subst}
use Rattle.std.specs.Io.KnownBytes.{Appends}
use Rattle.ps_device.proofs.DeviceLemmas.{rest-range}
use Rattle.ps_lines.specs.Feeding.{without_return}
use Rattle.ps_peers.specs.Peers.{PutsSome}
use Rattle.ps_lines.specs.PushLine.{push_text}
use Rattle.ps_peers.proofs.ExchangeLemmas.{followed_end, followed_more, followed_wait, halted_before, halted_cut}
use Rattle.ps_peers.proofs.follower.follow.Goals as goal

pub returns-in-Err-write_push-clause-halted : goal.returns-in-Err-write_push-clause-halted
returns-in-Err-write_push-clause-halted g c =
    let due = rw c.in-Ok-Group.field-0-is at c.in-Ok-Group.ensures.next in
    let line = without_return c.next_due.new.from.line in
    let delta = drop c.in-Ok-Group.start line in
    halted_cut _ c.args.after c.args.from.now c.pulls.from c.next_due.new.from (g.O.Sink.contents c.args.out.now)
    (g.O.Sink.contents c.pulls.out) (g.O.Sink.contents c.write_push.new.out)
    c.pulls.version c.pulls.invariant.followed _ (push_text delta) c.in-Ok-Group.last
    (subst (λ n. n < g.O.Sink.failures c.write_push.new.out) c.pulls.invariant.second
    c.in-Err-write_push.ensures.failed)
    due.0 (inl (delta, due.1.0, refl))
    (subst (λ text. PutsSome (g.O.Sink.contents c.pulls.out) (g.O.Sink.contents c.write_push.new.out) (push_text text))
    (rest-range line c.in-Ok-Group.start) (rw c.reply.ensures at c.in-Err-write_push.ensures.put))

pub pulls-preserved-in-Ok-Group : goal.pulls-preserved-in-Ok-Group
pulls-preserved-in-Ok-Group g c =
    let due = rw c.in-Ok-Group.field-0-is at c.in-Ok-Group.ensures.next in
    let line = without_return c.next_due.new.from.line in
    let delta = drop c.in-Ok-Group.start line in
    record {
      followed = followed_more _ c.args.after c.args.from.now c.pulls.from c.next_due.new.from
          (g.O.Sink.contents c.args.out.now) (g.O.Sink.contents c.pulls.out) (g.O.Sink.contents c.write_push.new.out)
          c.pulls.version c.pulls.invariant.followed (push_text delta) c.in-Ok-Group.last
          due.0 (inl (delta, due.1.0, refl))
          (subst (λ text. Appends (g.O.Sink.contents c.pulls.out) (g.O.Sink.contents c.write_push.new.out)
          (push_text text)) (rest-range line c.in-Ok-Group.start) (rw c.reply.ensures at c.in-Ok.ensures.sent));
      first = due.0.calm ∙ c.pulls.invariant.first;
      second = c.in-Ok.ensures.calm ∙ c.pulls.invariant.second;
      flushed = λ _. c.in-Ok.ensures.flushed;
    }

pub returns-in-Ok-End-clause-all : goal.returns-in-Ok-End-clause-all
returns-in-Ok-End-clause-all g c = λ _.
    let due = rw c.in-Ok-End.field-0-is at c.in-Ok-End.ensures.next in
    record {
      version = c.pulls.version;
      followed = followed_end _ c.args.after c.args.from.now c.pulls.from c.next_due.new.from
          (g.O.Sink.contents c.args.out.now) (g.O.Sink.contents c.pulls.out) (g.O.Sink.contents c.pulls.out)
          c.pulls.version c.pulls.invariant.followed due.0 due.1 refl;
      ended = due.1;
    }

pub pulls-preserved : goal.pulls-preserved
pulls-preserved g c =
    let due = rw c.in-Ok-End.field-0-is at c.in-Ok-End.ensures.next in
    let news = rw c.in-Ok-true.field-0-test at c.in-Ok-true.ensures.news in
    let ended = followed_end _ c.args.after c.args.from.now c.pulls.from c.next_due.new.from
    (g.O.Sink.contents c.args.out.now) (g.O.Sink.contents c.pulls.out) (g.O.Sink.contents c.pulls.out)
    c.pulls.version c.pulls.invariant.followed due.0 due.1 refl in
    record {
      followed = followed_wait _ c.args.after c.args.from.now c.next_due.new.from c.await_news.new.from
          (g.O.Sink.contents c.args.out.now) (g.O.Sink.contents c.pulls.out) (g.O.Sink.contents c.pulls.out)
          c.pulls.version ended c.if-until_now.false news.0 news.1;
      first = news.0.calm ∙ due.0.calm ∙ c.pulls.invariant.first;
      second = c.pulls.invariant.second;
      flushed = c.pulls.invariant.flushed;
    }

pub returns-in-Ok-false-clause-left : goal.returns-in-Ok-false-clause-left
returns-in-Ok-false-clause-left g c = λ follows.
    let due = rw c.in-Ok-End.field-0-is at c.in-Ok-End.ensures.next in
    record {
      middle = c.next_due.new.from;
      version = c.pulls.version;
      followed = followed_end _ c.args.after c.args.from.now c.pulls.from c.next_due.new.from
          (g.O.Sink.contents c.args.out.now) (g.O.Sink.contents c.pulls.out) (g.O.Sink.contents c.pulls.out)
          c.pulls.version c.pulls.invariant.followed due.0 due.1 refl;
      closed = inr (follows, rw c.in-Ok-false.field-0-test at c.in-Ok-false.ensures.news);
    }

pub returns-in-Err-await_news-clause-halted : goal.returns-in-Err-await_news-clause-halted
returns-in-Err-await_news-clause-halted g c =
    let due = rw c.in-Ok-End.field-0-is at c.in-Ok-End.ensures.next in
    let ended = followed_end _ c.args.after c.args.from.now c.pulls.from c.next_due.new.from
    (g.O.Sink.contents c.args.out.now) (g.O.Sink.contents c.pulls.out) (g.O.Sink.contents c.pulls.out)
    c.pulls.version c.pulls.invariant.followed due.0 due.1 refl in
    halted_before _ c.args.after c.args.from.now c.next_due.new.from c.await_news.new.from
    (g.O.Sink.contents c.args.out.now) (g.O.Sink.contents c.pulls.out) (g.O.Sink.contents c.pulls.out)
    c.pulls.version ended _ refl
    c.in-Err-await_news.ensures.taken
