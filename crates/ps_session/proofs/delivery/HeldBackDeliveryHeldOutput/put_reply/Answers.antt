use Rattle.ps_lines.specs.Replies.{reply_text}
use Rattle.ps_session.proofs.HeldLemmas.{sends_held, sends_wait}
use Rattle.ps_session.proofs.delivery.HeldBackDeliveryHeldOutput.put_reply.Goals as goal

pub returns-clause-sent : goal.returns-clause-sent
returns-clause-sent g c =
    sends_held (g.K.Sink.contents c.args.sink.now.sink) (g.K.Sink.waiting c.args.sink.now.sink) c.args.sink.now.sent
    c.args.sink.now.room.bytes.items c.send.new.sink.bytes.items c.args.sink.now.within c.send.result
    (reply_text c.args.reply.now) c.send.ensures.sent

pub returns-clause-held : goal.returns-clause-held
returns-clause-held g c = λ holds.
    sends_wait (g.K.Sink.contents c.args.sink.now.sink) (g.K.Sink.waiting c.args.sink.now.sink) c.args.sink.now.sent
    c.args.sink.now.room.bytes.items c.send.new.sink.bytes.items c.args.sink.now.within c.send.result
    (reply_text c.args.reply.now) c.send.ensures.sent
