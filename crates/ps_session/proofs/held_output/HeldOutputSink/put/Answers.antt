use Rattle.ps_session.proofs.HeldLemmas.{put_held, put_waits}
use Rattle.ps_session.proofs.held_output.HeldOutputSink.put.Goals as goal

pub returns-clause-bytes : goal.returns-clause-bytes
returns-clause-bytes g c =
    put_held (g.K.Sink.contents c.args.self.now.sink) (g.K.Sink.waiting c.args.self.now.sink) c.args.self.now.sent
    c.args.self.now.room.bytes.items c.put.new.self.bytes.items c.args.self.now.within c.put.result c.args.piece.now
    c.put.ensures.bytes

pub returns-clause-held : goal.returns-clause-held
returns-clause-held g c = λ holds.
    put_waits (g.K.Sink.contents c.args.self.now.sink) (g.K.Sink.waiting c.args.self.now.sink) c.args.self.now.sent
    c.args.self.now.room.bytes.items c.put.new.self.bytes.items c.args.self.now.within c.put.result c.args.piece.now
    c.put.ensures.bytes
