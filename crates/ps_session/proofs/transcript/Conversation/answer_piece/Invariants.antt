use Rattle.std.proofs.Common.{◌≡◌, ◌≤◌, ◌-◌, length, take}
use Rattle.ps_device.specs.Device.{HoldsBack}
use Rattle.ps_session.specs.Inside.Stands.{GoesOn}
use Rattle.ps_lines.specs.Streams.{Lines}
use Rattle.ps_session.proofs.transcript.Conversation.answer_piece.Given as goal

-- the bytes before the start were taken in, and nothing failed
abbrev pub invariant-turns : goal.invariant-turns
invariant-turns g l = record {
  within : l.start ≤ length l.fn.piece;
  stands : GoesOn (Lines g.B.Board.answers) (take l.start l.fn.piece)
      l.fn.board l.fn.self.session.pending (g.D.Delivery.contents l.fn.sink) l.fn.self.answered
      l.board l.self.session.pending (g.D.Delivery.contents l.sink) l.self.answered;
  calm : g.D.Delivery.failures l.sink ≡ g.D.Delivery.failures l.fn.sink;
  held : g.D.Delivery.holds_back → HoldsBack (g.D.Delivery.contents l.fn.sink) (g.D.Delivery.contents l.sink)
      (g.D.Delivery.waiting l.fn.sink) (g.D.Delivery.waiting l.sink);
}

abbrev pub decreases-turns : goal.decreases-turns
decreases-turns g l = length l.fn.piece - l.start
