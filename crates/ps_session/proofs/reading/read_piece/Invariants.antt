use Rattle.std.proofs.Common.{◌≡◌, ◌≤◌, ◌-◌, [], length, take}
use Rattle.ps_session.specs.Inside.Stands.{GoesOn}
use Rattle.ps_lines.specs.Streams.{Lines}
use Rattle.ps_session.proofs.reading.read_piece.Given as goal

-- the bytes before the start were taken in; nothing waits, and the keeper covers the board
abbrev pub invariant-parts : goal.invariant-parts
invariant-parts g l = record {
  within : l.start ≤ length l.fn.piece;
  stands : GoesOn (Lines g.B.Board.answers) (take l.start l.fn.piece)
      l.fn.board l.fn.conversation.session.pending (g.D.Delivery.contents l.fn.sink) l.fn.conversation.answered
      l.board l.conversation.session.pending (g.D.Delivery.contents l.sink) l.conversation.answered;
  fits : g.Q.Keeper.fits l.keeper l.board;
  covers : g.Q.Keeper.covers l.keeper l.board;
  flushed : g.D.Delivery.waiting l.sink ≡ [];
  calm : g.D.Delivery.failures l.sink ≡ g.D.Delivery.failures l.fn.sink;
}

abbrev pub decreases-parts : goal.decreases-parts
decreases-parts g l = length l.fn.piece - l.start
