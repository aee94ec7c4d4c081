use Rattle.std.proofs.Common.{◌≡◌, ℕ, [], List}
use Rattle.std.specs.Io.KnownBytes.{Consumes}
use Rattle.ps_session.specs.Inside.Stands.{Stands}
use Rattle.ps_lines.specs.Streams.{Lines}
use Rattle.ps_session.proofs.reading.read_on.Given as goal

-- what was read was taken in; nothing waits, and the keeper covers the board
abbrev pub invariant-pieces : goal.invariant-pieces
invariant-pieces g l = record {
  read : List ℕ;
  consumed : Consumes (g.S.Source.remaining l.fn.source) (g.S.Source.remaining l.source) read;
  stands : Stands (Lines g.B.Board.answers) l.fn.board (g.D.Delivery.contents l.fn.sink) 0 read
      l.board l.conversation.session.pending (g.D.Delivery.contents l.sink) l.conversation.answered;
  fits : g.Q.Keeper.fits l.keeper l.board;
  covers : g.Q.Keeper.covers l.keeper l.board;
  flushed : g.D.Delivery.waiting l.sink ≡ [];
  calm_source : g.S.Source.failures l.source ≡ g.S.Source.failures l.fn.source;
  calm : g.D.Delivery.failures l.sink ≡ g.D.Delivery.failures l.fn.sink;
}

abbrev pub decreases-pieces : goal.decreases-pieces
decreases-pieces g l = g.S.Source.left l.source
