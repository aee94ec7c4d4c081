use Rattle.std.proofs.Common.{◌≡◌, flat_map, take}
use Rattle.std.specs.Io.KnownBytes.{Appends}
use Rattle.ps_lines.proofs.reply.send_pieces.Given as goal

abbrev pub invariant-pieces : goal.invariant-pieces
invariant-pieces g l =
    Appends (g.K.Sink.contents l.fn.sink) (g.K.Sink.contents l.sink) (flat_map (λ piece. piece.now) (take
    l.piece-index l.fn.pieces))
    × (g.K.Sink.failures l.sink ≡ g.K.Sink.failures l.fn.sink)
