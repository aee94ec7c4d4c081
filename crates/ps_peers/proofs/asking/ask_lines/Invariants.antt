use Rattle.std.proofs.Common.{◌≡◌, [], Some}
use Rattle.ps_peers.specs.Asking.{IsAsking}
use Rattle.ps_lines.specs.Incomings.{due, lines_left}
use Rattle.ps_peers.proofs.asking.ask_lines.Given as goal

abbrev pub invariant-lines : goal.invariant-lines
invariant-lines g l = record {
  asking : IsAsking l.fn.peer l.peer (g.O.Sink.contents l.fn.out) (g.O.Sink.contents l.out)
      (g.I.Source.remaining l.fn.input) (due g.I.Source.remaining l.lines);
  ready : l.lines.lines.pending ≡ Some [];
  given : g.I.Source.failures l.lines.source ≡ g.I.Source.failures l.fn.input;
  first : l.peer.failures ≡ l.fn.peer.failures;
  second : g.O.Sink.failures l.out ≡ g.O.Sink.failures l.fn.out;
  flushed : g.O.Sink.waiting l.fn.out ≡ [] → g.O.Sink.waiting l.out ≡ [];
}

abbrev pub decreases-lines : goal.decreases-lines
decreases-lines g l = lines_left g.I.Source.left l.lines
