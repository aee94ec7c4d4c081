use Rattle.std.proofs.Common.{◌≡◌, ℕ, List, length}
use Rattle.ps_peers.specs.Asking.{WritesLines}
use Rattle.ps_peers.proofs.asking.put_rest.Given as goal

abbrev pub invariant-loop : goal.invariant-loop
invariant-loop g l = record {
  lines : List (List ℕ);
  many : length lines ≡ l.counter;
  writes : WritesLines lines l.fn.peer.to_come l.peer.to_come (g.O.Sink.contents l.fn.out) (g.O.Sink.contents l.out);
  unasked : l.peer.asked ≡ l.fn.peer.asked;
  first : l.peer.failures ≡ l.fn.peer.failures;
  second : g.O.Sink.failures l.out ≡ g.O.Sink.failures l.fn.out;
}
