use Rattle.std.proofs.Common.{◌≡◌}
use Rattle.std.specs.Io.KnownBytes.{Appends}
use Rattle.ps_value.specs.Shown.{listed, options_below}
use Rattle.ps_value.proofs.ShownLemmas.{is_empty}
use Rattle.ps_value.proofs.shown.put_options.Given as goal

-- the options below this one are written, and nothing failed
abbrev pub invariant-loop-option : goal.invariant-loop-option
invariant-loop-option g l = record {
  sent : Appends (g.K.Sink.contents l.fn.sink) (g.K.Sink.contents l.sink) (listed (options_below l.option l.bits));
  calm : g.K.Sink.failures l.sink ≡ g.K.Sink.failures l.fn.sink;
  first : l.is_first ≡ is_empty (options_below l.option l.bits);
}
