use Rattle.std.proofs.Common.{◌≡◌, ◌≤◌, ◌-◌, length, take}
use Rattle.std.specs.Io.KnownBytes.{Appends}
use Rattle.ps_device.specs.Device.{HoldsBack}
use Rattle.ps_device.proofs.device.put_all.Given as goal

-- the bytes before the start are written, and nothing failed
abbrev pub invariant-loop-start : goal.invariant-loop-start
invariant-loop-start g l = record {
  within : l.start ≤ length l.bytes;
  sent : Appends (g.K.Sink.contents l.fn.sink) (g.K.Sink.contents l.sink) (take l.start l.bytes);
  calm : g.K.Sink.failures l.sink ≡ g.K.Sink.failures l.fn.sink;
  held : g.K.Sink.holds_back → HoldsBack (g.K.Sink.contents l.fn.sink) (g.K.Sink.contents l.sink)
      (g.K.Sink.waiting l.fn.sink) (g.K.Sink.waiting l.sink);
}

abbrev pub decreases-loop-start : goal.decreases-loop-start
decreases-loop-start g l = length l.bytes - l.start
