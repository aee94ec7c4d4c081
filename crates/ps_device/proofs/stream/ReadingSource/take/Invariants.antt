use Rattle.std.proofs.Common.{◌≡◌, ◌≤◌}
use Rattle.std.specs.Io.KnownBytes.{Keeps}
use Rattle.ps_device.proofs.stream.ReadingSource.take.Given as goal

-- the interrupted reads gave nothing and are no failures
abbrev pub invariant-loop-self : goal.invariant-loop-self
invariant-loop-self g l = record {
  kept : Keeps (g.R.Read.remaining l.fn.self.reader) (g.R.Read.remaining l.self.reader);
  calm : l.self.failed ≡ l.fn.self.failed;
  falls : l.self.tries ≤ l.fn.self.tries;
}

abbrev pub decreases-loop-self : goal.decreases-loop-self
decreases-loop-self g l = l.self.tries
