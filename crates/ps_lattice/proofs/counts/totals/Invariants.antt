use Rattle.std.proofs.Common.{◌≡◌, take, sum_by}
use Rattle.ps_lattice.proofs.counts.totals.Given as goal

-- the sums so far
abbrev pub invariant-loop-count : goal.invariant-loop-count
invariant-loop-count l = record {
  added : l.added ≡ sum_by (λ e. e.1.added) (take l.count-index l.counts);
  subtracted : l.subtracted ≡ sum_by (λ e. e.1.subtracted) (take l.count-index l.counts);
}
