use Rattle.std.proofs.Common.{ℕ, ◌-◌, ◌<◌, ◌≤◌, List}
use Rattle.ps_index.specs.Spans.{cell_of}
use Rattle.ps_index.specs.declared.span.Span.{Span}
use Rattle.ps_index.proofs.row.first_from.Given as goal

pub record Passed (spans : List Span) (least start stop place : ℕ) : Type 0 where
  pub from : start ≤ place
  pub to : place ≤ stop
  pub none_left : (i : ℕ) (d : Span) → start ≤ i → i < place → cell_of spans i d < least

abbrev pub invariant-loop-place : goal.invariant-loop-place
invariant-loop-place l = Passed l.spans l.least l.from l.to l.place

abbrev pub decreases-loop-place : goal.decreases-loop-place
decreases-loop-place l = l.to - l.place
