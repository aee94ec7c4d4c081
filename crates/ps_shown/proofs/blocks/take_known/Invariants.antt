use Rattle.std.proofs.Common.{◌≤◌, ◌-◌, ◌*◌}
use Rattle.ps_eval.specs.Summarized.{Summarizes}
use Rattle.ps_shown.specs.Blocks.{items_between}
use Rattle.ps_shown.specs.declared.blocks.TheConstants.{BLOCK}
use Rattle.ps_shown.proofs.blocks.take_known.Given as goal

-- the summary has the items up to this block
abbrev pub invariant-known : goal.invariant-known
invariant-known l = record {
  order : l.first ≤ l.next;
  within : l.next ≤ l.end;
  taken : Summarizes (items_between l.kept l.from (l.next * BLOCK)) l.summary;
}

abbrev pub decreases-known : goal.decreases-known
decreases-known l = l.reached - l.next
