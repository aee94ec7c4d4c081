use Rattle.std.proofs.Common.{◌≤◌, ◌-◌, ◌*◌}
use Rattle.ps_eval.specs.Summarized.{Summarizes}
use Rattle.ps_shown.specs.Blocks.{items_between}
use Rattle.ps_shown.specs.declared.blocks.TheConstants.{BLOCK}
use Rattle.ps_shown.proofs.blocks.summary_between.Given as goal

-- the summary has the items up to this block
abbrev pub invariant-whole : goal.invariant-whole
invariant-whole l = record {
  order : l.first ≤ l.block;
  within : l.block ≤ l.end;
  taken : Summarizes (items_between l.kept l.from (l.block * BLOCK)) l.summary;
}

abbrev pub decreases-whole : goal.decreases-whole
decreases-whole l = l.end - l.block
