use Rattle.std.proofs.Common.{◌≡◌, false, map}
use Rattle.std.specs.List.{list_any}
use Rattle.ps_delta.specs.State.{state_at}
use Rattle.ps_sheet.specs.Edits.{assigned, is_clock_full}
use Rattle.ps_sheet.proofs.edit_delta.all_assigned.Given as goal

-- the cells so far have their assignments, and none has the last time
abbrev pub invariant-loop-cell : goal.invariant-loop-cell
invariant-loop-cell l = record {
  entries : l.entries.items ≡ map (λ e. (e.0, assigned l.replica (state_at l.grid e.0) e.1)) l.yielded;
  none_full : list_any (λ e. is_clock_full (state_at l.grid e.0)) l.yielded ≡ false;
}
