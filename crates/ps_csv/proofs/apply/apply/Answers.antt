use Rattle.std.proofs.Common.{ap, refl}
use Rattle.ps_csv.specs.Inside.{cells_of_each}
use Rattle.ps_csv.proofs.ApplyLemmas.{assigned_all_none, assigned_so_few}
use Rattle.ps_csv.proofs.apply.apply.Goals as goal

pub returns-then-has_none-clause-assigned : goal.returns-then-has_none-clause-assigned
returns-then-has_none-clause-assigned g c =
    assigned_all_none _ _ c.args.batches.items (c.has_none.ensures.0 c.if-has_none.true)

pub returns-in-Err-clause-stopped : goal.returns-in-Err-clause-stopped
returns-in-Err-clause-stopped g c =
    assigned_so_few _ _ _ (cells_of_each c.args.batches.items) _ (ap (λ f. f.applied) c.into.ensures) refl

pub returns-in-Err-settle-clause-stopped : goal.returns-in-Err-settle-clause-stopped
returns-in-Err-settle-clause-stopped g c =
    assigned_so_few _ _ _ (cells_of_each c.args.batches.items) _ (ap (λ f. f.applied) c.into-in-Err-settle.ensures)
    (ap (λ s. s.history) c.in-Err-settle.ensures.kept.0)
