use Rattle.std.proofs.Common.{◌≡◌, ◌∙◌, ◌-◌, List, ap, drop, length, subst, take}
use Rattle.std.specs.Prelude.{IfOk}
use Rattle.ps_delta.specs.Deltas.{Entries}
use Rattle.ps_lines.proofs.PulledDeltas.{pulled_part}
use Rattle.ps_lines.proofs.history.deltas_after.Goals as goal

pub returns-clause-deltas : goal.returns-clause-deltas
returns-clause-deltas c =
    let xs = c.args.history.now in
    subst (λ (z : List Entries). IfOk c.copy_deltas.result (λ ds. ds.items ≡ z))
    (ap (λ n. take n (take (length xs - c.args.from) (drop c.args.from xs))) c.min.ensures
    ∙ pulled_part xs c.args.from c.args.most)
    c.copy_deltas.ensures.copied
