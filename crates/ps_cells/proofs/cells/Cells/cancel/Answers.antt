use Rattle.std.proofs.Common.{sym, subst}
use Rattle.ps_delta.specs.State.{state_at}
use Rattle.ps_delta.specs.Deltas.{Entries, overlaid}
use Rattle.ps_cells.specs.Inside.Pending.{IsPending}
use Rattle.ps_cells.proofs.StagedOrWhole.{staged_is_pending}
use Rattle.ps_cells.proofs.cells.Cells.cancel.Goals as goal

pub take_back-requires : goal.take_back-requires
take_back-requires c =
    let x = c.self.inside in
    let s = overlaid (state_at x.tables.grid) x.lists.states.items in
    record {
      pending = (
        s,
        subst (λ (es : Entries). IsPending s x.tables es) (sym c.deref_mut.ensures.value)
            (staged_is_pending x c.args.self.now c.self.view_is c.requires.staged c.self.invariant),
      );
    }
