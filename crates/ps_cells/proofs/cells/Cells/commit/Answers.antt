use Rattle.ps_delta.specs.State.{state_at}
use Rattle.ps_delta.specs.Deltas.{overlaid}
use Rattle.ps_cells.proofs.StagedOrWhole.{staged_is_pending}
use Rattle.ps_cells.proofs.cells.Cells.commit.Goals as goal

pub leave-requires : goal.leave-requires
leave-requires c =
    let x = c.self.inside in
    record {
      pending = (
        overlaid (state_at x.tables.grid) x.lists.states.items,
        staged_is_pending x c.args.self.now c.self.view_is c.requires.staged c.self.invariant,
      );
    }
