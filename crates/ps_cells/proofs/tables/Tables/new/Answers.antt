use Rattle.std.proofs.Common.{sym, ap, subst}
use Rattle.ps_delta.specs.State.{State, IsInGrid, empty_state}
use Rattle.ps_shown.specs.Shown.{shown_at}
use Rattle.ps_eval.specs.Items.{Assignment}
use Rattle.ps_index.specs.Stands.{Puts, Stands}
use Rattle.ps_cells.specs.Settled.{IsSettled}
use Rattle.ps_cells.specs.Inside.Formulas.{forms_of}
use Rattle.ps_cells.specs.Inside.Walk.{HoldsCyclic}
use Rattle.ps_cells.proofs.EmptyCells.{settled_empty, in_grid_empty, forms_empty, cyclic_empty}
use Rattle.ps_cells.proofs.tables.Tables.new.Goals as goal

pub returns-clause-whole : goal.returns-clause-whole
returns-clause-whole c =
    let empty = c.in_ok-new.ensures.empty in
    record {
      in_grid = subst IsInGrid (sym empty) in_grid_empty;
      settled = subst (λ (s : State). IsSettled s (shown_at c.in_ok-new-3.field-0.kept)) (sym empty)
          (settled_empty (shown_at c.in_ok-new-3.field-0.kept)
          (λ q. ap (λ (v : Assignment). v q) c.in_ok-new-3.ensures.empty));
      stands = subst (λ (s : State). Stands c.in_ok-new-2.field-0 (forms_of s)) (sym empty)
          (subst (λ (f : Puts). Stands c.in_ok-new-2.field-0 f) (sym forms_empty) c.in_ok-new-2.ensures.empty);
      tidy = record {
        cyclic = subst (λ (s : State). HoldsCyclic s c.in_ok-cyclic.cyclic) (sym empty)
            (cyclic_empty c.in_ok-cyclic.cyclic c.in_ok-cyclic.ensures.empty);
        length = c.in_ok-flags.ensures.length;
        off = c.in_ok-flags.ensures.off;
        level = c.in_ok-level.ensures.room;
        workers = c.requires.workers;
        region = tt;
      };
      still = c.in_ok-new-3.ensures.still;
    }
