use Rattle.std.proofs.Common.{List, sym, subst}
use Rattle.ps_delta.specs.State.{state_at}
use Rattle.ps_shown.specs.declared.kept.Kept.{Kept}
use Rattle.ps_shown.specs.Shown.{shown_at}
use Rattle.ps_cells.specs.Settled.{IsSettled}
use Rattle.ps_cells.specs.Inside.Formulas.{forms_of}
use Rattle.ps_cells.proofs.PendingChanges.{tidy_with}
use Rattle.ps_cells.proofs.tables.Tables.leave.Goals as goal

pub drop_formulas-requires : goal.drop_formulas-requires
drop_formulas-requires c =
    let t = state_at c.args.self.now.grid in
    record {
      stands = (
        forms_of t,
        c.requires.pending.1.stands,
      );
    }

pub returns-clause-whole : goal.returns-clause-whole
returns-clause-whole c =
    let p = c.requires.pending.1 in
    let t = state_at c.args.self.now.grid in
    record {
      in_grid = p.in_grid;
      settled = subst (λ (xs : List Kept). IsSettled t (shown_at xs)) (sym c.keep.ensures.kept) p.settled;
      stands = c.drop_formulas.ensures.taken (forms_of t) p.stands;
      tidy = tidy_with t c.args.self.now c.args.self.now.grid c.drop_formulas.new.index c.keep.new.self p.tidy;
      still = c.keep.ensures.still;
    }
