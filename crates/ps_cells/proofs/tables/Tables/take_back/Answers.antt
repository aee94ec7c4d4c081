use Rattle.std.proofs.Common.{◌≡◌, sym, ◌∙◌, subst}
use Rattle.ps_delta.specs.State.{State, IsInGrid, state_at}
use Rattle.ps_shown.specs.Shown.{shown_at}
use Rattle.ps_index.specs.Stands.{Stands}
use Rattle.ps_eval.specs.Items.{Assignment}
use Rattle.ps_cells.specs.Settled.{IsSettled}
use Rattle.ps_cells.specs.Inside.Formulas.{forms_of}
use Rattle.ps_cells.specs.Inside.Screens.{before_of}
use Rattle.ps_cells.specs.Inside.Walk.{HoldsCyclic}
use Rattle.ps_cells.proofs.CyclicSets.{held_shown, show_held}
use Rattle.ps_cells.proofs.PendingChanges.{new_formulas_of}
use Rattle.ps_cells.proofs.tables.Tables.take_back.Goals as goal

pub take_formulas-requires : goal.take_formulas-requires
take_formulas-requires c = record {
  stands = (
    forms_of c.requires.pending.0,
    new_formulas_of c.requires.pending.0 (state_at c.args.self.now.grid) c.args.self.now.index c.args.olds.now
        c.exchange.new.cells c.exchange.ensures.taken c.requires.pending.1.stood,
  );
}

pub restore_cyclic-requires : goal.restore_cyclic-requires
restore_cyclic-requires c =
    let p = c.requires.pending.1 in
    record {
      now = show_held (state_at c.args.self.now.grid) (shown_at c.args.self.now.shown.kept)
          c.args.self.now.cyclic p.settled p.tidy.cyclic;
    }

pub returns-clause-whole : goal.returns-clause-whole
returns-clause-whole c =
    let s = c.requires.pending.0 in
    let p = c.requires.pending.1 in
    let now : state_at c.exchange.new.self ≡ s =
    c.exchange.ensures.given ∙ p.gives in
    record {
      in_grid = subst IsInGrid (sym now) p.was_in_grid;
      settled = subst (λ (v : Assignment). IsSettled (state_at c.exchange.new.self) v) (sym c.take_back.ensures.shown)
          (subst (λ (q : State). IsSettled q (before_of c.args.self.now.shown)) (sym now) p.was_settled);
      stands = subst (λ (q : State). Stands c.take_formulas.new.index (forms_of q)) (sym now)
          (c.take_formulas.ensures.taken (forms_of s) (new_formulas_of s
          (state_at c.args.self.now.grid) c.args.self.now.index c.args.olds.now c.exchange.new.cells
          c.exchange.ensures.taken p.stood));
      tidy = record {
        cyclic = subst (λ (q : State). HoldsCyclic q c.restore_cyclic.new.cyclic) (sym now)
            (held_shown s (before_of c.args.self.now.shown) c.restore_cyclic.new.cyclic p.was_settled
            c.restore_cyclic.ensures.before);
        length = p.tidy.length;
        off = p.tidy.off;
        level = p.tidy.level;
        workers = p.tidy.workers;
        region = tt;
      };
      still = c.take_back.ensures.still;
    }
