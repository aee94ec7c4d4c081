use Rattle.std.proofs.Common.{◌≡◌, true, false, inl, inr, refl, sym, ◌∙◌}
use Rattle.ps_shown.specs.Kept.{value_of as value_kept}
use Rattle.ps_shown.specs.Shown.{shown_at}
use Rattle.ps_region.specs.Listed.{listed}
use Rattle.ps_cells.specs.Inside.Steps.{flag_at}
use Rattle.ps_cells.proofs.PutValues.{shows_put}
use Rattle.ps_cells.proofs.walk.show.Goals as goal

pub returns-then-not-same : goal.returns-then-not-same
returns-then-not-same c = record {
  shows = shows_put c.args.cell (value_kept c.args.kept) (listed c.args.index.now c.args.cell)
      (shown_at c.args.shown.now.kept)
      (shown_at c.put.new.self.kept) (flag_at c.args.flags.now) (flag_at c.flag_dependents.new.flags)
      c.put.ensures.shown
      (inr (
        (λ e. let f : false ≡ true = sym c.if-not-same.true ∙ c.is_same-same.ensures.1 (e ∙ sym c.kept.ensures) in cc),
        c.flag_dependents.ensures.flagged,
      ));
  before = c.put.ensures.before;
}

pub returns-else-not-same : goal.returns-else-not-same
returns-else-not-same c = record {
  shows = shows_put c.args.cell (value_kept c.args.kept) (listed c.args.index.now c.args.cell)
      (shown_at c.args.shown.now.kept)
      (shown_at c.put.new.self.kept) (flag_at c.args.flags.now) (flag_at c.args.flags.now) c.put.ensures.shown
      (inl (c.is_same-same.ensures.0 c.if-not-same.false ∙ c.kept.ensures, (λ q. refl)));
  before = c.put.ensures.before;
}
