use Rattle.std.proofs.Common.{rules, false, ◌≡◌, ◌∙◌, get_or, inl, refl, sym, ap, subst, arith}
use Rattle.std.proofs.lemmas.List.{get_or-set_other}
use Rattle.ps_region.specs.Listed.{listed}
use Rattle.ps_shown.specs.Kept.{value_of as value_kept}
use Rattle.ps_shown.specs.Shown.{shown_at}
use Rattle.ps_workers.specs.Level.{kept_values}
use Rattle.ps_cells.specs.Inside.Steps.{flag_at}
use Rattle.ps_cells.specs.Inside.Walk.{Shows}
use Rattle.ps_cells.proofs.LevelSteps.{shows_none, shows_more, shows_end, kept_at}
use Rattle.ps_cells.proofs.level.show_all.Goals as goal

pub loop-i-init : goal.loop-i-init
loop-i-init c = record {
  shows = shows_none false (listed c.args.index.now) c.args.cells.now (kept_values c.args.values.now)
      (shown_at c.args.shown.now.kept) (flag_at c.args.flags.now);
  others = λ j d le. refl;
  before = refl;
  places = refl;
}

pub loop-i-preserved : goal.loop-i-preserved
loop-i-preserved c =
    let i = c.loop-i.i in
    let x = c.index-cells-i.result in
    let place = c.index-values-i.result in
    let kept = c.replace-kept.result in
    let values = c.args.values.now in
    let value : value_kept kept ≡ get_or (kept_values values) i (value_kept place) =
    ap value_kept (c.replace-kept.ensures.value ∙ c.loop-i.invariant.others i place (omega arith))
    ∙ sym (kept_at values i place) in
    record {
      shows = shows_more false (listed c.args.index.now) c.args.cells.now (kept_values values) i x (value_kept kept)
          (value_kept place) (shown_at c.args.shown.now.kept) (shown_at c.loop-i.shown.kept)
          (shown_at c.show.new.shown.kept)
          (flag_at c.args.flags.now) (flag_at c.loop-i.flags) (flag_at c.show.new.flags) c.loop-i.invariant.shows
          (let lt = c.loop-i-test.true in let high = c.loop-i.auto.i-end in omega (arith, lt, high)) value
          (inl (subst (λ q. Shows q (value_kept kept) (listed c.args.index.now q) (shown_at c.loop-i.shown.kept)
          (shown_at c.show.new.shown.kept) (flag_at c.loop-i.flags) (flag_at c.show.new.flags)) c.index-cells-i.is
          c.show.ensures.shows));
      others = λ j d le. get_or-set_other c.loop-i.values i j c.replace-kept.new.dest d
          (λ same. omega (arith, le, same)) ∙ c.loop-i.invariant.others j d (omega (arith, le));
      before = c.show.ensures.before ∙ c.loop-i.invariant.before;
      places = search rules;
    }

pub returns : goal.returns
returns c = record {
  shows = shows_end false (listed c.args.index.now) c.args.cells.now (kept_values c.args.values.now) c.loop-i.i
      (shown_at c.args.shown.now.kept) (shown_at c.loop-i.shown.kept) (flag_at c.args.flags.now)
      (flag_at c.loop-i.flags)
      c.loop-i.invariant.shows (let end = c.loop-i-test.false in let high = c.loop-i.auto.i-end in omega
      (arith, end, high));
  before = c.loop-i.invariant.before;
}
