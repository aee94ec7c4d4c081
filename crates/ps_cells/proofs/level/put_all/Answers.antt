use Rattle.std.proofs.Common.{rules, ◌≡◌, ◌∙◌, get_or, inr, refl, sym, ap, subst, arith}
use Rattle.std.proofs.Common.{true}
use Rattle.std.proofs.lemmas.List.{get_or-set_other}
use Rattle.ps_eval.specs.Items.{Assignment}
use Rattle.ps_shown.specs.Kept.{value_of as value_kept}
use Rattle.ps_shown.specs.Shown.{shown_at}
use Rattle.ps_workers.specs.Level.{kept_values}
use Rattle.ps_cells.proofs.LevelSteps.{shows_none, shows_more, shows_end, kept_at}
use Rattle.ps_cells.proofs.PutValues.{with_value-here, with_value-there}
use Rattle.ps_cells.proofs.level.put_all.Goals as goal

pub loop-i-init : goal.loop-i-init
loop-i-init c = record {
  shows = λ lists flags. shows_none true lists c.args.cells.now (kept_values c.args.values.now)
      (shown_at c.args.shown.now.kept) flags;
  others = λ j d le. refl;
  before = refl;
  places = refl;
}

pub loop-i-preserved : goal.loop-i-preserved
loop-i-preserved c =
    let i = c.loop-i.i in
    let x = c.index-cells-i.result in
    let place = c.index-values-i.result in
    let kept = c.replace-kept.result in
    let values = c.args.values.now in
    let u = shown_at c.loop-i.shown.kept in
    let put = c.put.ensures.shown in
    let value : value_kept kept ≡ get_or (kept_values values) i (value_kept place) =
    ap value_kept (c.replace-kept.ensures.value ∙ c.loop-i.invariant.others i place (omega arith))
    ∙ sym (kept_at values i place) in
    let at : x ≡ get_or c.args.cells.now i x = c.index-cells-i.is in
    record {
      shows = λ lists flags. shows_more true lists c.args.cells.now (kept_values values) i x (value_kept kept)
          (value_kept place) (shown_at c.args.shown.now.kept) u (shown_at c.put.new.self.kept)
          flags flags flags (c.loop-i.invariant.shows lists flags)
          (let lt = c.loop-i-test.true in let high = c.loop-i.auto.i-end in omega (arith, lt, high)) value
          (inr (
            refl,
            subst (λ q. shown_at c.put.new.self.kept q ≡ value_kept kept) at
                (ap (λ (w : Assignment). w x) put ∙ with_value-here u x (value_kept kept)),
            (λ q ne. ap (λ (w : Assignment). w q) put
                ∙ with_value-there u x q (value_kept kept) (λ same. ne (same ∙ at))),
            refl,
          ));
      others = λ j d le. get_or-set_other c.loop-i.values i j c.replace-kept.new.dest d
          (λ same. omega (arith, le, same)) ∙ c.loop-i.invariant.others j d (omega (arith, le));
      before = c.put.ensures.before ∙ c.loop-i.invariant.before;
      places = search rules;
    }

pub returns : goal.returns
returns c = record {
  shows = λ lists flags. shows_end true lists c.args.cells.now (kept_values c.args.values.now) c.loop-i.i
      (shown_at c.args.shown.now.kept) (shown_at c.loop-i.shown.kept) flags flags
      (c.loop-i.invariant.shows lists flags) (let end = c.loop-i-test.false in let high = c.loop-i.auto.i-end in omega
      (arith, end, high));
  before = c.loop-i.invariant.before;
}
