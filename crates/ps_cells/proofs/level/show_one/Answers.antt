use Rattle.std.proofs.Common.{◌∙◌, [], ◌∷◌, true, false, inl, inr, refl, sym, ap, subst}
use Rattle.ps_eval.specs.Items.{Assignment}
use Rattle.ps_region.specs.Listed.{listed}
use Rattle.ps_shown.specs.Kept.{value_of as value_kept}
use Rattle.ps_shown.specs.Shown.{shown_at}
use Rattle.ps_cells.specs.Inside.Steps.{flag_at, ShowsAll}
use Rattle.ps_cells.proofs.LevelSteps.{shows_one}
use Rattle.ps_cells.proofs.PutValues.{with_value-here, with_value-there}
use Rattle.ps_cells.proofs.level.show_one.Goals as goal

pub returns-then-is_last-clause-shows : goal.returns-then-is_last-clause-shows
returns-then-is_last-clause-shows c =
    let x = c.args.cell in
    let y = value_kept c.args.kept in
    let list = listed c.args.index.now in
    let flags = flag_at c.args.flags.now in
    let u = shown_at c.args.shown.now.kept in
    let u2 = shown_at c.put.new.self.kept in
    let put = c.put.ensures.shown in
    subst (λ last. ShowsAll last list (x ∷ []) (y ∷ []) u u2 flags flags) (sym c.if-is_last.true)
    (shows_one true list x y u u2 flags flags
    (inr (
      refl,
      ap (λ (w : Assignment). w x) put ∙ with_value-here u x y,
      (λ q ne. ap (λ (w : Assignment). w q) put ∙ with_value-there u x q y ne),
      refl,
    )))

pub returns-else-is_last-clause-shows : goal.returns-else-is_last-clause-shows
returns-else-is_last-clause-shows c =
    let x = c.args.cell in
    let y = value_kept c.args.kept in
    let list = listed c.args.index.now in
    let flags = flag_at c.args.flags.now in
    let flags2 = flag_at c.show.new.flags in
    let u = shown_at c.args.shown.now.kept in
    let u2 = shown_at c.show.new.shown.kept in
    subst (λ last. ShowsAll last list (x ∷ []) (y ∷ []) u u2 flags flags2) (sym c.if-is_last.false)
    (shows_one false list x y u u2 flags flags2 (inl c.show.ensures.shows))
