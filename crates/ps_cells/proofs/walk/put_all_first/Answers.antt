use Rattle.std.proofs.Common.{◌≡◌, ◌++◌, ◌∷◌, [], ℕ, List, sym, ap, ◌∙◌, arith}
use Rattle.ps_shown.specs.declared.kept.Kept.{Kept}
use Rattle.ps_shown.specs.Shown.{shown_at}
use Rattle.ps_cells.specs.Inside.Screens.{put_back}
use Rattle.ps_cells.proofs.ScreenLemmas.{back_last, back_none}
use Rattle.ps_cells.proofs.walk.put_all_first.Goals as goal

pub first-preserved : goal.first-preserved
first-preserved c =
    let e : ℕ × Kept = c.in-Some.last in
    let rest = c.pop.new.self.items in
    let is : c.first.first.items ≡ rest ++ e ∷ [] = c.in-Some.ensures.items in
    record {
      put = ap (put_back rest) c.put.ensures.shown
          ∙ (sym (back_last rest e (shown_at c.first.shown.kept))
          ∙ (ap (λ (xs : List (ℕ × Kept)). put_back xs (shown_at c.first.shown.kept)) (sym is)
          ∙ c.first.invariant.put));
      before = c.put.ensures.before ∙ c.first.invariant.before;
    }

pub returns-clause-put : goal.returns-clause-put
returns-clause-put c =
    sym (back_none c.first.first.items (shown_at c.first.shown.kept)
    (let a = c.in_default.ensures.cases.0 in let b = c.first.first.ok in omega (arith, a, b)))
    ∙ c.first.invariant.put
