use Rattle.std.proofs.Common.{◌≡◌, ◌<◌, ◌++◌, ◌∷◌, [], ℕ, List, true, length, sym, ap, ◌∙◌, subst, arith}
use Rattle.std.proofs.Common.{false}
use Rattle.std.proofs.lemmas.List.{length-set}
use Rattle.ps_grid.specs.Chains.{In}
use Rattle.ps_grid.specs.declared.size.TheConstants.{CELLS}
use Rattle.ps_shown.specs.declared.kept.Kept.{Kept}
use Rattle.ps_shown.specs.Shown.{shown_at}
use Rattle.ps_cells.specs.Inside.Steps.{flag_at}
use Rattle.ps_cells.specs.Inside.Screens.{cells_in, put_back}
use Rattle.ps_cells.proofs.ScreenLemmas.{back_last, back_none, noted_less}
use Rattle.ps_cells.proofs.screen.put_olds.Goals as goal

pub olds-preserved : goal.olds-preserved
olds-preserved c =
    let e : ℕ × Kept = c.in-Some.last in
    let rest = c.pop.new.self.items in
    let is : c.olds.olds.items ≡ rest ++ e ∷ [] = c.in-Some.ensures.items in
    let whole : length c.olds.is_put ≡ CELLS = c.olds.invariant.whole in
    let within : e.0 < length c.olds.is_put =
    (let a = c.put_one.ensures.inside in omega (arith, whole, a)) in
    record {
      back = ap (put_back rest) c.put_one.ensures.back
          ∙ (sym (back_last rest e (shown_at c.olds.shown))
          ∙ (ap (λ (xs : List (ℕ × Kept)). put_back xs (shown_at c.olds.shown)) (sym is) ∙ c.olds.invariant.back));
      noted = subst
          (λ xs. (q : ℕ) → flag_at xs q ≡ true → In (cells_in rest) q)
          (sym c.put_one.ensures.flag)
          (noted_less rest e c.olds.is_put within
          (subst (λ (xs : List (ℕ × Kept)). (q : ℕ) → flag_at c.olds.is_put q ≡ true → In (cells_in xs) q) is
          c.olds.invariant.noted));
      whole = ap length c.put_one.ensures.flag ∙ (length-set c.olds.is_put e.0 false ∙ whole);
      room = (let a = c.olds.invariant.room in let b = c.pop.ensures.capacity in omega (arith, a, b));
    }

pub returns-clause-back : goal.returns-clause-back
returns-clause-back c =
    sym (back_none c.olds.olds.items (shown_at c.olds.shown)
    (let a = c.in_default.ensures.cases.0 in let b = c.olds.olds.ok in omega (arith, a, b)))
    ∙ c.olds.invariant.back
