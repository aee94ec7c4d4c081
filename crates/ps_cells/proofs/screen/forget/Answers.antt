use Rattle.std.proofs.Common.{◌≡◌, ◌<◌, ◌++◌, ◌∷◌, [], ℕ, List, true, false, length, set, ◌∙◌, subst, arith}
use Rattle.std.proofs.lemmas.List.{length-set}
use Rattle.ps_grid.specs.Chains.{In}
use Rattle.ps_grid.specs.declared.size.TheConstants.{CELLS}
use Rattle.ps_shown.specs.declared.kept.Kept.{Kept}
use Rattle.ps_cells.specs.Inside.Steps.{flag_at}
use Rattle.ps_cells.specs.Inside.Screens.{cells_in}
use Rattle.ps_cells.proofs.ScreenLemmas.{noted_less}
use Rattle.ps_cells.proofs.screen.forget.Goals as goal

pub olds-preserved : goal.olds-preserved
olds-preserved c =
    let e : ℕ × Kept = c.in-Some.last in
    let rest = c.pop.new.self.items in
    let is : c.olds.olds.items ≡ rest ++ e ∷ [] = c.in-Some.ensures.items in
    let whole : length c.olds.is_put ≡ CELLS = c.olds.invariant.whole in
    let within : e.0 < length c.olds.is_put =
    (let small = c.index.ensures.in_grid in let same = c.index.ensures.index in omega (arith, whole, small, same)) in
    record {
      noted = λ q on. noted_less rest e c.olds.is_put within
          (subst (λ (xs : List (ℕ × Kept)). (p : ℕ) → flag_at c.olds.is_put p ≡ true → In (cells_in xs) p) is
          c.olds.invariant.noted)
          q (subst (λ (k : ℕ). flag_at (set c.olds.is_put k false) q ≡ true) c.index.ensures.index on);
      whole = length-set c.olds.is_put c.index.result false ∙ whole;
      room = (let a = c.olds.invariant.room in let b = c.pop.ensures.capacity in omega (arith, a, b));
    }
