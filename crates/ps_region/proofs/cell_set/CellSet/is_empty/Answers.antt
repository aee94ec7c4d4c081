use Rattle.std.proofs.Common.{◌≡◌, ℕ, Bool, List, true, false, eqb-true, subst}
use Rattle.ps_region.specs.CellSets.{has_cell}
use Rattle.ps_region.proofs.TallyLemmas.{above, none_in, some_in}
use Rattle.ps_region.proofs.cell_set.CellSet.is_empty.Goals as goal

pub returns-clause-none : goal.returns-clause-none
returns-clause-none c = λ zero.
    subst (λ (xs : List Bool). (d : ℕ) → has_cell xs d ≡ false) c.self.view_is (none_in c.self.inside.cells.items c.self.inside.blocks.items c.self.inside.all c.self.invariant
    (eqb-true c.self.inside.all 0 zero))

pub returns-clause-some : goal.returns-clause-some
returns-clause-some c = λ more.
    subst (λ (xs : List Bool). (d : ℕ) × (has_cell xs d ≡ true)) c.self.view_is (some_in c.self.inside.cells.items c.self.inside.blocks.items c.self.inside.all c.self.invariant
    (above c.self.inside.all more))
