use Rattle.std.proofs.Common.{◌≡◌, ◌-◌, ◌≤◌, ◌∙◌, ◌∷◌, [], ℕ, List, ap, arith, get_or, length, min, subst, sym}
use Rattle.ps_grid.specs.declared.size.TheConstants.{ROWS}
use Rattle.ps_index.proofs.CountsWritten.{count_at, counts_length}
use Rattle.ps_index.specs.Inside.Counts.{all_counts}
use Rattle.ps_index.proofs.counts.RowCounts.new.Goals as goal

pub returns-clause-size : goal.returns-clause-size
returns-clause-size c = counts_length c.push_reserved.new.self.items (length c.push_reserved.new.self.items - 1)

pub returns-clause-none : goal.returns-clause-none
returns-clause-none c =
    let is : c.push_reserved.new.self.items ≡ 0 ∷ [] = rw c.in_ok-ends.ensures.items at c.push_reserved.ensures.items in
    λ (j : ℕ) (small : j ≤ ROWS).
    let least : min j 0 ≡ 0 = omega arith in
    subst (λ (ends : List ℕ). get_or (all_counts ends (length ends - 1)) j 0 ≡ 0) (sym is)
    (count_at (0 ∷ []) 0 j small ∙ ap (λ k. get_or (0 ∷ []) k 0) least)
