-- What the cells showed before a change, and which show another value after it.
use Rattle.std.specs.Prelude.{◌≡◌, ℕ, ◌↔◌, List, [], ◌∷◌, map}
use Rattle.std.specs.List.{All}
use Rattle.std.specs.List.Sorted.{IsStrictlyIncreasing}
use Rattle.ps_grid.specs.Chains.{In}
use Rattle.ps_value.specs.declared.value.Value.{Value}
use Rattle.ps_eval.specs.Items.{Assignment}
use Rattle.ps_shown.specs.declared.kept.Kept.{Kept}
use Rattle.ps_shown.specs.Kept.{value_of as value_kept}
use Rattle.ps_shown.specs.Shown.{with_value}

-- the assignment with old values put back; if a cell has two in the list, the first one counts
unfoldable pub put_back : List (ℕ × Kept) → Assignment → Assignment
put_back [] v = v
put_back (e ∷ olds) v = with_value (put_back olds v) e.0 (value_kept e.1)

-- CHANGED: where the cells showed v and show w, exactly the cells that show another value, ascending
pub record IsChanged (v w : Assignment) (cells : List ℕ) : Type 0 where
  pub ascending : IsStrictlyIncreasing cells
  pub exact : (c : ℕ) → In cells c ↔ ¬ (w c ≡ v c)

-- CHANGES: where the cells showed v and show w, exactly the cells that show another value, ascending, with the new one
pub record IsChanges (v w : Assignment) (changes : List (ℕ × Value)) : Type 0 where
  pub ascending : IsStrictlyIncreasing (map (λ e. e.0) changes)
  pub exact : (c : ℕ) → In (map (λ e. e.0) changes) c ↔ ¬ (w c ≡ v c)
  pub values : All (λ e. e.1 ≡ w e.0) changes
