-- Tables that hold nothing.
use Rattle.std.proofs.Common.{◌≡◌, ℕ, Bool, List, true, false, []}
use Rattle.std.proofs.Common.{refl, sym, ap, ◌∙◌}
use Rattle.ps_value.specs.declared.value.Value.TheVariants.{Empty}
use Rattle.ps_delta.specs.State.{IsInGrid, empty_cell, empty_state}
use Rattle.ps_eval.specs.Items.{Assignment}
use Rattle.ps_cells.specs.Settled.{refers_to, Cyclic, IsSettled}
use Rattle.ps_cells.specs.Inside.Waiting.{is_waiting}
use Rattle.ps_cells.specs.Inside.Formulas.{forms_of}
use Rattle.ps_cells.specs.Inside.Walk.{HoldsCyclic}
use Rattle.ps_region.specs.CellSets.{has_cell}
use Rattle.ps_grid.proofs.CycleLemmas.{IsCyclic-next}
use Rattle.ps_cells.proofs.SettledValues.{true_not_false, progress_start}
use Rattle.ps_cells.proofs.SettledValues.{settled_at_end}

-- where nothing is held, to show nothing is settled
pub settled_empty : (v : Assignment) → ((c : ℕ) → v c ≡ Empty) → IsSettled empty_state v
unfolding empty_state empty_cell
settled_empty v blank =
    settled_at_end empty_state v (λ c out. refl) (progress_start empty_state v blank)
    (λ c waits. absurd (true_not_false (is_waiting (v c)) waits (ap is_waiting (blank c))))

-- and holds nothing outside the grid
pub in_grid_empty : IsInGrid empty_state
unfolding empty_state
in_grid_empty c out = refl

-- no cell of the empty state refers to any
no_reference : (a b : ℕ) → refers_to empty_state a b ≡ true → ⊥
unfolding empty_state empty_cell
no_reference a b r = true_not_false false r refl

-- so none is cyclic
pub acyclic_empty : (c : ℕ) → ¬ Cyclic empty_state c
acyclic_empty c cyc = let n = IsCyclic-next (refers_to empty_state) c cyc in no_reference c n.0 n.1

-- the empty state has no formula
pub forms_empty : forms_of empty_state ≡ λ c. []
unfolding empty_state empty_cell
forms_empty = refl

-- and no cyclic cell
pub cyclic_empty : (set : List Bool) → ((c : ℕ) → has_cell set c ≡ false) → HoldsCyclic empty_state set
cyclic_empty set none = record {
  sound = λ c i. absurd (let f : false ≡ true = sym (none c) ∙ i in cc);
  complete = λ c cyc. absurd (acyclic_empty c cyc);
}
