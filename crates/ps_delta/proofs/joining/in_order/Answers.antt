use Rattle.std.proofs.Common.{ℕ, Bor, ◌∙◌, rules}
use Rattle.std.proofs.lemmas.List.Sorted.{All-permutation, IsPermutation-map, IsNonDecreasingBy-from_sort_by_key}
use Rattle.ps_delta.specs.declared.cell_state.CellState.{CellState}
use Rattle.ps_delta.specs.Inside.Joining.{IsEntry}
use Rattle.ps_delta.proofs.JoiningLemmas.{joined_entries-permutation, order_mapped}
use Rattle.ps_delta.proofs.joining.in_order.Goals as goal

pub returns-clause-joined : goal.returns-clause-joined
returns-clause-joined c =
    joined_entries-permutation _ _
    (IsPermutation-map (λ (e : Bor (ℕ × CellState)). e.now) _ _ c.in_ok-sort_by_key.ensures.permutation)
    ∙ c.in_ok-entries.ensures.joined

pub returns-clause-entries : goal.returns-clause-entries
returns-clause-entries c =
    All-permutation IsEntry _ _
    (IsPermutation-map (λ (e : Bor (ℕ × CellState)). e.now) _ _ c.in_ok-sort_by_key.ensures.permutation)
    c.in_ok-entries.ensures.entries

pub returns-clause-order : goal.returns-clause-order
returns-clause-order c =
    order_mapped (λ (e : Bor (ℕ × CellState)). e.now) (λ e. e.0) _
    (IsNonDecreasingBy-from_sort_by_key (λ (e : Bor (ℕ × CellState)). e.now.0) _ c.in_ok-sort_by_key.ensures.sorted
    (λ a r q k. search rules))
