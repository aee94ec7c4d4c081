-- The walk of the frame level after level.
use Rattle.std.proofs.Common.{◌≡◌, ℕ, Bool, ◌+◌, ◌<◌, true, false, inl, inr, List, []}
use Rattle.std.proofs.Common.{arith, ⊎_elim, subst}
use Rattle.std.proofs.lemmas.Bool.{cases_eq}
use Rattle.ps_grid.specs.Chains.{In}
use Rattle.ps_eval.specs.Items.{Assignment}
use Rattle.ps_delta.specs.State.{State}
use Rattle.ps_cells.specs.Inside.Walk.{InFrame, IsStateChange, Walked, AreLevels, IsPassed}
use Rattle.ps_cells.proofs.Walks.{weaker}

module _ (s t : State) (v : Assignment) (touched : List ℕ) (change : IsStateChange s t v touched)
    (level : ℕ → List ℕ) (top : ℕ) (levels : AreLevels t touched level top) where
  -- BEGIN: nothing is done before the first level
  pub levels_start : (u : Assignment) (flags : ℕ → Bool) (m : ℕ) → Walked t v touched (λ c. ⊥) u flags m
      → Walked t v touched (IsPassed level 1 []) u flags m
  levels_start u flags m w = weaker t v touched (λ c. ⊥) (IsPassed level 1 []) u flags m w
      (λ c none. absurd none)
      (λ c p. ⊎_elim
      (λ k. let low = k.1 in let high = k.2 in absurd (omega (arith, low, high)))
      (λ i. absurd (let f : false ≡ true = i in cc))
      p)

  -- from the end of a level to the next one
  pub levels_next : (n : ℕ) (u : Assignment) (flags : ℕ → Bool) (m : ℕ) → 0 < n
      → Walked t v touched (IsPassed level n (level n)) u flags m
      → Walked t v touched (IsPassed level (n + 1) []) u flags m
  levels_next n u flags m some w =
      weaker t v touched (IsPassed level n (level n)) (IsPassed level (n + 1) []) u flags m w
      (λ c p. ⊎_elim
      (λ k. let high = k.2 in inl (k.0, k.1, omega (arith, high), k.3))
      (λ i. inl (n, some, omega arith, i))
      p)
      (λ c p. ⊎_elim
      (λ k. ⊎_elim
      (λ e. inr (subst (λ q. In (level q) c) e k.3))
      (λ ne. let high = k.2 in inl (k.0, k.1, omega (arith, high, ne), k.3))
      (cases_eq k.0 n))
      (λ i. absurd (let f : false ≡ true = i in cc))
      p)

  -- END: after the last level all cells of the frame are done
  pub levels_all : (c : ℕ) → InFrame t touched c → IsPassed level (top + 1) [] c
  levels_all c f = let k = levels.complete c f in let high = k.2 in inl (k.0, k.1, omega (arith, high), k.3)
