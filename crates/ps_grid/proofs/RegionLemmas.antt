-- Laws of the region of a change: before and after a change that differs at touched cells alone.
use Rattle.std.proofs.Common.{◌≡◌, ℕ, true, false, List, [], ◌∷◌, sym, ◌∙◌, ⊎_elim, eqb}
use Rattle.std.specs.List.{list_any}
use Rattle.ps_grid.specs.Chains.{References, In, IsChain, last_of, IsCyclic, InRegion}
use Rattle.ps_grid.proofs.ChainLemmas.{bool_cases}

-- a touched cell is in the region
pub InRegion-touched : (refers : References) (touched : List ℕ) (c : ℕ) → In touched c → InRegion refers touched c
InRegion-touched refers touched c h = ([], tt, h)

-- a cell with a reference into the region is in it
pub InRegion-step : (refers : References) (touched : List ℕ) (c d : ℕ) → refers c d ≡ true
    → InRegion refers touched d → InRegion refers touched c
InRegion-step refers touched c d r h = (d ∷ h.0, (r, h.1), h.2)

least_along : (refers : References) (touched : List ℕ) (P : ℕ → Type 0)
    → ((c : ℕ) → In touched c → P c)
    → ((c d : ℕ) → refers c d ≡ true → P d → P c)
    → (c : ℕ) (rest : List ℕ) → IsChain refers c rest → In touched (last_of c rest) → P c
least_along refers touched P holds closed c [] ch h = holds c h
least_along refers touched P holds closed c (d ∷ rest) ch h =
    closed c d ch.0 (least_along refers touched P holds closed d rest ch.1 h)

-- the region is least: a fact of the touched cells holds of the whole region, if it carries over from each cell to
-- the cells that refer to it
pub InRegion-least : (refers : References) (touched : List ℕ) (P : ℕ → Type 0)
    → ((c : ℕ) → In touched c → P c)
    → ((c d : ℕ) → refers c d ≡ true → P d → P c)
    → (c : ℕ) → InRegion refers touched c → P c
InRegion-least refers touched P holds closed c h = least_along refers touched P holds closed c h.0 h.1 h.2

module _ (old new : References) (touched : List ℕ)
    (same : (c d : ℕ) → list_any (eqb c) touched ≡ false → old c d ≡ new c d) where
  -- a chain of old references to a touched cell: cut at its first touched cell it is one of new references
  old_region : (c : ℕ) (rest : List ℕ) → IsChain old c rest → In touched (last_of c rest) → InRegion new touched c
  old_region c [] ch h = InRegion-touched new touched c h
  old_region c (d ∷ rest) ch h =
      ⊎_elim
      (λ t. InRegion-touched new touched c t)
      (λ f. InRegion-step new touched c d (sym (same c d f) ∙ ch.0) (old_region d rest ch.1 h))
      (bool_cases (list_any (eqb c) touched))

  new_region : (c : ℕ) (rest : List ℕ) → IsChain new c rest → In touched (last_of c rest) → InRegion old touched c
  new_region c [] ch h = InRegion-touched old touched c h
  new_region c (d ∷ rest) ch h =
      ⊎_elim
      (λ t. InRegion-touched old touched c t)
      (λ f. InRegion-step old touched c d (same c d f ∙ ch.0) (new_region d rest ch.1 h))
      (bool_cases (list_any (eqb c) touched))

  -- old and new chains give the same region
  pub same_region : (c : ℕ)
      → (InRegion old touched c → InRegion new touched c) × (InRegion new touched c → InRegion old touched c)
  same_region c = ((λ r. old_region c r.0 r.1 r.2), (λ r. new_region c r.0 r.1 r.2))

  -- outside the region the chains are the same
  outside_chain : (c : ℕ) (rest : List ℕ) → (InRegion new touched c → ⊥) → IsChain old c rest → IsChain new c rest
  outside_chain c [] out ch = tt
  outside_chain c (d ∷ rest) out ch =
      let untouched : list_any (eqb c) touched ≡ false =
      ⊎_elim (λ t. absurd (out (InRegion-touched new touched c t))) (λ f. f) (bool_cases (list_any (eqb c) touched)) in
      let r : new c d ≡ true = sym (same c d untouched) ∙ ch.0 in
      (r, outside_chain d rest (λ i. out (InRegion-step new touched c d r i)) ch.1)

  outside_chain_back : (c : ℕ) (rest : List ℕ) → (InRegion new touched c → ⊥) → IsChain new c rest → IsChain old c rest
  outside_chain_back c [] out ch = tt
  outside_chain_back c (d ∷ rest) out ch =
      let untouched : list_any (eqb c) touched ≡ false =
      ⊎_elim (λ t. absurd (out (InRegion-touched new touched c t))) (λ f. f) (bool_cases (list_any (eqb c) touched)) in
      (same c d untouched ∙ ch.0, outside_chain_back d rest (λ i. out (InRegion-step new touched c d ch.0 i)) ch.1)

  -- outside the region a cell is cyclic after the change just where it was before
  pub same_cyclic : (c : ℕ) → (InRegion new touched c → ⊥)
      → (IsCyclic old c → IsCyclic new c) × (IsCyclic new c → IsCyclic old c)
  same_cyclic c out =
      ((λ h. (h.0, outside_chain c h.0 out h.1, h.2)), (λ h. (h.0, outside_chain_back c h.0 out h.1, h.2)))
