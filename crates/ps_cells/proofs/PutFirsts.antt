-- Cells that show their first values.
use Rattle.std.proofs.Common.{◌≡◌, ℕ, true, false, List, [], ◌∷◌, sym, ap, ◌∙◌, ⊎_elim, eq-eqb, ne_eqb}
use Rattle.std.specs.Prelude.{if◌then◌else◌}
use Rattle.std.specs.List.{All}
use Rattle.std.proofs.lemmas.Bool.{cases_eq}
use Rattle.std.proofs.lemmas.List.Elements.{All-head, All-tail}
use Rattle.ps_grid.specs.Chains.{In}
use Rattle.ps_grid.proofs.ChainLemmas.{In-cases}
use Rattle.ps_eval.specs.Items.{Assignment}
use Rattle.ps_shown.specs.declared.kept.Kept.{Kept}
use Rattle.ps_shown.specs.Kept.{value_of as value_kept}
use Rattle.ps_shown.specs.Shown.{with_value}
use Rattle.ps_delta.specs.State.{State}
use Rattle.ps_cells.specs.Inside.Screens.{cells_in, put_back}
use Rattle.ps_cells.specs.Inside.Waiting.{first_value}

-- each cell of the list shows its first value
pub put_shows : (s : State) (es : List (ℕ × Kept)) (v : Assignment)
    → All (λ e. value_kept e.1 ≡ first_value (s e.0)) es → (c : ℕ) → In (cells_in es) c
    → put_back es v c ≡ first_value (s c)
unfolding put_back with_value
put_shows s [] v all c i = absurd (let f : false ≡ true = i in cc)
put_shows s (e ∷ es) v all c i =
    ⊎_elim
    (λ (same : c ≡ e.0). ap (λ b. if b then value_kept e.1 else put_back es v c) (eq-eqb e.0 c (sym same))
    ∙ (All-head (λ (q : ℕ × Kept). value_kept q.1 ≡ first_value (s q.0)) e es all
    ∙ ap (λ q. first_value (s q)) (sym same)))
    (λ ne. ap (λ b. if b then value_kept e.1 else put_back es v c) (ne_eqb e.0 c (λ q. ne (sym q)))
    ∙ put_shows s es v (All-tail (λ (q : ℕ × Kept). value_kept q.1 ≡ first_value (s q.0)) e es all) c
    (⊎_elim (λ q. absurd (ne q)) (λ later. later) (In-cases c e.0 (cells_in es) i)))
    (cases_eq c e.0)
