-- The formulas of cells, as the index has them, and the first values of cells.
use Rattle.std.specs.Prelude.{ℕ, Option, Some, None, List, [], ◌∷◌, map, fold}
use Rattle.ps_value.specs.declared.value.Value.{Value}
use Rattle.ps_formula.specs.Tree.{Tree}
use Rattle.ps_content.specs.Order.{formula_in}
use Rattle.ps_index.specs.Stands.{Puts, with_put}
use Rattle.ps_shown.specs.declared.kept.Kept.{Kept}
use Rattle.ps_shown.specs.Kept.{value_of as value_kept}
use Rattle.ps_delta.specs.State.{State}
use Rattle.ps_delta.specs.Deltas.{Entries}
use Rattle.ps_cells.specs.Settled.{content_of}
use Rattle.ps_cells.specs.Inside.Waiting.{first_value}

abbrev pub as_list : Option Tree → List Tree
as_list None = []
as_list (Some t) = t ∷ []

-- for each cell its formula
abbrev pub forms_of : State → Puts
forms_of s c = as_list (formula_in (content_of (s c)))

-- the formulas `forms`, and also those of the entries, put in one after the other
abbrev pub with_puts : Entries → Puts → Puts
with_puts entries forms = fold (λ f e. with_put e.0 (formula_in (content_of e.1)) f) forms entries

-- the entries' cells, each with what it shows at first
abbrev pub firsts : Entries → List (ℕ × Value)
firsts entries = map (λ e. (e.0, first_value e.1)) entries

-- the cells, each with the value that is stored for it
abbrev pub shown_firsts : List (ℕ × Kept) → List (ℕ × Value)
shown_firsts cells = map (λ e. (e.0, value_kept e.1)) cells
