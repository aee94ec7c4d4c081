-- A code of what contracts see of a screen. Nothing but the view of `Screen` uses it.
use Rattle.std.specs.Prelude.{ℕ, List, refl}
use Rattle.std.specs.Coded.{Coded, code_by, coded×, coded_ℕ, coded_list}
use Rattle.ps_value.specs.declared.value.Value.{Value}
use Rattle.ps_value.specs.contracts.value.Value as value
use Rattle.ps_shown.specs.declared.kept.Kept.{Kept}
use Rattle.ps_shown.specs.contracts.kept.Kept as kept
use Rattle.ps_cells.specs.Inside.Screens.{ScreenView}

-- a screen is stored as the tuple of its parts
abbrev pub screen_code : Coded ScreenView
screen_code =
    code_by ((List Kept × List (ℕ × Kept)) × (List ℕ × List (ℕ × Value)))
    (coded× (coded× (coded_list kept.the_row.coded) (coded_list (coded× coded_ℕ kept.the_row.coded)))
    (coded× (coded_list coded_ℕ) (coded_list (coded× coded_ℕ value.the_row.coded))))
    (λ s. ((s.kept, s.olds), (s.changed, s.changes)))
    (λ p. record { kept = p.0.0; olds = p.0.1; changed = p.1.0; changes = p.1.1 })
    (λ _. refl)
