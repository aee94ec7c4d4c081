-- The faults of the table.
use Rattle.std.specs.Prelude.{◌≡◌, ◌<◌, ◌≤◌, ℕ, List, Option, None, true, is_some, slice_index_or}
use Rattle.ps_value.specs.declared.value.Fault.{Fault}
use Rattle.ps_eval.specs.Items.{cell_items, first_fault}
use Rattle.ps_shown.specs.declared.kept.Kept.{Kept}
use Rattle.ps_shown.specs.declared.kept.Kept.TheVariants.{Empty}
use Rattle.ps_shown.specs.Kept.{value_of}

-- the fault at a place, if there is one
abbrev pub fault_kept : List Kept → ℕ → Option Fault
fault_kept kept p = first_fault (cell_items (value_of (slice_index_or kept p Empty)))

-- r is the first place from p up to q, without q, that has a fault, or q if none has
pub record IsFirstFault (kept : List Kept) (p q r : ℕ) : Type 0 where
  pub order : p ≤ r
  pub within : r ≤ q
  pub clean : (j : ℕ) → p ≤ j → j < r → fault_kept kept j ≡ None
  pub there : r < q → is_some (fault_kept kept r) ≡ true
