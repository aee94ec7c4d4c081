-- Facts about evaluation that the proof of the recalculation uses.
use Rattle.std.specs.Prelude.{◌≡◌, ℕ, IsTrue}
use Rattle.ps_value.specs.declared.value.Value.TheVariants.{Err}
use Rattle.ps_value.specs.declared.value.Fault.TheVariants.{Cycle}
use Rattle.ps_formula.specs.Tree.{Tree}
use Rattle.ps_formula.specs.References.{mentions}
use Rattle.ps_eval.specs.Items.{Assignment}
use Rattle.ps_eval.specs.Value.{ev}

-- two assignments that agree on each cell that a formula refers to give it the same value
abbrev pub DependsOnReferencesAlone : Type 0
DependsOnReferencesAlone =
    (t : Tree) (v w : Assignment) → ((c : ℕ) → IsTrue (mentions t c) → v c ≡ w c) → ev t v ≡ ev t w

-- a formula's value is the fault of a cycle only where a cell that it refers to shows that fault
abbrev pub CycleComesFromReferences : Type 0
CycleComesFromReferences =
    (t : Tree) (v : Assignment) → ev t v ≡ Err Cycle → (c : ℕ) × IsTrue (mentions t c) × (v c ≡ Err Cycle)
