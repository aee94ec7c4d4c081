-- What the function that makes the delta of an edit returns.
use Rattle.std.specs.Prelude.{◌≡◌, ◌⊎◌, Result, Ok, Err, IfOk, IfErr, IsErrOf, IsOk}
use Rattle.ps_grid.specs.declared.refusal.Refusal.{Refusal}
use Rattle.ps_grid.specs.declared.refusal.Refusal.TheVariants.{Memory}
use Rattle.ps_delta.specs.Deltas.{Entries, IsDelta}

-- the answer is the wanted delta, the wanted refusal, or `Memory`; `Memory` only if a delta is wanted
pub record MakesDelta (wanted answer : Result Entries Refusal) : Type 0 where
  pub made : IfOk answer (λ d. wanted ≡ Ok d)
  pub delta : IfOk answer IsDelta
  pub refused : IfErr answer (λ e. (e ≡ Memory) ⊎ (wanted ≡ Err e))
  pub asked : IsErrOf answer Memory → IsOk wanted
