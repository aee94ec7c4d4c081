use Rattle.std.proofs.Common.{rules, ◌≡◌, ◌∙◌, ℕ, Bool, true, false, List, Option}
use Rattle.std.proofs.Common.{sym, ap}
use Rattle.std.proofs.Common.{Some, None, IfSome, IfNone, []}
use Rattle.csv.specs.declared.error.Error.{Error}
use Rattle.ps_grid.specs.declared.refusal.Refusal.{Refusal}
use Rattle.ps_grid.specs.declared.refusal.Refusal.TheVariants.{Device}
use Rattle.ps_delta.specs.Deltas.{joined_history}
use Rattle.ps_csv.specs.Faults.{TableReaderFails}
use Rattle.ps_commands.specs.Commands.{IsCauseOf}
use Rattle.ps_commands.specs.Status.{program_fault}
use Rattle.ps_commands.specs.declared.fault.ProgramFault.{ProgramFault}
use Rattle.ps_commands.specs.declared.fault.ProgramFault.TheVariants.{Refused}
use Rattle.ps_commands.proofs.Causes.{fault_in, refusal_of}
use Rattle.ps_commands.proofs.table.taken_in.Goals as goal

abbrev is_refused : ProgramFault → Bool
is_refused (Refused e) = true
is_refused _ = false

-- an import ends the program with a device's fault only where a device failed
device_of : (own : Option Error) (e : Refusal) → program_fault own e ≡ Refused Device → e ≡ Device
device_of None e h = ap (refusal_of e) h
device_of (Some error) e h = absurd (let f : false ≡ true = ap is_refused h in cc)

-- the cause of the fault that an import's fault is
cause_of : (old new : Option (List ℕ)) (own : Option Error) (e : Refusal)
    → IfNone own (IsCauseOf old new (Refused e))
    → IfSome own (TableReaderFails (joined_history []) old new e)
    → IsCauseOf old new (program_fault own e)
cause_of old new None e refused reader = refused
cause_of old new (Some error) e refused reader = reader.1

pub returns-in-Err-clause-refused : goal.returns-in-Err-clause-refused
returns-in-Err-clause-refused g c =
    let empty : c.in_ok-sheet.sheet.history ≡ [] = search rules in
    let refused = rw empty at c.in-Err.ensures.refused in
    let reader = rw empty at c.in-Err.ensures.reader in
    rw c.fault_of_import.ensures
    (cause_of _ _ c.in-Err.fault.reader_error c.in-Err.fault.refusal refused reader)

pub returns-in-Err-clause-device : goal.returns-in-Err-clause-device
returns-in-Err-clause-device g c = λ h.
    c.in-Err.ensures.device
    (device_of c.in-Err.fault.reader_error c.in-Err.fault.refusal
    (sym c.fault_of_import.ensures ∙ ap (fault_in (Refused Device)) h))
