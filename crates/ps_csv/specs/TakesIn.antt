-- How the import of a table ends.
use Rattle.std.specs.Prelude.{◌≡◌, ◌≢◌, ℕ, ◌<◌, List, Option, Result, IfOk, IfErr, IfNone, IfSome, OnOk}
use Rattle.ps_grid.specs.declared.refusal.Refusal.TheVariants.{Device, Memory}
use Rattle.ps_delta.specs.Deltas.{joined_history}
use Rattle.ps_sheet.specs.Sheet.{IsSheet, SheetView}
use Rattle.ps_csv.specs.declared.fault.ImportFault.{ImportFault}
use Rattle.ps_csv.specs.declared.incoming.Imported.{Imported}
use Rattle.ps_csv.specs.Faults.{TableFault, TableReaderFails}
use Rattle.ps_csv.specs.Imports.{ImportsTable, LieInGrid, ReadToEnd, StopsAfter}

-- TAKES IN: how the import of a source's table into a sheet ends. The whole table was imported. Or the import failed
-- for the stated reason, and nothing was assigned, with one exception: if memory ran out amid the records, the records
-- before stay assigned. The source was `before` and is `after`, and the sheet was `old` and is `new`. A meter had
-- counted `counted_before` evaluations, and now has counted `counted_after`
pub record TakesIn {S : Type 0} (remaining : S → Option (List ℕ)) (failures : S → ℕ) (before after : S)
    (old new : SheetView) (counted_before counted_after : ℕ) (result : Result Imported ImportFault) : Type 0 where
  pub imported : IfOk result (λ i. ReadToEnd (remaining before) (remaining after)
      (λ bytes. ImportsTable bytes i.records i.fields old new))
  pub extent : IfOk result (λ i. LieInGrid i.records i.fields)
  pub calm : OnOk result (failures after ≡ failures before)
  pub refused : IfErr result (λ f. IfNone f.reader_error
      (TableFault (joined_history old.history) (remaining before) (remaining after) f.refusal))
  pub reader : IfErr result (λ f. IfSome f.reader_error
      (TableReaderFails (joined_history old.history) (remaining before) (remaining after) f.refusal))
  pub device : IfErr result (λ f. f.refusal ≡ Device → failures before < failures after)
  pub steady : IfErr result (λ f. f.refusal ≢ Device → failures after ≡ failures before)
  pub none : IfErr result (λ f. f.refusal ≢ Memory → f.applied ≡ 0)
  pub kept : IfErr result (λ f. f.applied ≡ 0 → (new ≡ old) × (counted_after ≡ counted_before))
  pub stopped : IfErr result (λ f. 0 < f.applied → ReadToEnd (remaining before) (remaining after)
      (λ bytes. StopsAfter bytes f.applied old new))
  pub replica : new.replica ≡ old.replica
  pub workers : new.workers ≡ old.workers
  pub sheet : IsSheet new
