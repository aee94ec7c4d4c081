-- No fault of a table is a device's.
use Rattle.std.proofs.Common.{◌≡◌, ◌⊎◌, ◌∷◌, [], ℕ, List, Bool, true, false}
use Rattle.std.proofs.Common.{inl, inr, Result, Ok, Err, IfErr, Option, Some, None, IfSome, IfNone}
use Rattle.csv.specs.declared.error.Error.{Error}
use Rattle.ps_grid.specs.declared.refusal.Refusal.{Refusal}
use Rattle.ps_grid.specs.declared.refusal.Refusal.TheVariants.{Csv, Device, Memory}
use Rattle.ps_value.specs.Label.{is_label}
use Rattle.ps_content.specs.Entry.{Kind, Reads, ReadsText, too_long, empty, formula, tally, choice, number, text}
use Rattle.ps_delta.specs.State.{State}
use Rattle.ps_csv.specs.declared.table.Table.{Table}
use Rattle.ps_csv.specs.declared.fault.ImportFault.{ImportFault}
use Rattle.ps_csv.specs.Faults.{EntryFault, FirstFault, ReaderFails, RecordFault}
use Rattle.ps_csv.specs.Records.{Record}

-- no field's refusal is a device's
text_refusal : (b : Bool) (label : List ℕ) (e : Refusal) → ReadsText b label (Err e) → e ≡ Device → ⊥
text_refusal true label e is device = cc
text_refusal false label e is device = cc

entry_refusal : (k : Kind) (bytes : List ℕ) (e : Refusal) → Reads k bytes (Err e) → e ≡ Device → ⊥
entry_refusal too_long bytes e reads device = cc
entry_refusal empty bytes e reads device = cc
entry_refusal formula bytes e reads device =
    elim reads.refused [
      | inl of_formula ↦ cc
      | inr other ↦ elim other [ inl long ↦ cc | inr memory ↦ cc ]
    ]
entry_refusal tally bytes e reads device = cc
entry_refusal choice bytes e reads device = cc
entry_refusal (number value) bytes e reads device = cc
entry_refusal (text label) bytes e reads device = text_refusal (is_label label) label e reads device

entry_fault_refusal : (s : State) (c : ℕ) (field : List ℕ) (e : Refusal) → EntryFault s c field e → e ≡ Device → ⊥
unfolding EntryFault
entry_fault_refusal s c [] e fault device = fault
entry_fault_refusal s c (b ∷ bs) e (inl of_entry) device = entry_refusal _ (b ∷ bs) e of_entry.0 device
entry_fault_refusal s c (b ∷ bs) e (inr full) device = let is = full.3 in cc

record_fault_refusal : (s : State) (n : ℕ) (fields : Record) (e : Refusal) → RecordFault s n fields e → e ≡ Device → ⊥
record_fault_refusal s n fields e at_fault device =
    elim at_fault.fault [
      | inl past ↦ let is = past.1 in cc
      | inr within ↦ entry_fault_refusal s _ at_fault.field e within.1 device
    ]

pub first_fault_refusal : (s : State) (bytes : List ℕ) (e : Refusal) → FirstFault s bytes e → e ≡ Device → ⊥
first_fault_refusal s bytes e first device =
    elim first.fault [
      | inl past ↦ let is = past.1 in cc
      | inr within ↦ record_fault_refusal s _ first.here e within.1 device
    ]

-- so no fault of a table is a device's
no_device_of : (own : Option Error) (t : State) (bytes : List ℕ) (e : Refusal) (P : Type 0)
    → IfNone own ((e ≡ Memory) ⊎ FirstFault t bytes e) → IfSome own (λ error. (e ≡ Csv) × ReaderFails t bytes error)
    → e ≡ Device → P
no_device_of (Some error) t bytes e P fault reader device = let is = reader.0 in cc
no_device_of None t bytes e P (inl memory) reader device = cc
no_device_of None t bytes e P (inr first) reader device = absurd (first_fault_refusal t bytes e first device)

pub no_device : (r : Result Table ImportFault) (t : State) (bytes : List ℕ) (P : Type 0)
    → IfErr r (λ f. IfNone f.reader_error ((f.refusal ≡ Memory) ⊎ FirstFault t bytes f.refusal))
    → IfErr r (λ f. IfSome f.reader_error (λ error. (f.refusal ≡ Csv) × ReaderFails t bytes error))
    → IfErr r (λ f. f.refusal ≡ Device → P)
no_device (Ok x) t bytes P fault reader = tt
no_device (Err f) t bytes P fault reader = no_device_of f.reader_error t bytes f.refusal P fault reader
