-- What a fault that a result has is.
use Rattle.std.specs.Prelude.{Result, Ok, Err}
use Rattle.ps_grid.specs.declared.refusal.Refusal.{Refusal}
use Rattle.ps_commands.specs.declared.fault.ProgramFault.{ProgramFault}
use Rattle.ps_commands.specs.declared.fault.ProgramFault.TheVariants.{Refused}

-- the fault that a result has, or this one
abbrev pub fault_in : {X : Type 0} → ProgramFault → Result X ProgramFault → ProgramFault
fault_in other (Ok done) = other
fault_in other (Err fault) = fault

-- the refusal that a fault is, or this one
abbrev pub refusal_of : Refusal → ProgramFault → Refusal
refusal_of other (Refused e) = e
refusal_of other _ = other
