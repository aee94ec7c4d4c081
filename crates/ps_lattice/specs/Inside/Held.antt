-- What a register stores, as the assignment that contracts see.
use Rattle.std.specs.Prelude.{Option, Some, None}
use Rattle.ps_lattice.specs.declared.register.Assignment.{Assignment}
use Rattle.ps_lattice.specs.declared.register.Held.{Held}
use Rattle.ps_lattice.specs.declared.register.Held.TheVariants.{Nothing, Assigned}

abbrev pub assignment_in : {V : Type 0} → Held V → Option (Assignment V)
assignment_in Nothing = None
assignment_in (Assigned replica time content) =
    Some (record { time = time; replica = replica; content = content })
