-- A last-writer register: nothing yet, or an assignment, which has a stamp (a time and a
-- replica) and a content. The greater assignment stays, by stamp and then by the order of contents.
use Rattle.std.specs.Prelude.{ℕ, Bool, ◌&&◌, true, nat_le, Option}
use Rattle.std.specs.Option.{option_map_or}
use Rattle.std.specs.declared.cmp.Ordering.{Ordering}
use Rattle.std.specs.Ordering.{nat_cmp, on, then_cmp}
use Rattle.std.specs.Borrow.{Bor}
use Rattle.ps_lattice.specs.declared.register.Assignment.{Assignment}
use Rattle.ps_lattice.specs.declared.limits.TheConstants.{LAST_TIME}
use Rattle.ps_lattice.specs.Limits.{is_replica}
use Rattle.ps_lattice.specs.Maps.{both_of}
use Rattle.ps_lattice.specs.Orders.{larger}

-- the assignment, read through a reference to its content
abbrev pub looked_at : {V : Type 0} → Assignment (Bor V) → Assignment V
looked_at a = record { time = a.time; replica = a.replica; content = a.content.now }

-- by time, then by replica, then by the order of contents
abbrev pub assignment_cmp : {V : Type 0} → (V → V → Ordering) → Assignment V → Assignment V → Ordering
assignment_cmp by_content =
    then_cmp (on (λ a. a.time) nat_cmp) (then_cmp (on (λ a. a.replica) nat_cmp) (on (λ a. a.content) by_content))

-- the greater of two assignments
abbrev pub later : {V : Type 0} → (V → V → Ordering) → Assignment V → Assignment V → Assignment V
later by_content = larger (assignment_cmp by_content)

-- the greater of two registers; nothing is least
abbrev pub joined_registers : {V : Type 0} → (V → V → Ordering) → Option (Assignment V) → Option (Assignment V)
    → Option (Assignment V)
joined_registers by_content = both_of (later by_content)

-- the time of the register, 0 where nothing is assigned
abbrev pub time_of : {V : Type 0} → Option (Assignment V) → ℕ
time_of r = option_map_or (λ a. a.time) r 0

-- a Lamport timestamp: a time of 1 to the last one, and a replica
abbrev pub is_stamp : ℕ → ℕ → Bool
is_stamp time replica = nat_le 1 time && nat_le time LAST_TIME && is_replica replica

abbrev pub is_register : {V : Type 0} → Option (Assignment V) → Bool
is_register r = option_map_or (λ a. is_stamp a.time a.replica) r true
