-- The join of registers keeps the laws of a join.
use Rattle.std.specs.declared.cmp.Ordering.{Ordering}
use Rattle.std.specs.Ordering.{nat_cmp}
use Rattle.std.specs.Cmp.{IsTotalOrder, then_total, on_total, nat_cmp_total}
use Rattle.std.specs.FinMap.{IsAntisymmetric, nat_cmp-IsAntisymmetric}
use Rattle.ps_lattice.specs.Orders.{larger_associative, larger_commutative, larger_idempotent, both_tied}
use Rattle.ps_lattice.specs.MapLaws.{IsJoin, both_of_is_join}
use Rattle.ps_lattice.specs.Register.{assignment_cmp, later, joined_registers}

module _ {V : Type 0} (C : V → V → Ordering) (o : IsTotalOrder C) (same : IsAntisymmetric C) where
  pub assignments_total : IsTotalOrder (assignment_cmp C)
  assignments_total =
      then_total (on_total (λ a. a.time) nat_cmp_total)
      (then_total (on_total (λ a. a.replica) nat_cmp_total) (on_total (λ a. a.content) o))

  pub assignments_apart : IsAntisymmetric (assignment_cmp C)
  assignments_apart a b e =
      let first = both_tied (nat_cmp a.time b.time) _ e in
      let second = both_tied (nat_cmp a.replica b.replica) _ first.1 in
      let time = nat_cmp-IsAntisymmetric a.time b.time first.0 in
      let replica = nat_cmp-IsAntisymmetric a.replica b.replica second.0 in
      let content = same a.content b.content second.1 in
      λ i. record { time = time i; replica = replica i; content = content i }

  later_is_join : IsJoin (later C)
  later_is_join = record {
    associative = larger_associative (assignment_cmp C) assignments_total assignments_apart;
    commutative = larger_commutative (assignment_cmp C) assignments_total assignments_apart;
    idempotent = larger_idempotent (assignment_cmp C) assignments_total assignments_apart;
  }

  pub registers_is_join : IsJoin (joined_registers C)
  registers_is_join = both_of_is_join later_is_join
