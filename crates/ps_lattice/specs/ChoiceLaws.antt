-- The join of choices keeps the laws of a join.
use Rattle.std.specs.Prelude.{◌≡◌, Bool, true, false, ◌||◌}
use Rattle.std.specs.Ordering.{nat_cmp}
use Rattle.std.specs.Cmp.{IsTotalOrder, then_total, on_total, nat_cmp_total}
use Rattle.std.specs.FinMap.{IsAntisymmetric, nat_cmp-IsAntisymmetric}
use Rattle.std.proofs.Common.{refl}
use Rattle.ps_lattice.specs.Orders.{both_tied}
use Rattle.ps_lattice.specs.MapLaws.{IsJoin, maps_is_join}
use Rattle.ps_lattice.specs.Choice.{pair_cmp, joined_choices}

pub pairs_total : IsTotalOrder pair_cmp
pairs_total =
    then_total (on_total (λ p. p.option) nat_cmp_total)
    (then_total (on_total (λ p. p.replica) nat_cmp_total) (on_total (λ p. p.sequence) nat_cmp_total))

pub pairs_apart : IsAntisymmetric pair_cmp
pairs_apart p q e =
    let first = both_tied (nat_cmp p.option q.option) _ e in
    let second = both_tied (nat_cmp p.replica q.replica) _ first.1 in
    let option = nat_cmp-IsAntisymmetric p.option q.option first.0 in
    let replica = nat_cmp-IsAntisymmetric p.replica q.replica second.0 in
    let sequence = nat_cmp-IsAntisymmetric p.sequence q.sequence second.1 in
    λ i. record { option = option i; replica = replica i; sequence = sequence i }

or_associative : (a b c : Bool) → ((a || b) || c) ≡ (a || (b || c))
or_associative true b c = refl
or_associative false b c = refl

or_commutative : (a b : Bool) → (a || b) ≡ (b || a)
or_commutative true true = refl
or_commutative true false = refl
or_commutative false true = refl
or_commutative false false = refl

or_idempotent : (a : Bool) → (a || a) ≡ a
or_idempotent true = refl
or_idempotent false = refl

pub removals_is_join : IsJoin ◌||◌
removals_is_join = record { associative = or_associative; commutative = or_commutative; idempotent = or_idempotent }

pub choices_is_join : IsJoin joined_choices
choices_is_join = maps_is_join pair_cmp ◌||◌ pairs_total pairs_apart removals_is_join
