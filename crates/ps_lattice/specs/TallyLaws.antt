-- The join of counters keeps the laws of a join.
use Rattle.std.specs.Prelude.{◌≡◌, ℕ, max}
use Rattle.std.specs.Ordering.{nat_cmp}
use Rattle.std.specs.Cmp.{nat_cmp_total}
use Rattle.std.specs.FinMap.{nat_cmp-IsAntisymmetric}
use Rattle.std.proofs.Common.{arith}
use Rattle.ps_lattice.specs.MapLaws.{IsJoin, maps_is_join}
use Rattle.ps_lattice.specs.Tally.{greater_counts, joined_tallies}

max_associative : (a b c : ℕ) → max (max a b) c ≡ max a (max b c)
max_associative a b c = omega arith

max_commutative : (a b : ℕ) → max a b ≡ max b a
max_commutative a b = omega arith

max_idempotent : (a : ℕ) → max a a ≡ a
max_idempotent a = omega arith

pub counts_is_join : IsJoin greater_counts
counts_is_join = record {
  associative = λ x y z i. record {
    added = max_associative x.added y.added z.added i;
    subtracted = max_associative x.subtracted y.subtracted z.subtracted i;
  };
  commutative = λ x y i. record {
    added = max_commutative x.added y.added i;
    subtracted = max_commutative x.subtracted y.subtracted i;
  };
  idempotent = λ x i. record { added = max_idempotent x.added i; subtracted = max_idempotent x.subtracted i };
}

pub tallies_is_join : IsJoin joined_tallies
tallies_is_join = maps_is_join nat_cmp greater_counts nat_cmp_total nat_cmp-IsAntisymmetric counts_is_join
