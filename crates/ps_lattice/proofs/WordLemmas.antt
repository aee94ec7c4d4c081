-- The joins by each entry and each pair, and the least states.
use Rattle.std.proofs.Common.{◌≡◌, ℕ, max, Bool, true, false, ◌||◌, Option, Some, None, unwrap_or, is_some, refl, sym}
use Rattle.std.proofs.Common.{ap, ◌∙◌, arith}
use mathlib.Core.Bool.{false≢true}
use Rattle.std.specs.Option.{option_map_or}
use Rattle.std.specs.declared.cmp.Ordering.{Ordering}
use Rattle.std.specs.Ordering.{nat_cmp}
use Rattle.std.specs.Cmp.{IsTotalOrder, nat_cmp_total}
use Rattle.std.specs.FinMap as map
use Rattle.std.specs.FinMap.{IsAntisymmetric, same_map, get-empty, nat_cmp-IsAntisymmetric}
use Rattle.ps_lattice.specs.declared.tally.Count.{Count}
use Rattle.ps_lattice.specs.Maps.{both_of, joined_maps}
use Rattle.ps_lattice.specs.MapLaws.{get-joined_maps}
use Rattle.ps_lattice.specs.Tally.{greater_counts}
use Rattle.ps_lattice.specs.Choice.{pair_cmp, pair_of}
use Rattle.ps_lattice.specs.ChoiceLaws.{pairs_total, pairs_apart}
use Rattle.ps_lattice.specs.JoinWords.{TalliesJoinByMaximum, ChoicesJoinByUnion, EmptyIsLeast}

-- the greater of one of the two counts
part_both : (part : Count → ℕ) → ((x y : Count) → part (greater_counts x y) ≡ max (part x) (part y))
    → (a b : Option Count)
    → option_map_or part (both_of greater_counts a b) 0 ≡ max (option_map_or part a 0) (option_map_or part b 0)
part_both part greater None b = omega arith
part_both part greater (Some x) None = omega arith
part_both part greater (Some x) (Some y) = greater x y

pub by_maximum : TalliesJoinByMaximum
by_maximum s t r =
    let at = get-joined_maps nat_cmp greater_counts nat_cmp_total s t r in
    record {
      added = ap (λ o. option_map_or (λ (c : Count). c.added) o 0) at
          ∙ part_both (λ c. c.added) (λ x y. refl) (map.get s r) (map.get t r);
      subtracted = ap (λ o. option_map_or (λ (c : Count). c.subtracted) o 0) at
          ∙ part_both (λ c. c.subtracted) (λ x y. refl) (map.get s r) (map.get t r);
    }

or_false : (a : Bool) → a ≡ (a || false)
or_false true = refl
or_false false = refl

there_both : (a b : Option Bool) → is_some (both_of ◌||◌ a b) ≡ (is_some a || is_some b)
there_both None b = refl
there_both (Some x) None = refl
there_both (Some x) (Some y) = refl

gone_both : (a b : Option Bool) → unwrap_or (both_of ◌||◌ a b) false ≡ (unwrap_or a false || unwrap_or b false)
gone_both None b = refl
gone_both (Some x) None = or_false x
gone_both (Some x) (Some y) = refl

same_value : (a b : Option Bool) → is_some a ≡ is_some b → unwrap_or a false ≡ unwrap_or b false → a ≡ b
same_value None None p q = refl
same_value None (Some y) p q = absurd (false≢true p)
same_value (Some x) None p q = absurd (false≢true (sym p))
same_value (Some x) (Some y) p q = ap Some q

pub by_union : ChoicesJoinByUnion
by_union = (
  λ c d o r s.
      let at = get-joined_maps pair_cmp ◌||◌ pairs_total c d (pair_of o r s) in
      record {
        added = ap is_some at ∙ there_both (map.get c (pair_of o r s)) (map.get d (pair_of o r s));
        removed = ap (λ a. unwrap_or a false) at ∙ gone_both (map.get c (pair_of o r s)) (map.get d (pair_of o r s));
      },
  λ c d same. same_map pairs_total pairs_apart c d (λ q.
      same_value (map.get c q) (map.get d q) (same.added q.option q.replica q.sequence)
      (same.removed q.option q.replica q.sequence)),
)

module _ {K X : Type 0} (R : K → K → Ordering) (f : X → X → X) (o : IsTotalOrder R) (same : IsAntisymmetric R) where
  unchanged : (a : Option X) → both_of f a None ≡ a
  unchanged None = refl
  unchanged (Some x) = refl

  joined_empty : (m : map.FinMap R X) → joined_maps f m map.empty ≡ m
  joined_empty m = same_map o same (joined_maps f m map.empty) m (λ q.
      get-joined_maps R f o m map.empty q ∙ ap (both_of f (map.get m q)) (get-empty R q) ∙ unchanged (map.get m q))

pub least : EmptyIsLeast
least = (
  joined_empty nat_cmp greater_counts nat_cmp_total nat_cmp-IsAntisymmetric,
  joined_empty pair_cmp ◌||◌ pairs_total pairs_apart,
)
